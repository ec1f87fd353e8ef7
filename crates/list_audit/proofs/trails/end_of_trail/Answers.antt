-- The first block; the posting stands in a block, has no trail from it, or one that goes on; and no trail is longer.
use Rattle.std.proofs.Common.{arith}
use Rattle.log_audit.specs.Kept.{image_of_kept}
use Rattle.list_audit.proofs.Walking.{sets_out, goes_on}
use Rattle.list_audit.proofs.trails.end_of_trail.Goals as goal

pub loop-turn-init : goal.loop-turn-init
loop-turn-init c = sets_out c.args.geometry.now (image_of_kept c.args.kept.now) c.args.list c.args.posting.now _ c.requires.list
    (omega arith) c.list_at-block.ensures.at

pub loop-turn-preserved : goal.loop-turn-preserved
loop-turn-preserved c = goes_on c.loop-turn.invariant c.in-On.ensures
