-- The same blocks by rising numbers.
use Rattle.std.proofs.lemmas.Result.{IfOk-weaker}
use Rattle.log_audit.specs.Kept.{image_of_kept}
use Rattle.list_audit.specs.Blocks.{AreBlocks, AreInOrder}
use Rattle.list_audit.proofs.Numbering.{blocks_by}
use Rattle.list_audit.proofs.blocks.blocks_in_order.Goals as goal

pub returns : goal.returns
returns c = IfOk-weaker c.in_order.result (AreInOrder c.in_ok-found.found.blocks.items)
    (AreBlocks c.args.for_two c.args.geometry.now (image_of_kept c.args.kept.now))
    (λ ordered in_order. blocks_by c.in_ok-found.ensures.mode c.in_ok-found.ensures.taken c.in_ok-found.ensures.found in_order) c.in_order.ensures
