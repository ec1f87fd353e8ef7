-- The law, for all images.
use Rattle.std.proofs.Common.{arith}
use Rattle.volume_meaning.proofs.Trails.{trail_on, trail_wider}
use Rattle.jump_insertion.proofs.readiness.trails_go_on.Goals as goal

pub returns : goal.returns
returns c = λ old new floor to later at p head extends more trail.
    trail_wider floor later (omega arith) more (trail_on extends trail)
