-- The path is passed up to this level.
use Rattle.std.proofs.Common.{◌+◌, ◌-◌, ◌*◌}
use Rattle.std.specs.Prelude.{if◌then◌else◌}
use Rattle.identifier_lookup.proofs.Finding.{WalkSoFar}
use Rattle.identifier_lookup.proofs.walks.walk.Given as goal

abbrev pub invariant-loop-step : goal.invariant-loop-step
invariant-loop-step g l =
    WalkSoFar l.volume.geometry l.edge l.id (g.V.View.seen l.fn.view) (g.V.View.seen l.view) l.level

abbrev pub decreases-loop-step : goal.decreases-loop-step
decreases-loop-step g l = 2 * (64 - l.level.number) + (if l.level.answered then 0 else 1)
