-- The path comes down from the first level to this one.
use Rattle.std.proofs.Common.{◌-◌}
use Rattle.hash_tree.proofs.Walking.{WalksTo}
use Rattle.hash_tree.proofs.path.next_candidate.Given as goal

abbrev pub invariant-loop-here : goal.invariant-loop-here
invariant-loop-here g l =
    WalksTo l.volume.geometry l.edge (g.V.View.seen l.fn.view) (g.V.View.seen l.view) l.fn.level l.level

abbrev pub decreases-loop-here : goal.decreases-loop-here
decreases-loop-here g l = 64 - l.level.number
