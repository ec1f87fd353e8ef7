-- The targets of the child cells before this turn's were added.
use Rattle.log_audit.specs.Kept.{image_of_kept}
use Rattle.tree_audit.specs.Nodes.{AddsChildTargets}
use Rattle.tree_audit.proofs.rows.push_targets.Given as goal

abbrev pub invariant-loop-place : goal.invariant-loop-place
invariant-loop-place l = AddsChildTargets l.geometry (image_of_kept l.kept) l.node l.place l.initial.targets.items l.targets.items
