-- The numbers of the child cells before this turn's were added.
use Rattle.log_audit.specs.Kept.{image_of_kept}
use Rattle.tree_audit.specs.ChildCells.{IsLeadOf}
use Rattle.tree_audit.specs.Numbers.{AddsNumbers}
use Rattle.tree_audit.proofs.child_cells.push_leads.Given as goal

abbrev pub invariant-loop-place : goal.invariant-loop-place
invariant-loop-place l = AddsNumbers (IsLeadOf l.geometry (image_of_kept l.kept) l.node l.place) l.initial.leads.items l.leads.items
