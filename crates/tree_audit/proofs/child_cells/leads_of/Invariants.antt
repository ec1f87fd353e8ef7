-- The numbers of those before this turn's were gathered.
use Rattle.std.proofs.Common.{[]}
use Rattle.log_audit.specs.Kept.{image_of_kept}
use Rattle.tree_audit.specs.ChildCells.{IsLeadAmong}
use Rattle.tree_audit.specs.Numbers.{AddsNumbers}
use Rattle.tree_audit.proofs.Numbering.{AreLastLeads}
use Rattle.tree_audit.proofs.child_cells.leads_of.Given as goal

abbrev pub invariant-loop-number : goal.invariant-loop-number
invariant-loop-number l = AddsNumbers (IsLeadAmong l.geometry (image_of_kept l.kept) l.nodes l.number-index) [] l.leads.items
    × AreLastLeads l.geometry (image_of_kept l.kept) l.last l.leads.items
