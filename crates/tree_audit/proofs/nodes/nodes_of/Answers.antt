-- All nodes, which of them the last level has, and the child cells.
use Rattle.std.proofs.Common.{ℕ, List, length, subst}
use Rattle.log_audit.specs.Kept.{image_of_kept}
use Rattle.tree_audit.specs.ChildCells.{IsLeadAmong}
use Rattle.tree_audit.specs.Marks.{AreMarked}
use Rattle.tree_audit.specs.Numbers.{AreAll}
use Rattle.tree_audit.proofs.Numbering.{are_nodes}
use Rattle.tree_audit.proofs.nodes.nodes_of.Goals as goal

pub returns : goal.returns
returns c = let g = c.args.geometry.now in let image = image_of_kept c.args.kept.now in
    are_nodes _ c.in_ok-nodes.ensures
    (subst (λ (xs : List ℕ). AreMarked g image 63 xs c.in_ok-on_last.on_last.items) c.deref-2.ensures.value c.in_ok-on_last.ensures)
    (subst (λ (xs : List ℕ). AreAll (IsLeadAmong g image xs (length xs)) c.in_ok-leads.leads.items) c.deref.ensures.value c.in_ok-leads.ensures)
