-- The targets of the nodes before this turn's were found.
use Rattle.log_audit.specs.Kept.{image_of_kept}
use Rattle.tree_audit.proofs.Closing.{AreLastAdded, AreTargets}
use Rattle.tree_audit.proofs.rows.row_under.Given as goal

abbrev pub invariant-loop-number : goal.invariant-loop-number
invariant-loop-number l = AreTargets l.geometry (image_of_kept l.kept) l.row l.number-index l.under.items
    × AreLastAdded l.geometry (image_of_kept l.kept) l.last l.under.items
