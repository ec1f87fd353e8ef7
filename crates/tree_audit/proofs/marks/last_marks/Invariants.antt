-- The marks of this turn's level.
use Rattle.log_audit.specs.Kept.{image_of_kept}
use Rattle.tree_audit.specs.Marks.{AreMarked}
use Rattle.tree_audit.proofs.marks.last_marks.Given as goal

abbrev pub invariant-loop-level : goal.invariant-loop-level
invariant-loop-level l = AreMarked l.geometry (image_of_kept l._kept) l._level l.nodes l.marks.items
