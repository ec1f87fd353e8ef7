-- The ways so far were gone.
use Rattle.tree_audit.specs.Marks.{AreBehindLast}
use Rattle.tree_audit.proofs.Marking.{AreMarkedSoFar}
use Rattle.tree_audit.proofs.marks.marks_under.Given as goal

abbrev pub invariant-loop-way : goal.invariant-loop-way
invariant-loop-way l = AreBehindLast l.marks l.behind.items × AreMarkedSoFar l.ways l.way-index l.marks l.under.items
