-- The numbers of the places so far.
use Rattle.tree_audit.proofs.Marking.{AreBehindSoFar}
use Rattle.tree_audit.proofs.marks.behind_marked.Given as goal

abbrev pub invariant-loop-place : goal.invariant-loop-place
invariant-loop-place l = AreBehindSoFar l.marks l.place l.last l.behind.items
