-- Of the nodes before this turn's just the root is marked.
use Rattle.tree_audit.proofs.Marking.{AreRootsBelow}
use Rattle.tree_audit.proofs.marks.root_marks.Given as goal

abbrev pub invariant-loop-node : goal.invariant-loop-node
invariant-loop-node l = AreRootsBelow l.nodes l.root l.node-index l.marks.items
