-- All nodes.
use Rattle.std.proofs.Common.{◌∙◌, arith}
use Rattle.tree_audit.proofs.Marking.{roots_marked}
use Rattle.tree_audit.proofs.marks.root_marks.Goals as goal

pub returns : goal.returns
returns c = roots_marked c.loop-node.invariant (omega (arith, c.loop-node-test.false, c.loop-node.auto.node-index-end)) (c.from-root.ensures ∙ c.root_at.ensures.at)
