-- The least finding of the nodes before this turn's.
use Rattle.log_audit.specs.KeptVolumes.{image_in}
use Rattle.tamper_rules.specs.Rules.{Children}
use Rattle.log_audit.specs.Least.{FindsPart}
use Rattle.log_audit.proofs.Parts.{AskedBelow}
use Rattle.tree_audit.specs.Children.{AsksChildren}
use Rattle.tree_audit.proofs.EachNode.{NodeAt}
use Rattle.tree_audit.proofs.children.first_broken_child.Given as goal

abbrev pub invariant-loop-number : goal.invariant-loop-number
invariant-loop-number l = FindsPart l.volume.geometry (image_in l.volume) Children
    (AskedBelow (NodeAt l.nodes.nodes.items (AsksChildren l.volume.geometry (image_in l.volume))) l.number-index) l.least
