-- The least finding of the nodes before this turn's.
use Rattle.log_audit.specs.KeptVolumes.{image_in}
use Rattle.tamper_rules.specs.Rules.{Buckets}
use Rattle.log_audit.specs.Least.{FindsPart}
use Rattle.log_audit.proofs.Parts.{AskedBelow}
use Rattle.tree_audit.specs.Buckets.{AsksBucket}
use Rattle.tree_audit.proofs.EachNode.{NodeAt}
use Rattle.tree_audit.proofs.buckets.first_broken_bucket.Given as goal

abbrev pub invariant-loop-number : goal.invariant-loop-number
invariant-loop-number l = FindsPart l.volume.geometry (image_in l.volume) Buckets
    (AskedBelow (NodeAt l.nodes.nodes.items (AsksBucket l.volume.geometry (image_in l.volume))) l.number-index) l.least
