-- The least of what the blocks before this turn's break.
use Rattle.log_audit.specs.KeptVolumes.{image_in}
use Rattle.tamper_rules.specs.Rules.{Postings}
use Rattle.log_audit.specs.Least.{FindsPart}
use Rattle.log_audit.proofs.Parts.{AskedBelow}
use Rattle.list_audit.proofs.EachBlock.{BlockAt}
use Rattle.list_audit.specs.Owing.{BlockOwes}
use Rattle.list_audit.proofs.postings.least_fake.Given as goal

abbrev pub invariant-loop-block : goal.invariant-loop-block
invariant-loop-block l = FindsPart l.volume.geometry (image_in l.volume) Postings
    (AskedBelow (BlockAt l.blocks (BlockOwes l.volume.geometry (image_in l.volume))) l.block-index) l.least
