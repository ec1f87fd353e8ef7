-- The least of what the blocks before this turn's break.
use Rattle.log_audit.specs.KeptVolumes.{image_in}
use Rattle.tamper_rules.specs.Rules.{Pointers}
use Rattle.log_audit.specs.Least.{FindsPart}
use Rattle.log_audit.proofs.Parts.{AskedBelow}
use Rattle.list_audit.proofs.EachBlock.{BlockAt}
use Rattle.tree_audit.specs.Leading.{PointerAsks}
use Rattle.tree_audit.proofs.pointers.first_broken_pointer.Given as goal

abbrev pub invariant-loop-block : goal.invariant-loop-block
invariant-loop-block l = FindsPart l.volume.geometry (image_in l.volume) Pointers
    (AskedBelow (BlockAt l.blocks.blocks.items (PointerAsks l.volume.geometry (image_in l.volume))) l.block-index) l.least
