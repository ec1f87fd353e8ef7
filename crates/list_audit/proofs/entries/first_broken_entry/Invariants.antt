-- The least of what the blocks before this turn's break.
use Rattle.std.proofs.Common.{ℕ}
use Rattle.log_audit.specs.Kept.{image_of_kept}
use Rattle.tamper_rules.specs.Rules.{Entries}
use Rattle.log_audit.specs.Least.{FindsPart}
use Rattle.log_audit.proofs.Parts.{AskedBelow}
use Rattle.list_audit.specs.Entries.{BlockAsks}
use Rattle.list_audit.proofs.EachBlock.{BlockAt}
use Rattle.list_audit.proofs.entries.first_broken_entry.Given as goal

abbrev pub invariant-loop-block : goal.invariant-loop-block
invariant-loop-block l = FindsPart l.geometry (image_of_kept l.kept) Entries
    (AskedBelow (BlockAt l.blocks.blocks.items (λ (_ block : ℕ). BlockAsks (image_of_kept l.kept) block)) l.block-index) l.least
