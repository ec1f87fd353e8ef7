-- What rules 5 and 6 ask of the places of a slot's journal.
use Rattle.std.specs.Prelude.{◌≡◌, ◌<◌, ◌+◌, ◌⊎◌, ℕ, Option, Some, None}
use Rattle.cell_types.specs.Image.{Image}
use Rattle.cell_types.specs.Layout.{Layout}
use Rattle.cell_types.specs.declared.record_cell.RecordCell.{RecordCell}
use Rattle.cell_types.specs.declared.refusal.Evidence.{Evidence}
use Rattle.volume_meaning.specs.Volumes.{IsWritten}
use Rattle.tamper_rules.specs.Journals.{journal_at, CopiesIndexCell, IsInOrder}
use Rattle.tamper_rules.specs.Rules.{Rule, Journals, number_of}
use Rattle.log_audit.specs.Findings.{IsLeastBroken}
use Rattle.log_audit.specs.Stored.{IsStored}
use Rattle.log_audit.specs.declared.stored.StoredSlot.{StoredSlot}
use Rattle.slot_audit.specs.Copying.{HasTarget}

-- the cell at a place of the slot's journal
abbrev pub journal_cell : StoredSlot → ℕ → ℕ
journal_cell s place = journal_at s.start s.length s.journal + place

-- each cell of its journal is written
abbrev pub AreWritten : Image → StoredSlot → Type 0
AreWritten image s = (place : ℕ) → place < s.journal → IsWritten image (journal_cell s place)

-- and each cell of each such journal
abbrev pub AreAllWritten : Layout → Image → Type 0
AreAllWritten g image = (s : StoredSlot) → IsStored g image s → AreWritten image s

-- the place is in order
abbrev pub IsOrdered : Layout → Image → StoredSlot → ℕ → Type 0
IsOrdered g image s place = IsInOrder g image s.slot s.start s.length s.bytes s.journal place

-- the place is the first, or the one before it copies a lower cell than this
abbrev pub TargetRises : Image → StoredSlot → ℕ → ℕ → Type 0
TargetRises image s place target =
    (place ≡ 0)
    ⊎ ((before : ℕ) × (lower : ℕ) × (other : RecordCell) × (place ≡ before + 1)
    × CopiesIndexCell image s.start s.length s.journal before lower other × (lower < target))

-- if the cell copies another one, that one holds the same
abbrev pub IsRedoneAt : Image → ℕ → Type 0
IsRedoneAt image at = (target : ℕ) → HasTarget image at target → image target ≡ image at

-- so for the cell at a place of the slot's journal
abbrev pub IsRedone : Image → StoredSlot → ℕ → Type 0
IsRedone image s place = IsRedoneAt image (journal_cell s place)

-- The evidence is the cell at the first place of the slot's journal that is not good.
pub record IsFirstPlace (Good : ℕ → Type 0) (image : Image) (rule : Rule) (s : StoredSlot) (e : Evidence) : Type 0 where
  pub number : e.rule ≡ number_of rule
  pub place : ℕ
  pub inside : place < s.journal
  pub cell : e.cell ≡ journal_cell s place
  pub stands : image e.cell ≡ Some e.found
  pub bad : Good place → ⊥
  pub before : (other : ℕ) → other < place → Good other

-- what going through the places of a slot's journal answers
abbrev pub PlacesFind : (ℕ → Type 0) → Image → Rule → StoredSlot → Option Evidence → Type 0
PlacesFind Good image rule s None = (place : ℕ) → place < s.journal → Good place
PlacesFind Good image rule s (Some e) = IsFirstPlace Good image rule s e

-- what looking for blank journal cells answers
abbrev pub BlankFinds : Layout → Image → Option Evidence → Type 0
BlankFinds g image None = AreAllWritten g image
BlankFinds g image (Some e) = IsLeastBroken g image Journals e
