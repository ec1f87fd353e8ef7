-- Journal cells by their targets.
use Rattle.std.specs.Prelude.{◌≡◌, ◌<◌, ℕ, Option, Some, None}
use Rattle.cell_types.specs.Image.{Image}
use Rattle.log_audit.specs.declared.stored.StoredSlot.{StoredSlot}
use Rattle.slot_audit.specs.Copying.{HasTarget}
use Rattle.slot_audit.specs.Journals.{journal_cell}

-- the journal cell at this place copies that cell, and no other one of the slot's journal does
pub record IsPlaceTo (image : Image) (s : StoredSlot) (cell place : ℕ) : Type 0 where
  pub inside : place < s.journal
  pub target : HasTarget image (journal_cell s place) cell
  pub one : (other : ℕ) → other < s.journal → HasTarget image (journal_cell s other) cell → other ≡ place

-- what a look for the copy of a cell answers
abbrev pub FindsPlace : Image → StoredSlot → ℕ → Option ℕ → Type 0
FindsPlace image s cell None = (place : ℕ) → place < s.journal → HasTarget image (journal_cell s place) cell → ⊥
FindsPlace image s cell (Some place) = IsPlaceTo image s cell place
