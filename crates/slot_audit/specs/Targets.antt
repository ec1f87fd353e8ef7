-- The cells that one slot's journal names.
use Rattle.std.specs.Prelude.{◌<◌, ◌+◌, ◌^◌, ◌⊎◌, ℕ, List, Contains}
use Rattle.cell_types.specs.Image.{Image}
use Rattle.tamper_rules.specs.Journals.{journal_at}
use Rattle.log_audit.specs.declared.stored.StoredSlot.{StoredSlot}
use Rattle.slot_audit.specs.Copying.{HasTarget}

-- one of the first places of the slot's journal names the cell
pub record NamesWithin (image : Image) (s : StoredSlot) (places cell : ℕ) : Type 0 where
  pub place : ℕ
  pub within : place < places
  pub small : cell < 2 ^ 32
  pub target : HasTarget image (journal_at s.start s.length s.journal + place) cell

-- the cells that these places name are added, and no others
pub record AddsTargets (image : Image) (s : StoredSlot) (places : ℕ) (old new : List ℕ) : Type 0 where
  pub keeps : (cell : ℕ) → Contains old cell → Contains new cell
  pub adds : (cell : ℕ) → NamesWithin image s places cell → Contains new cell
  pub only : (cell : ℕ) → Contains new cell → Contains old cell ⊎ NamesWithin image s places cell
