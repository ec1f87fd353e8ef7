-- The cells of a journal, each of which asks that its like be written in the cell that its address names.
use Rattle.std.specs.Prelude.{◌≡◌, ◌<◌, ◌≤◌, ◌+◌, ◌⊎◌, ℕ, List, drop, Some}
use Rattle.byteorder.specs.Endian.{big_number}
use Rattle.cell_types.specs.Image.{Image}
use Rattle.cell_types.specs.Records.{IsRecordCell}
use Rattle.cell_types.specs.declared.record_cell.RecordCell.{RecordCell}
use Rattle.tamper_rules.specs.Journals.{IsIndexRecord}

-- the address in a record cell's last four bytes: of a journal cell, its target
abbrev pub target_of : List ℕ → ℕ
target_of cell = big_number 4 (drop 12 cell)

-- the cell is a copy of an index cell, well-formed at its target
pub record IsCopy (cell : List ℕ) : Type 0 where
  pub held : RecordCell
  pub index : IsIndexRecord held
  pub is : IsRecordCell held (target_of cell) cell

-- The least target that journal cell k may have, where the journal stands from this place on: the first list's first
-- cell, or the cell behind the target before.
abbrev pub IsFloor : ℕ → Image → ℕ → ℕ → ℕ → Type 0
IsFloor first image place k floor =
    ((k ≡ 0) × (floor ≡ first))
    ⊎ ((m : ℕ) × (before : List ℕ) × (k ≡ m + 1) × (image (place + m) ≡ Some before) × (floor ≡ target_of before + 1))

-- the cell is a copy, and its target is from this floor on and below that cell
pub record IsFit (floor below : ℕ) (cell : List ℕ) : Type 0 where
  pub copy : IsCopy cell
  pub from : floor ≤ target_of cell
  pub to : target_of cell < below

-- it is none, or its target lies elsewhere
abbrev pub IsUnfit : ℕ → ℕ → List ℕ → Type 0
IsUnfit floor below cell = (IsCopy cell → ⊥) ⊎ (target_of cell < floor) ⊎ (below ≤ target_of cell)

-- journal cell k stands, and asks for what it may ask for
pub record IsJournalEntry (first : ℕ) (image : Image) (place below k : ℕ) : Type 0 where
  pub cell : List ℕ
  pub floor : ℕ
  pub stands : image (place + k) ≡ Some cell
  pub floor_is : IsFloor first image place k floor
  pub fit : IsFit floor below cell

-- so do the first n cells of a journal: the first cells that may be asked for is this one, and all lie below that one
abbrev pub AreEntries : ℕ → Image → ℕ → ℕ → ℕ → Type 0
AreEntries first image place below n = (k : ℕ) → k < n → IsJournalEntry first image place below k
