-- What it means that those of some cells are listed that are written.
use Rattle.std.specs.Prelude.{◌≡◌, ◌<◌, ◌≤◌, ◌⊎◌, ℕ, List, Some, Result, Ok, Err, IsTrue, ⊤}
use Rattle.cell_types.specs.Image.{Image}
use Rattle.volume_meaning.specs.Volumes.{IsWritten}
use Rattle.worm_device.specs.Counts.{Rose}
use Rattle.worm_device.specs.Views.{ViewState, Viewed}
use Rattle.kept_documents.specs.declared.fault.AskFault.{AskFault}
use Rattle.kept_documents.specs.declared.fault.AskFault.TheVariants.{NoMemory, ReadFault}
use Rattle.receipt_text.specs.Listed.{listed_image}
use Rattle.receipt_cells.specs.Needed.{IsListed}

-- The new list has the cells of the old one, each of these that was written before, and no cell besides; and each with
-- the value that the old one has, or that stands afterwards.
pub record ListsWritten (These : ℕ → Type 0) (before after : Image) (old new : List (ℕ × List ℕ)) : Type 0 where
  pub only : (c : ℕ) → IsListed new c → IsListed old c ⊎ These c
  pub all : (c : ℕ) → These c → IsWritten before c → IsListed new c
  pub kept : (c : ℕ) → IsListed old c → IsListed new c
  pub stand : (c : ℕ) (value : List ℕ) → listed_image new c ≡ Some value
      → (listed_image old c ≡ Some value) ⊎ (after c ≡ Some value)

-- a cell of this row
abbrev pub IsInRow : ℕ → ℕ → ℕ → Type 0
IsInRow from to c = (from ≤ c) × (c < to)

-- how listing such cells may end
abbrev pub WrittenEnds : (ℕ → Type 0) → ViewState → ViewState → List (ℕ × List ℕ) → List (ℕ × List ℕ)
    → Result Unit AskFault → Type 0
WrittenEnds These old new listed later (Ok u) =
    IsTrue old.base.tells → ListsWritten These old.image new.image listed later
WrittenEnds These old new listed later (Err ReadFault) = Rose old.base.faults new.base.faults
WrittenEnds These old new listed later (Err (NoMemory lack)) = ⊤

-- what listing the written ones of these cells does
pub record ListsCells (These : ℕ → Type 0) (old new : ViewState) (listed later : List (ℕ × List ℕ))
    (result : Result Unit AskFault) : Type 0 where
  pub viewed : Viewed old new
  pub ends : WrittenEnds These old new listed later result

-- the written cells of the row before this one are listed
pub record RowSoFar (from to : ℕ) (old now : ViewState) (listed later : List (ℕ × List ℕ)) : Type 0 where
  pub viewed : Viewed old now
  pub lists : IsTrue old.base.tells → ListsWritten (IsInRow from to) old.image now.image listed later
