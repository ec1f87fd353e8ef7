-- The written cells that are kept, one after another.
use Rattle.std.specs.Prelude.{◌≡◌, ◌<◌, ℕ, List, slice_get, Some}
use Rattle.log_audit.specs.Cells.{shown_by, AreRising}
use Rattle.log_audit.specs.AllRows.{all_rows}
use Rattle.log_audit.specs.declared.kept.KeptCells.{KeptCells}
use Rattle.log_audit.specs.declared.written.WrittenCell.{WrittenCell}

-- the written cells by rising numbers
abbrev pub rows_of : KeptCells → List WrittenCell
rows_of kept = all_rows kept.rows

-- Their numbers rise and lie below the count, the image shows each of them, and each cell that it shows is one of them.
pub record AreRows (count : ℕ) (rows : List WrittenCell) : Type 0 where
  pub rising : AreRising rows
  pub inside : (k : ℕ) (row : WrittenCell) → slice_get rows k ≡ Some row → row.number < count
  pub each : (k : ℕ) (row : WrittenCell) → slice_get rows k ≡ Some row → shown_by rows row.number ≡ Some row.cell
  pub all : (number : ℕ) (value : List ℕ) → shown_by rows number ≡ Some value
      → (k : ℕ) × (row : WrittenCell) × (slice_get rows k ≡ Some row) × (row.number ≡ number)
