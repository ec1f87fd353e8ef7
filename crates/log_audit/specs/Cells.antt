-- Written cells that are kept by rising numbers, and the image that they show.
use Rattle.std.specs.Prelude.{◌≡◌, ◌<◌, ◌≤◌, ◌*◌, ◌^◌, ◌==◌, if◌then◌else◌, ℕ, List, [], ◌∷◌, length, slice_get, Some, None}
use Rattle.cell_types.specs.Bytes.{IsCell}
use Rattle.cell_types.specs.Image.{Image}
use Rattle.log_audit.specs.declared.written.TheConstants.{PAGE_CELLS}
use Rattle.log_audit.specs.declared.written.WrittenCell.{WrittenCell}

-- the image that they show: a kept cell holds what was found there, and each other one is blank
abbrev pub shown_by : List WrittenCell → Image
shown_by [] = λ number. None
shown_by (row ∷ rows) = λ number. if number == row.number then Some row.cell else shown_by rows number

-- their numbers rise
abbrev pub AreRising : List WrittenCell → Type 0
AreRising rows = (j k : ℕ) (q r : WrittenCell) → slice_get rows j ≡ Some q → slice_get rows k ≡ Some r → j < k → q.number < r.number

-- those with a number below this one, and no others, stand before this place
abbrev pub ArePartedAt : List WrittenCell → ℕ → ℕ → Type 0
ArePartedAt rows number place =
    (k : ℕ) (row : WrittenCell) → slice_get rows k ≡ Some row → (k < place → row.number < number) × (place ≤ k → number ≤ row.number)

-- of those with this number each stands between these two places
abbrev pub AreOnlyBetween : List WrittenCell → ℕ → ℕ → ℕ → Type 0
AreOnlyBetween rows from to number =
    (k : ℕ) (row : WrittenCell) → slice_get rows k ≡ Some row → row.number ≡ number → (from ≤ k) × (k < to)

-- of those with a number from one on and below another each stands between these two places
abbrev pub AreAllBetween : List WrittenCell → ℕ → ℕ → ℕ → ℕ → Type 0
AreAllBetween rows low high first behind =
    (k : ℕ) (row : WrittenCell) → slice_get rows k ≡ Some row → first ≤ row.number → row.number < behind → (low ≤ k) × (k < high)

-- the cells from one on and below another are blank
abbrev pub AreBlankBetween : Image → ℕ → ℕ → Type 0
AreBlankBetween image first behind = (cell : ℕ) → first ≤ cell → cell < behind → image cell ≡ None

-- What was found in the cells below a number: the written ones, by rising numbers, and of the first pages how many stand
-- before each.
pub record AreCellsKept (count : ℕ) (rows : List WrittenCell) (starts : List ℕ) : Type 0 where
  pub few : count < 2 ^ 32
  pub most : length rows ≤ count
  pub each : (k : ℕ) (row : WrittenCell) → slice_get rows k ≡ Some row → (row.number < count) × IsCell row.cell
  pub rising : AreRising rows
  pub begun : (page start : ℕ) → slice_get starts page ≡ Some start → (start ≤ length rows) × (page * PAGE_CELLS ≤ count)
  pub parted : (page start : ℕ) → slice_get starts page ≡ Some start → ArePartedAt rows (page * PAGE_CELLS) start
