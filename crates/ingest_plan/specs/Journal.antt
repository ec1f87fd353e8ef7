-- The journal of what is planned.
use Rattle.std.specs.Prelude.{◌≡◌, ◌<◌, ℕ, List, length, slice_get, Some}
use Rattle.cell_types.specs.Image.{Image}

-- The journal has each planned cell and no other, by rising numbers, which are these.
pub record IsJournal (planned : Image) (journal : List (List ℕ)) : Type 0 where
  pub numbers : List ℕ
  pub long : length numbers ≡ length journal
  pub each : (i cell : ℕ) (value : List ℕ) → slice_get numbers i ≡ Some cell → slice_get journal i ≡ Some value
      → planned cell ≡ Some value
  pub rise : (i j a b : ℕ) → i < j → slice_get numbers i ≡ Some a → slice_get numbers j ≡ Some b → a < b
  pub all : (cell : ℕ) (value : List ℕ) → planned cell ≡ Some value
      → (i : ℕ) × (slice_get numbers i ≡ Some cell) × (slice_get journal i ≡ Some value)
