-- How many cells are planned.
use Rattle.std.specs.Prelude.{◌≡◌, ◌<◌, ◌≤◌, ◌+◌, ◌*◌, ◌-◌, ℕ, List, length, slice_get, Some}
use Rattle.cell_types.specs.Image.{Image}
use Rattle.volume_meaning.specs.Volumes.{IsWritten}

-- The image has so many written cells: these are all of them, and each is named once.
pub record HasWrittenCells (image : Image) (count : ℕ) : Type 0 where
  pub cells : List ℕ
  pub long : length cells ≡ count
  pub once : (i j cell : ℕ) → i < j → slice_get cells i ≡ Some cell → slice_get cells j ≡ Some cell → ⊥
  pub written : (i cell : ℕ) → slice_get cells i ≡ Some cell → IsWritten image cell
  pub all : (cell : ℕ) → IsWritten image cell → (i : ℕ) × (slice_get cells i ≡ Some cell)

-- an image has one number of written cells
abbrev pub CountIsOne : Type 0
CountIsOne = (image : Image) (a b : ℕ) → HasWrittenCells image a → HasWrittenCells image b → a ≡ b

-- Between one image of what is planned and the next, one or two cells were planned for each of so many entries.
abbrev pub PlansOneOrTwoEach : Image → Image → ℕ → Type 0
PlansOneOrTwoEach old new entries =
    (before : ℕ) → HasWrittenCells old before
    → (after : ℕ) × HasWrittenCells new after × (before + entries ≤ after) × (after ≤ before + 2 * entries)

-- The cells that were planned between one image of what is planned and the next, and those that the pool gave, from one
-- up to another, are together as many as this cost.
abbrev pub PlansAtCost : Image → Image → ℕ → ℕ → ℕ → Type 0
PlansAtCost old new from to cost =
    (before : ℕ) → HasWrittenCells old before → (after : ℕ) × HasWrittenCells new after
    × (after + (to - from) ≡ before + cost)
