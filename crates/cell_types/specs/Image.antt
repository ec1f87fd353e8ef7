-- What stands in the cells of a device, and how what stands there may change: a blank cell may be
-- written, and a written cell stays.
use Rattle.std.specs.Prelude.{◌≡◌, ◌⊎◌, ℕ, List, Option, Some, None}

-- the sixteen bytes that stand in a cell, by its number; nothing in a blank cell
abbrev pub Image : Type 0
Image = ℕ → Option (List ℕ)

-- each cell that is written in old has the same value in new
pub record Extends (old new : Image) : Type 0 where
  pub keeps : (cell : ℕ) (value : List ℕ) → old cell ≡ Some value → new cell ≡ Some value

-- the image has each written cell of low, and no written cell that high lacks
pub record Between (low high image : Image) : Type 0 where
  pub above : Extends low image
  pub below : Extends image high

-- the same stands in each cell
abbrev pub IsUnchanged : Image → Image → Type 0
IsUnchanged old new = (cell : ℕ) → new cell ≡ old cell

-- the same stands in each cell, but that this one may have been blank and hold this value now
abbrev pub ChangesOnly : ℕ → List ℕ → Image → Image → Type 0
ChangesOnly at value old new =
    (cell : ℕ) → (new cell ≡ old cell) ⊎ ((cell ≡ at) × (old cell ≡ None) × (new cell ≡ Some value))
