-- Images, written out cell by cell.
use Rattle.std.specs.Prelude.{◌==◌, if◌then◌else◌, ℕ, List, [], ◌∷◌, Option, Some, None}
use Rattle.cell_types.specs.Image.{Image, Extends, ChangesOnly}

-- Each of these cells, by its number, holds these bytes, and each other one is blank. Of two with one number the first
-- counts.
abbrev pub image_with : List (ℕ × List ℕ) → Image
image_with [] = λ cell. None
image_with ((at, value) ∷ cells) = λ cell. if cell == at then Some value else image_with cells cell

-- what stands in a cell, or else this
abbrev pub or_else : Option (List ℕ) → Option (List ℕ) → Option (List ℕ)
or_else (Some value) other = Some value
or_else None other = other

-- The image with foreign cells: in each of these cells that was blank these bytes stand now. A written cell stays.
abbrev pub with_cells : Image → List (ℕ × List ℕ) → Image
with_cells image cells = λ cell. or_else (image cell) (image_with cells cell)

-- the image with one foreign cell
abbrev pub with_cell : Image → ℕ → List ℕ → Image
with_cell image at value = with_cells image ((at, value) ∷ [])

-- foreign cells leave each written cell as it was
abbrev pub ForeignCellsExtend : Type 0
ForeignCellsExtend = (image : Image) (cells : List (ℕ × List ℕ)) → Extends image (with_cells image cells)

-- one foreign cell changes its own cell at most, where that was blank
abbrev pub ForeignCellIsOne : Type 0
ForeignCellIsOne = (image : Image) (at : ℕ) (value : List ℕ) → ChangesOnly at value image (with_cell image at value)
