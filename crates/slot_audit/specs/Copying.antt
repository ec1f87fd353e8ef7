-- Journal cells, as copies of index cells.
use Rattle.std.specs.Prelude.{◌≡◌, ℕ, List, Option, Some, None}
use Rattle.cell_types.specs.Image.{Image}
use Rattle.recovery_engine.specs.Entries.{IsCopy, target_of}

-- a copy stands in this cell, and its target is that one
pub record HasTarget (image : Image) (at target : ℕ) : Type 0 where
  pub cell : List ℕ
  pub stands : image at ≡ Some cell
  pub copy : IsCopy cell
  pub is : target ≡ target_of cell

-- what a look at a journal cell answers
abbrev pub TargetEnds : Image → ℕ → Option ℕ → Type 0
TargetEnds image at None = (target : ℕ) → HasTarget image at target → ⊥
TargetEnds image at (Some target) = HasTarget image at target
