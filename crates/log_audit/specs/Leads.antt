-- Record cells that lead to cells of the pool.
use Rattle.std.specs.Prelude.{◌≤◌, ◌+◌, ℕ, Option, Some, None}
use Rattle.cell_types.specs.Image.{Image}
use Rattle.cell_types.specs.Layout.{Layout, pool_at}
use Rattle.cell_types.specs.declared.record_cell.RecordCell.{RecordCell}
use Rattle.volume_meaning.specs.Volumes.{Holds}

-- so many cells from the target on lie in the pool
pub record LiesInPool (g : Layout) (cells target : ℕ) : Type 0 where
  pub from : pool_at g ≤ target
  pub to : target + cells ≤ g.cells

-- the record that stands there is that to the target, of which so many cells lie in the pool
pub record LeadsInto (g : Layout) (image : Image) (record_to : ℕ → RecordCell) (cells at target : ℕ) : Type 0 where
  pub held : Holds image at (record_to target)
  pub from : pool_at g ≤ target
  pub to : target + cells ≤ g.cells

-- what a look for such a record answers
abbrev pub LeadEnds : Layout → Image → (ℕ → RecordCell) → ℕ → ℕ → Option ℕ → Type 0
LeadEnds g image record_to cells at None = (target : ℕ) → LeadsInto g image record_to cells at target → ⊥
LeadEnds g image record_to cells at (Some target) = LeadsInto g image record_to cells at target
