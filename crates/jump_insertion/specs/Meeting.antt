-- Whether a cell that is planned for another is met in a block.
use Rattle.std.specs.Prelude.{◌≡◌, ◌<◌, ◌≤◌, ◌+◌, ◌⊎◌, ℕ, None, Some}
use Rattle.worm_device.specs.Views.{ViewState}
use Rattle.worm_device.specs.declared.owner.Owner.{Owner}

-- the cell is for another, and lies in this block of the list, or is of another block of the list that meets it
pub record Meets (owner : Owner) (at head block : ℕ) : Type 0 where
  pub other : owner.head ≡ head → owner.base ≡ block → ⊥
  pub meets : ((block ≤ at) × (at < block + 256))
      ⊎ ((owner.head ≡ head) × (owner.base < block + 256) × (block < owner.base + 256))

-- the cells from the first up to this one have been looked at, and none is met
pub record NoneMet (s : ViewState) (head block first to : ℕ) : Type 0 where
  pub from : first ≤ to
  pub none : (cell : ℕ) (owner : Owner) → first ≤ cell → cell < to → s.owners cell ≡ Some owner
      → Meets owner cell head block → ⊥

-- the cells from the first up to this one are for nobody
pub record AreUnowned (s : ViewState) (first to : ℕ) : Type 0 where
  pub each : (cell : ℕ) → first ≤ cell → cell < to → s.owners cell ≡ None

-- planned cells of the list lie in the blocks that they are for
pub record LieInBlocks (s : ViewState) (head : ℕ) : Type 0 where
  pub each : (cell : ℕ) (owner : Owner) → s.owners cell ≡ Some owner → owner.head ≡ head
      → (owner.base ≤ cell) × (cell < owner.base + 256) × (owner.base + 256 ≤ 4294967295)
