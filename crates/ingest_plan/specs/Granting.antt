-- What the pool gave for what is planned.
use Rattle.std.specs.Prelude.{◌≡◌, ℕ, List, slice_get, Some}
use Rattle.cell_types.specs.Image.{Image}
use Rattle.cell_types.specs.declared.record_cell.RecordCell.TheVariants.{Jump, Child}
use Rattle.volume_meaning.specs.Volumes.{Holds}
use Rattle.cell_pool.specs.Grants.{Grant, GrantsTileCells}

-- the grant is a block to which a planned pointer leads, or a node to which a planned child cell leads
pub data IsGrantLedTo (planned : Image) (grant : Grant) : Type 0 where
  to_block : (cell : ℕ) → Holds planned cell (Jump grant.at) → grant.size ≡ 256 → IsGrantLedTo planned grant
  to_node : (cell : ℕ) → Holds planned cell (Child grant.at) → grant.size ≡ 32 → IsGrantLedTo planned grant

-- These grants, one behind another, are the cells from one up to another, and a planned cell leads to each.
pub record AreLedTo (planned : Image) (from to : ℕ) (grants : List Grant) : Type 0 where
  pub tile : GrantsTileCells from to grants
  pub led : (i : ℕ) (grant : Grant) → slice_get grants i ≡ Some grant → IsGrantLedTo planned grant

-- the pool gave these cells in blocks and nodes to which planned cells lead
abbrev pub GivesWhatIsLedTo : Image → ℕ → ℕ → Type 0
GivesWhatIsLedTo planned from to = (grants : List Grant) × AreLedTo planned from to grants
