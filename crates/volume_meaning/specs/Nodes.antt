-- The nodes of a volume's hash tree, the ways to them, and the blocks of its lists.
use Rattle.std.specs.Prelude.{◌≡◌, ◌<◌, ◌≤◌, ◌+◌, ◌⊎◌, ℕ, List}
use Rattle.cell_types.specs.Image.{Image}
use Rattle.cell_types.specs.Layout.{Layout, all_lists, list_at, root_at, pool_at}
use Rattle.cell_types.specs.declared.record_cell.RecordCell.TheVariants.{Child}
use Rattle.volume_meaning.specs.Blocks.{Leads}
use Rattle.volume_meaning.specs.HashPaths.{nibble}
use Rattle.volume_meaning.specs.Volumes.{Holds}

-- the block is one of list l, the time list among them
pub record IsBlockOf (g : Layout) (image : Image) (l block : ℕ) : Type 0 where
  pub list : l < all_lists g
  pub leads : Leads image (pool_at g) g.cells block (list_at g l)

-- The nodes, by their levels: the root, and each target of a well-formed child cell of a node at a level below 63,
-- where the target's cells lie in the pool.
pub data IsNode (g : Layout) (image : Image) : ℕ → ℕ → Type 0 where
  root : (level node : ℕ) → level ≡ 0 → node ≡ root_at g → IsNode g image level node
  under : (level node v above x : ℕ) → level ≡ v + 1 → IsNode g image v above → x < 16 → v < 63
      → Holds image (above + 16 + x) (Child node) → pool_at g ≤ node → node + 32 ≤ g.cells → IsNode g image level node

-- some way from the root to the node of this level goes by the digest's half bytes
pub data IsOnPath (g : Layout) (image : Image) (digest : List ℕ) : ℕ → ℕ → Type 0 where
  root : (level node : ℕ) → level ≡ 0 → node ≡ root_at g → IsOnPath g image digest level node
  under : (level node v above : ℕ) → level ≡ v + 1 → IsOnPath g image digest v above → v < 63
      → Holds image (above + 16 + nibble digest v) (Child node) → pool_at g ≤ node → node + 32 ≤ g.cells
      → IsOnPath g image digest level node

-- the cells from a on, so many, and those from b on, so many, don't meet
abbrev pub AreApart : ℕ → ℕ → ℕ → ℕ → Type 0
AreApart a size b other = (a + size ≤ b) ⊎ (b + other ≤ a)
