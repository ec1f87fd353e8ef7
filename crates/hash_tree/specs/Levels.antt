-- Where the node of a level lies, and where its cells on the path are.
use Rattle.std.specs.Prelude.{◌≡◌, ◌<◌, ◌≤◌, ◌+◌, ℕ, List, false, Option, Some, None, IsTrue, ⊤}
use Rattle.cell_types.specs.Image.{Image}
use Rattle.cell_types.specs.Layout.{Layout, root_at, pool_at}
use Rattle.cell_types.specs.Records.{IsRecordCell}
use Rattle.cell_types.specs.declared.record_cell.RecordCell.TheVariants.{Child}
use Rattle.volume_meaning.specs.HashPaths.{nibble}
use Rattle.volume_meaning.specs.Nodes.{IsNode}
use Rattle.worm_device.specs.Views.{ViewState}
use Rattle.hash_tree.specs.declared.level.ChildCell.{ChildCell}
use Rattle.hash_tree.specs.declared.level.Level.{Level}

-- the node that a child cell led to, and the root where none did
abbrev pub node_in : Layout → Option ChildCell → ℕ
node_in g None = root_at g
node_in g (Some child) = child.target

-- the node of a level
abbrev pub node_of : Layout → Level → ℕ
node_of g level = node_in g level.led_by

-- the node's bucket on the path, and its child cell there
abbrev pub bucket_at : Layout → Level → ℕ
bucket_at g level = node_of g level + nibble level.digest level.number

abbrev pub child_at : Layout → Level → ℕ
child_at g level = node_of g level + 16 + nibble level.digest level.number

-- the root as a level
abbrev pub first_level : List ℕ → Level
first_level digest = record { digest = digest; number = 0; answered = false; led_by = None }

-- the level to which this child cell of a level leads
abbrev pub level_below : Level → ChildCell → Level
level_below level child = record {
  digest = level.digest;
  number = level.number + 1;
  answered = false;
  led_by = Some child;
}

-- nodes may lie from the pool's start up to the edge, which is one of the volume's cells or their end
pub record AreBounds (g : Layout) (edge : ℕ) : Type 0 where
  pub from : pool_at g ≤ edge
  pub to : edge ≤ g.cells

-- the node lies within the bounds, where it is not the root
abbrev pub IsNodeWithin : Layout → ℕ → Option ChildCell → Type 0
IsNodeWithin g edge None = ⊤
IsNodeWithin g edge (Some child) = (pool_at g ≤ child.target) × (child.target + 32 ≤ edge)

-- the child cell, where there is one, stands and leads to the node
abbrev pub IsLedByChild : Image → Option ChildCell → Type 0
IsLedByChild image None = ⊤
IsLedByChild image (Some child) =
    (image child.cell ≡ Some child.found) × IsRecordCell (Child child.target) child.cell child.found

-- A level as it is on every path: its node is the root, or lies within the bounds; and where the view tells its image,
-- the child cell that led there stands.
pub record IsLevelPlaced (g : Layout) (edge : ℕ) (view : ViewState) (level : Level) : Type 0 where
  pub number : level.number < 64
  pub within : IsNodeWithin g edge level.led_by
  pub led : IsTrue view.base.tells → IsLedByChild view.image level.led_by

-- the level's node is one of the volume's in this image: the root, or reached from there
abbrev pub IsLevelReached : Layout → Image → Level → Type 0
IsLevelReached g image level = IsNode g image level.number (node_of g level)

-- the cell is a child cell of a node of the volume
pub record IsChildPlace (g : Layout) (image : Image) (cell : ℕ) : Type 0 where
  pub level : ℕ
  pub node : ℕ
  pub half_byte : ℕ
  pub is_node : IsNode g image level node
  pub below : half_byte < 16
  pub at : cell ≡ node + 16 + half_byte

-- the child cell that led to a level is one of a node of the volume
abbrev pub IsLedWithin : Layout → Image → Option ChildCell → Type 0
IsLedWithin g image None = ⊤
IsLedWithin g image (Some child) = IsChildPlace g image child.cell
