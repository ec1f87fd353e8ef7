-- The licence of the evidence that a node is another's, and what paths are.
use Rattle.std.specs.Prelude.{◌≡◌, ◌<◌, ◌≤◌, ◌+◌, ℕ, Some, IsTrue}
use Rattle.cell_types.specs.Bytes.{AreBytes}
use Rattle.cell_types.specs.Image.{Image}
use Rattle.cell_types.specs.Layout.{Layout, list_at, root_at, pool_at}
use Rattle.cell_types.specs.declared.refusal.Evidence.{Evidence}
use Rattle.volume_meaning.specs.Slots.{IsEdge}
use Rattle.volume_meaning.specs.Volumes.{IsVolume}
use Rattle.volume_meaning.specs.HashPaths.{Sought, PassedTo}
use Rattle.volume_meaning.specs.Nodes.{IsBlockOf, IsNode, IsOnPath}
use Rattle.tamper_rules.specs.Rules.{IsBroken}
use Rattle.worm_device.specs.Views.{ViewState}
use Rattle.worm_device.specs.declared.owner.Owner.{Owner}
use Rattle.hash_tree.specs.Levels.{IsLedWithin}
use Rattle.hash_tree.specs.declared.level.Level.{Level}
use Rattle.hash_tree.specs.declared.path.Open.{Open}
use Rattle.hash_tree.specs.Inserting.{IsPlaceTaken}

-- Where a planned cell lies that is for this owner: in a block or a node of the lower image, of the owner's list or of
-- the tree; or in one that begins where nothing below is asked.
pub data LiesByOwner (g : Layout) (view : ViewState) (cell : ℕ) (owner : Owner) : Type 0 where
  in_block : (l : ℕ) → IsBlockOf g view.lower l owner.base → owner.head ≡ list_at g l → owner.base ≤ cell
      → cell < owner.base + 256 → LiesByOwner g view cell owner
  in_node : (v : ℕ) → IsNode g view.lower v owner.base → owner.head ≡ root_at g → owner.base ≤ cell
      → cell < owner.base + 32 → LiesByOwner g view cell owner
  in_new : view.fresh ≤ owner.base → owner.base ≤ cell → LiesByOwner g view cell owner

-- Where cell 0 of the lower image states this volume, this image is shown up to its edge, the child cell that led to
-- the level is one of a node there, and each planned cell lies where its owner says: a node with a cell that is planned
-- for somebody else breaks the rule of child cells.
abbrev pub TakenIsBroken : Type 0
TakenIsBroken =
    (g : Layout) (level : Level) (place : Open) (view : ViewState) (e : Evidence)
    → IsPlaceTaken g level place view e → IsTrue view.base.tells
    → IsVolume g.cells view.lower g → IsEdge g view.lower view.lower view.fresh
    → IsLedWithin g view.lower level.led_by
    → ((cell : ℕ) (owner : Owner) → view.owners cell ≡ Some owner → LiesByOwner g view cell owner)
    → IsBroken g.cells view.lower e.rule e.cell

-- a path that is passed down to a node goes by the digest's half bytes, and the node is one of the volume
abbrev pub PassedIsOnPath : Type 0
PassedIsOnPath =
    (g : Layout) (image : Image) (s : Sought) (node level : ℕ) → AreBytes s.digest → s.pool ≡ pool_at g
    → s.cells ≤ g.cells → PassedTo image s (root_at g) node level
    → IsOnPath g image s.digest level node × IsNode g image level node
