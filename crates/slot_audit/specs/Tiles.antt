-- Tiles, as journal cells state them.
use Rattle.std.specs.Prelude.{◌≡◌, ℕ, Option, Some, None}
use Rattle.cell_types.specs.Image.{Image}
use Rattle.cell_types.specs.declared.record_cell.RecordCell.{RecordCell}
use Rattle.cell_types.specs.declared.record_cell.RecordCell.TheVariants.{Jump, Child}
use Rattle.volume_meaning.specs.declared.blocks.TheConstants.{BLOCK_CELLS}
use Rattle.volume_meaning.specs.declared.nodes.TheConstants.{NODE_CELLS}
use Rattle.slot_audit.specs.Copied.{IsCopied}
use Rattle.slot_audit.specs.declared.tile.Tile.{Tile}

-- what a record leads to: a jump to a block, and a child to a node
abbrev pub tile_in : RecordCell → Option Tile
tile_in (Jump target) = Some (record { target = target; size = BLOCK_CELLS })
tile_in (Child target) = Some (record { target = target; size = NODE_CELLS })
tile_in _ = None

-- a copy of a record that leads to this tile stands in the cell
pub record HasTile (image : Image) (at : ℕ) (tile : Tile) : Type 0 where
  pub held : RecordCell
  pub copied : IsCopied image at held
  pub leads : tile_in held ≡ Some tile

-- what a look for one answers
abbrev pub TileEnds : Image → ℕ → Option Tile → Type 0
TileEnds image at None = (tile : Tile) → HasTile image at tile → ⊥
TileEnds image at (Some tile) = HasTile image at tile
