-- What it means that a cell holds a record, and that a device holds a volume.
use Rattle.std.specs.Prelude.{◌≡◌, ℕ, List, Some}
use Rattle.cell_types.specs.Image.{Image}
use Rattle.cell_types.specs.Layout.{Layout}
use Rattle.cell_types.specs.Records.{IsRecordCell}
use Rattle.cell_types.specs.declared.record_cell.RecordCell.{RecordCell}
use Rattle.cell_types.specs.declared.record_cell.RecordCell.TheVariants.{Volume}

-- something stands in the cell of this number
pub record IsWritten (image : Image) (at : ℕ) : Type 0 where
  pub found : List ℕ
  pub stands : image at ≡ Some found

-- the record stands in the cell of this number, and is well-formed there
pub record Holds (image : Image) (at : ℕ) (r : RecordCell) : Type 0 where
  pub cell : List ℕ
  pub stands : image at ≡ Some cell
  pub is : IsRecordCell r at cell

-- the volume cell of this layout
abbrev pub volume_record : Layout → RecordCell
volume_record g = Volume g.version g.slots g.lists g.cells

-- Cell 0 is a volume cell that states the device's number of cells, and the layout is the one that it states.
pub record IsVolume (cells : ℕ) (image : Image) (g : Layout) : Type 0 where
  pub volume : Holds image 0 (volume_record g)
  pub size : g.cells ≡ cells
