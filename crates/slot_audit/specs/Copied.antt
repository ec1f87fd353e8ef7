-- Copies of records, each well-formed at its own address.
use Rattle.std.specs.Prelude.{◌≡◌, ℕ, List, Some}
use Rattle.cell_types.specs.Image.{Image}
use Rattle.cell_types.specs.Records.{IsRecordCell}
use Rattle.cell_types.specs.declared.record_cell.RecordCell.{RecordCell}
use Rattle.recovery_engine.specs.Entries.{target_of}

-- a copy of this record stands in the cell
pub record IsCopied (image : Image) (at : ℕ) (held : RecordCell) : Type 0 where
  pub cell : List ℕ
  pub stands : image at ≡ Some cell
  pub is : IsRecordCell held (target_of cell) cell
