-- Cells of a row among the bytes that are to be written.
use Rattle.std.specs.Prelude.{◌≡◌, ◌<◌, ℕ, List, length, slice_get, Some}
use Rattle.cell_types.specs.Bytes.{IsCell}
use Rattle.worm_device.specs.ReadBytes.{cell_bytes}

-- the bytes begin with those of the row's cells
pub record AreRow (values : List (List ℕ)) (bytes : List ℕ) : Type 0 where
  pub is : (k : ℕ) → k < length values → slice_get values k ≡ Some (cell_bytes bytes k)
  pub cell : (k : ℕ) → k < length values → IsCell (cell_bytes bytes k)
