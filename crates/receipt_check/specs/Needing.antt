-- What it means that a receipt lists just the cells that are needed.
use Rattle.std.specs.Prelude.{ℕ, List, []}
use Rattle.cell_types.specs.Image.{Image}
use Rattle.cell_types.specs.Layout.{Layout}
use Rattle.volume_meaning.specs.Documents.{Document}
use Rattle.volume_meaning.specs.Volumes.{IsVolume}
use Rattle.receipt_cells.specs.Needed.{ListsJust, RestsOn}

-- On a device of so many cells the list has each cell that the document's being kept rests on, with the value that
-- stands there, and no other cell.
pub record ListsNeeded (cells : ℕ) (image : Image) (d : Document) (listed : List (ℕ × List ℕ)) : Type 0 where
  pub layout : Layout
  pub volume : IsVolume cells image layout
  pub just : ListsJust (RestsOn cells image layout d) image [] listed
