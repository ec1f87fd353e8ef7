-- Why a list of just these cells is enough.
use Rattle.std.specs.Prelude.{◌≡◌, ℕ, List, [], Some}
use Rattle.cell_types.specs.Image.{Image}
use Rattle.cell_types.specs.Layout.{Layout}
use Rattle.volume_meaning.specs.Documents.{Document}
use Rattle.volume_meaning.specs.Keeping.{IsKept}
use Rattle.volume_meaning.specs.Volumes.{IsVolume}
use Rattle.receipt_text.specs.Listed.{listed_image}
use Rattle.receipt_cells.specs.Needed.{ListsJust, RestsOn}

-- A document that is kept is kept in each image that has the cells which this rests on.
abbrev pub KeptByCells : Type 0
KeptByCells =
    (cells : ℕ) (image other : Image) (g : Layout) (d : Document) → IsVolume cells image g → IsKept cells image g d
    → ((c : ℕ) (value : List ℕ) → RestsOn cells image g d c → image c ≡ Some value → other c ≡ Some value)
    → IsVolume cells other g × IsKept cells other g d

-- So a list of just these cells keeps the document by itself.
abbrev pub ListsKeepAlone : Type 0
ListsKeepAlone =
    (cells : ℕ) (image : Image) (g : Layout) (d : Document) (listed : List (ℕ × List ℕ)) → IsVolume cells image g
    → IsKept cells image g d → ListsJust (RestsOn cells image g d) image [] listed
    → IsVolume cells (listed_image listed) g × IsKept cells (listed_image listed) g d
