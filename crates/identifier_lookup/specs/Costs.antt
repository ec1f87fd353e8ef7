-- What a walk reads: the cells of the path, those of the slots that its buckets name, and the documents of these slots.
use Rattle.std.specs.Prelude.{◌≡◌, ◌<◌, ◌≤◌, ◌+◌, ◌⊎◌, ℕ, List, [], ◌∷◌, length, sum_by, Contains, IsTrue, ⊤}
use Rattle.sha2.specs.Sha256.{sha256}
use Rattle.cell_types.specs.Image.{Image}
use Rattle.cell_types.specs.Layout.{Layout}
use Rattle.cell_types.specs.declared.record_cell.RecordCell.TheVariants.{Bucket}
use Rattle.volume_meaning.specs.Documents.{Document, stored_bytes}
use Rattle.volume_meaning.specs.Slots.{IsDone, cells_for}
use Rattle.volume_meaning.specs.Volumes.{Holds, IsVolume}
use Rattle.volume_meaning.specs.HashPaths.{fingerprint_of, nibble}
use Rattle.volume_meaning.specs.Nearness.{IsPathMate}
use Rattle.volume_meaning.specs.Nodes.{IsOnPath}
use Rattle.worm_device.specs.Views.{ViewState}

-- slot n is done, and its document has so many cells
pub record HasDocumentCells (g : Layout) (image : Image) (n cells : ℕ) : Type 0 where
  pub start : ℕ
  pub reserved : ℕ
  pub bytes : ℕ
  pub journal : ℕ
  pub done : IsDone g image n start reserved bytes journal
  pub is : cells ≡ cells_for bytes

-- these are no cells, or those of slot n's document
abbrev pub AreDocumentCells : Layout → Image → ℕ → ℕ → Type 0
AreDocumentCells g image n cells = (cells ≡ 0) ⊎ HasDocumentCells g image n cells

-- Comparing the document of slot n reads each cell of it once at most, and four cells besides at most.
pub record CompareCosts (g : Layout) (n : ℕ) (old new : ViewState) : Type 0 where
  pub cells : ℕ
  pub reads : new.base.reads ≤ old.base.reads + cells + 4
  pub are : IsTrue old.base.tells → AreDocumentCells g new.image n cells

-- A comparison on a walk: the level of the node whose bucket named the slot, the node, the slot, and how many cells of
-- the slot's document were read.
pub record Comparison : Type 0 where
  pub level : ℕ
  pub node : ℕ
  pub slot : ℕ
  pub cells : ℕ

abbrev pub cells_in : Comparison → ℕ
cells_in c = c.cells

-- the levels fall from one comparison to the next, and all are below this one
abbrev pub Fall : ℕ → List Comparison → Type 0
Fall below [] = ⊤
Fall below (c ∷ cs) = (c.level < below) × Fall c.level cs

-- The comparison is one of the path of the identifier: the node is on it, and its bucket there has the fingerprint and
-- names the slot, whose document's cells were read.
pub record IsComparison (g : Layout) (image : Image) (id : List ℕ) (c : Comparison) : Type 0 where
  pub on_path : IsOnPath g image (sha256 id) c.level c.node
  pub bucket : Holds image (c.node + nibble (sha256 id) c.level) (Bucket c.slot (fingerprint_of (sha256 id)))
  pub are : AreDocumentCells g image c.slot c.cells

-- so many reads are enough for the cells of a path and for those of the slots that its buckets name: two a level, and
-- six for each bucket of which the slot is looked at
abbrev pub WALK_READS : ℕ
WALK_READS = 512

-- What a walk costs: so many reads, and one for each cell of the documents that it compares. Where cell 0 stated this
-- volume at entry, these are documents that buckets of the path name, one at most for each level.
pub record WalkCosts (g : Layout) (id : List ℕ) (old new : ViewState) : Type 0 where
  pub comparisons : List Comparison
  pub reads : new.base.reads ≤ old.base.reads + WALK_READS + sum_by cells_in comparisons
  pub fall : Fall 64 comparisons
  pub each : IsTrue old.base.tells → IsVolume old.cells old.image g
      → (c : Comparison) → Contains comparisons c → IsComparison g new.image id c

-- a bucket, by its number, and the document of the slot that it names
pub record Mate : Type 0 where
  pub bucket : ℕ
  pub document : Document

-- These have each document that a look-up of the identifier may have to read, once for each bucket that names its slot,
-- whatever else they have.
abbrev pub HaveMates : Layout → Image → List ℕ → List Mate → Type 0
HaveMates g image id mates =
    (d : Document) → (m : IsPathMate g image id d)
    → Contains mates (record { bucket = m.node + nibble (sha256 id) m.level; document = d })

-- how many cells a document has
abbrev pub cells_of_document : Document → ℕ
cells_of_document d = cells_for (length (stored_bytes d.id d.body))

-- how many cells the documents of these buckets have, one that several buckets name once for each of them
abbrev pub mate_cells : List Mate → ℕ
mate_cells mates = sum_by (λ mate. cells_of_document mate.document) mates
