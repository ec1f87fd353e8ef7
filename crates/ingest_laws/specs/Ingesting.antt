-- The cells that one ingest writes, in five phases.
use Rattle.std.specs.Prelude.{◌≡◌, ◌<◌, ◌≤◌, ◌+◌, ◌^◌, ◌⊎◌, ℕ, List, length, slice_get, Option, Some, None}
use Rattle.cell_types.specs.Image.{Image, Extends}
use Rattle.cell_types.specs.Layout.{Layout, reserve_at, outcome_at, done_at, spare_at}
use Rattle.cell_types.specs.Records.{IsRecordCell}
use Rattle.cell_types.specs.declared.record_cell.RecordCell.{RecordCell}
use Rattle.cell_types.specs.declared.record_cell.RecordCell.TheVariants.{Reserve, Commit, Done, Stamp}
use Rattle.volume_meaning.specs.Documents.{Document, AreDocuments, stored_bytes, content_at, document_at}
use Rattle.tamper_rules.specs.Journals.{journal_at, IsIndexRecord}
use Rattle.tamper_rules.specs.Settling.{IsSettled, IsWith, RecordRow, DoneRow, Sound, Held}
use Rattle.volume_meaning.specs.Slots.{cells_for, IsHorizon}
use Rattle.volume_meaning.specs.Volumes.{Holds, IsVolume, IsWritten}

-- What an ingest is to write: a document into a slot, which reserves these cells, and the cells of its journal; on a
-- volume of stamped documents its stamp.
pub record Plan : Type 0 where
  pub slot : ℕ
  pub start : ℕ
  pub reserved : ℕ
  pub id : List ℕ
  pub body : List ℕ
  pub stamp : Option ℕ
  pub journal : List (List ℕ)

-- the phases
pub data Phase : Type 0 where
  Reserving : Phase
  Storing : Phase
  Committing : Phase
  Applying : Phase
  Finishing : Phase

-- their order
abbrev pub order_of : Phase → ℕ
order_of Reserving = 0
order_of Storing = 1
order_of Committing = 2
order_of Applying = 3
order_of Finishing = 4

-- the bytes that are stored, and how many
abbrev pub stored_of : Plan → List ℕ
stored_of p = stored_bytes p.id p.body

-- the stamp, in the slot's spare cell
pub record StampRow (p : Plan) (cell : ℕ) (value : List ℕ) : Type 0 where
  pub seconds : ℕ
  pub given : p.stamp ≡ Some seconds
  pub row : RecordRow (Stamp seconds) (spare_at p.slot) cell value

-- a cell of the document
pub record ContentRow (p : Plan) (cell : ℕ) (value : List ℕ) : Type 0 where
  pub place : ℕ
  pub below : place < cells_for (length (stored_of p))
  pub at : cell ≡ document_at p.start p.reserved (length (stored_of p)) (length p.journal) + place
  pub is : value ≡ content_at (stored_of p) place

-- a cell of the journal
pub record CopyRow (p : Plan) (cell : ℕ) (value : List ℕ) : Type 0 where
  pub place : ℕ
  pub entry : slice_get p.journal place ≡ Some value
  pub at : cell ≡ journal_at p.start p.reserved (length p.journal) + place

-- a cell of the journal at its own address
pub record AppliedRow (p : Plan) (cell : ℕ) (value : List ℕ) : Type 0 where
  pub place : ℕ
  pub entry : slice_get p.journal place ≡ Some value
  pub copied : RecordCell
  pub index : IsIndexRecord copied
  pub address : cell < 2 ^ 32
  pub is : IsRecordCell copied cell value

-- a cell of the document or of the journal
abbrev pub StoredRow : Plan → ℕ → List ℕ → Type 0
StoredRow p cell value = ContentRow p cell value ⊎ CopyRow p cell value

-- in this phase the cell gets this value
abbrev pub Row : Plan → Phase → ℕ → List ℕ → Type 0
Row p Reserving cell value = RecordRow (Reserve p.start p.reserved) (reserve_at p.slot) cell value
Row p Storing cell value = StoredRow p cell value ⊎ StampRow p cell value
Row p Committing cell value =
    RecordRow (Commit (length (stored_of p)) (length p.journal)) (outcome_at p.slot) cell value
Row p Applying cell value = AppliedRow p cell value
Row p Finishing cell value = DoneRow p.slot cell value

-- in some phase the cell gets this value
abbrev pub AnyRow : Plan → ℕ → List ℕ → Type 0
AnyRow p cell value = (phase : Phase) × Row p phase cell value

-- The image has a cell of one phase that old lacked only where it has every cell of the phases before.
abbrev pub IsInPhases : Plan → Image → Image → Type 0
IsInPhases p old image =
    (earlier later : Phase) → order_of earlier < order_of later
    → (cell : ℕ) (value : List ℕ) → Row p later cell value → old cell ≡ None → image cell ≡ Some value
    → (other : ℕ) (held : List ℕ) → Row p earlier other held → image other ≡ Some held

-- A settled image becomes another by an ingest into the slot at its horizon.
pub record IsIngest (g : Layout) (old new : Image) (p : Plan) : Type 0 where
  pub volume : IsVolume g.cells old g
  pub before : IsSettled g old
  pub after : IsSettled g new
  pub horizon : IsHorizon g old old p.slot
  pub free : p.slot < g.slots
  pub reserve : Holds new (reserve_at p.slot) (Reserve p.start p.reserved)
  pub commit : Holds new (outcome_at p.slot) (Commit (length (stored_of p)) (length p.journal))
  pub done : Holds new (done_at p.slot) (Done p.slot)
  pub rows : IsWith (AnyRow p) old new

-- Ingesting, cut short anywhere, leaves a sound volume, which holds the old documents where the outcome cell is blank
-- and the new ones otherwise.
pub record LeavesSound (cells : ℕ) (old new : Image) (n : ℕ) (image : Image) : Type 0 where
  pub sound : Sound cells image
  pub blank : image (outcome_at n) ≡ None → (documents : List Document) → AreDocuments cells old documents
      → Held cells image documents
  pub written : IsWritten image (outcome_at n) → (documents : List Document)
      → AreDocuments cells new documents → Held cells image documents

-- an ingest that is cut short anywhere, with cells of a phase only where all of those before are there
abbrev pub IngestLeavesSound : Type 0
IngestLeavesSound =
    (g : Layout) (old new image : Image) (p : Plan)
    → IsIngest g old new p → Extends old image → Extends image new → IsInPhases p old image
    → LeavesSound g.cells old new p.slot image

-- The image was left in this phase: it has all cells of the phases before, and none of those behind.
pub record IsLeftIn (p : Plan) (old image : Image) (phase : Phase) : Type 0 where
  pub keeps : Extends old image
  pub before : (earlier : Phase) → order_of earlier < order_of phase → (cell : ℕ) (value : List ℕ)
      → Row p earlier cell value → image cell ≡ Some value
  pub only : (cell : ℕ) (value : List ℕ) → image cell ≡ Some value
      → (old cell ≡ Some value) ⊎ ((one : Phase) × (order_of one ≤ order_of phase) × Row p one cell value)

-- an ingest that is cut short in one phase
abbrev pub PhasesLeaveSound : Type 0
PhasesLeaveSound =
    (g : Layout) (old new image : Image) (p : Plan) (phase : Phase)
    → IsIngest g old new p → IsLeftIn p old image phase → LeavesSound g.cells old new p.slot image
