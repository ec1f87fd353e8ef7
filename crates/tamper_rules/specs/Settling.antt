-- What it means that a volume is settled, what settling makes of it, and when a volume is sound.
use Rattle.std.specs.Prelude.{◌≡◌, ◌<◌, ◌+◌, ◌⊎◌, ℕ, List, [], Some, None}
use Rattle.cell_types.specs.Image.{Image, Extends, IsUnchanged}
use Rattle.cell_types.specs.Layout.{Layout, outcome_at, done_at}
use Rattle.cell_types.specs.Records.{IsRecordCell}
use Rattle.cell_types.specs.declared.record_cell.RecordCell.{RecordCell}
use Rattle.cell_types.specs.declared.record_cell.RecordCell.TheVariants.{Abandon, Done}
use Rattle.volume_meaning.specs.Documents.{Document, AreDocuments}
use Rattle.tamper_rules.specs.Journals.{journal_at, CopiesIndexCell, IsInOrder}
use Rattle.tamper_rules.specs.Rules.{Rule, IsMet}
use Rattle.volume_meaning.specs.Slots.{IsReserved, IsCommitted, HasEnded, IsHorizon}
use Rattle.volume_meaning.specs.Volumes.{IsWritten, IsVolume}

-- each rule is kept at each written cell, and each slot below a horizon is abandoned or done
pub record IsSettled (g : Layout) (image : Image) : Type 0 where
  pub met : (rule : Rule) (cell : ℕ) → IsWritten image cell → IsMet g image rule cell
  pub ended : (u m : ℕ) → IsHorizon g image image u → m < u → HasEnded g image image m

-- the image is a volume, and settled
pub record Settled (cells : ℕ) (image : Image) : Type 0 where
  pub layout : Layout
  pub volume : IsVolume cells image layout
  pub settled : IsSettled layout image

-- u is the horizon, and there is no other
pub record IsOneHorizon (g : Layout) (image : Image) (u : ℕ) : Type 0 where
  pub is : IsHorizon g image image u
  pub one : (v : ℕ) → IsHorizon g image image v → v ≡ u

-- new is old with these cells: each has its value there, and what else stands there stood before
pub record IsWith (rows : ℕ → List ℕ → Type 0) (old new : Image) : Type 0 where
  pub keeps : Extends old new
  pub adds : (cell : ℕ) (value : List ℕ) → rows cell value → new cell ≡ Some value
  pub only : (cell : ℕ) (value : List ℕ) → new cell ≡ Some value → (old cell ≡ Some value) ⊎ rows cell value

-- this record's cell, in the cell of this number
pub record RecordRow (r : RecordCell) (number cell : ℕ) (value : List ℕ) : Type 0 where
  pub at : cell ≡ number
  pub is : IsRecordCell r number value

-- the abandon cell of slot n, and its done cell
abbrev pub AbandonRow : ℕ → ℕ → List ℕ → Type 0
AbandonRow n = RecordRow Abandon (outcome_at n)

abbrev pub DoneRow : ℕ → ℕ → List ℕ → Type 0
DoneRow n = RecordRow (Done n) (done_at n)

-- a journal cell at its target
pub record JournalRow (image : Image) (start reserved journal cell : ℕ) (value : List ℕ) : Type 0 where
  pub place : ℕ
  pub copied : RecordCell
  pub copies : CopiesIndexCell image start reserved journal place cell copied
  pub stands : image (journal_at start reserved journal + place) ≡ Some value

-- the journal of slot n, which is committed, may be carried out: each of its cells is in order, and each target is
-- blank or holds what it is to hold
pub record IsReadyJournal (g : Layout) (image : Image) (n start reserved bytes journal : ℕ) : Type 0 where
  pub in_order : (place : ℕ) → place < journal → IsInOrder g image n start reserved bytes journal place
  pub free : (cell : ℕ) (value : List ℕ) → JournalRow image start reserved journal cell value
      → (image cell ≡ None) ⊎ (image cell ≡ Some value)

-- What settling makes of an image: of a settled one the same; where the slot below the one horizon is reserved, the
-- image with its abandon cell; where that slot is committed and its journal may be carried out, the image with the
-- journal's cells at their targets and the done cell.
pub data After (cells : ℕ) (image after : Image) : Type 0 where
  nothing : Settled cells image → IsUnchanged image after → After cells image after
  abandoned : (g : Layout) (n start reserved : ℕ) → IsVolume cells image g → IsOneHorizon g image (n + 1)
      → IsReserved g image image n start reserved → IsWith (AbandonRow n) image after → After cells image after
  completed : (g : Layout) (n start reserved bytes journal : ℕ) → IsVolume cells image g
      → IsOneHorizon g image (n + 1)
      → IsCommitted g image image n start reserved bytes journal → IsReadyJournal g image n start reserved bytes journal
      → IsWith (λ cell value. JournalRow image start reserved journal cell value ⊎ DoneRow n cell value) image after
      → After cells image after

-- settling makes a settled image of it
pub record Sound (cells : ℕ) (image : Image) : Type 0 where
  pub after : Image
  pub is : After cells image after
  pub settled : Settled cells after

-- no cell is written, or settling makes a settled image of it: what a crash may leave at any moment
abbrev pub IsBlankOrSound : ℕ → Image → Type 0
IsBlankOrSound cells image = ((cell : ℕ) → image cell ≡ None) ⊎ Sound cells image

-- The documents that a sound image holds: those that stand once it is settled; none where no cell is written.
pub data Held (cells : ℕ) (image : Image) (documents : List Document) : Type 0 where
  none : ((cell : ℕ) → image cell ≡ None) → documents ≡ [] → Held cells image documents
  of_after : (after : Image) → After cells image after → AreDocuments cells after documents
      → Held cells image documents
