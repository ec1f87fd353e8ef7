-- Journals, and the cells that they name.
use Rattle.std.specs.Prelude.{◌≡◌, ◌<◌, ◌≤◌, ◌+◌, ◌-◌, ◌^◌, ◌⊎◌, ℕ, List, Some, ⊤}
use Rattle.cell_types.specs.Image.{Image}
use Rattle.cell_types.specs.Layout.{Layout, FirstBlock, Root, LiesIn}
use Rattle.cell_types.specs.Records.{IsRecordCell}
use Rattle.cell_types.specs.declared.record_cell.RecordCell.{RecordCell}
use Rattle.cell_types.specs.declared.record_cell.RecordCell.TheVariants.{Posting, Jump, Bucket, Child}
use Rattle.volume_meaning.specs.Documents.{document_at}
use Rattle.volume_meaning.specs.Slots.{Stores, IsDone}

-- where the journal begins in a slot's cells: it is their end
abbrev pub journal_at : ℕ → ℕ → ℕ → ℕ
journal_at start length journal = start + length - journal

-- a record of the index: a posting, a jump, a bucket or a child
abbrev pub IsIndexRecord : RecordCell → Type 0
IsIndexRecord (Posting key last tag) = ⊤
IsIndexRecord (Jump target) = ⊤
IsIndexRecord (Bucket slot fingerprint) = ⊤
IsIndexRecord (Child target) = ⊤
IsIndexRecord _ = ⊥

-- This place of the journal holds an exact copy of an index cell: of this record, well-formed in the cell target,
-- which the copy's address names.
pub record CopiesIndexCell (image : Image) (start length journal place target : ℕ) (copied : RecordCell) : Type 0 where
  pub below : place < journal
  pub entry : List ℕ
  pub stands : image (journal_at start length journal + place) ≡ Some entry
  pub index : IsIndexRecord copied
  pub address : target < 2 ^ 32
  pub is : IsRecordCell copied target entry

-- the cell lies in the block part of slot m, which is committed or done
pub record LiesInBlocks (g : Layout) (image : Image) (m cell : ℕ) : Type 0 where
  pub start : ℕ
  pub length : ℕ
  pub bytes : ℕ
  pub journal : ℕ
  pub stores : Stores g image m start length bytes journal
  pub from : start ≤ cell
  pub below : cell < document_at start length bytes journal

-- an index cell of slot n or a lower one: it lies in a first block, in the root, or in the block part of such a slot
pub data IsIndexCell (g : Layout) (image : Image) (n cell : ℕ) : Type 0 where
  of_list : (l : ℕ) → LiesIn g (FirstBlock l) cell → IsIndexCell g image n cell
  of_root : LiesIn g Root cell → IsIndexCell g image n cell
  of_slot : (m : ℕ) → m ≤ n → LiesInBlocks g image m cell → IsIndexCell g image n cell

-- the journal of a slot that is done names this cell
pub record IsNamed (g : Layout) (image : Image) (cell : ℕ) : Type 0 where
  pub m : ℕ
  pub start : ℕ
  pub length : ℕ
  pub bytes : ℕ
  pub journal : ℕ
  pub done : IsDone g image m start length bytes journal
  pub place : ℕ
  pub copied : RecordCell
  pub copies : CopiesIndexCell image start length journal place cell copied

-- Place of the journal of slot n is in order: it copies an index cell, a later one than the place before, of this
-- slot's blocks or lower, and before this slot's document.
pub record IsInOrder (g : Layout) (image : Image) (n start length bytes journal place : ℕ) : Type 0 where
  pub target : ℕ
  pub copied : RecordCell
  pub copies : CopiesIndexCell image start length journal place target copied
  pub rises : (place ≡ 0)
      ⊎ ((before : ℕ) × (lower : ℕ) × (other : RecordCell) × (place ≡ before + 1)
      × CopiesIndexCell image start length journal before lower other × (lower < target))
  pub before_document : target < document_at start length bytes journal
  pub index : IsIndexCell g image n target
