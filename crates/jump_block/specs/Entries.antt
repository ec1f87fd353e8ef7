-- What reading an entry of a block answers.
use Rattle.std.specs.Prelude.{◌≡◌, ◌≤◌, ◌+◌, ◌%◌, ℕ, List, Option, Some, None, Result, Ok, Err, IsTrue}
use Rattle.cell_types.specs.Image.{Image}
use Rattle.cell_types.specs.Records.{IsRecordCell}
use Rattle.cell_types.specs.declared.refusal.Fault.{Fault}
use Rattle.cell_types.specs.declared.refusal.Fault.TheVariants.{Tampered, Failed}
use Rattle.volume_meaning.specs.Volumes.{Holds}
use Rattle.volume_meaning.specs.Blocks.{PostingFields, posting_record}
use Rattle.tamper_rules.specs.declared.numbers.TheConstants.{BLOCK_OUT_OF_ORDER}
use Rattle.worm_device.specs.Counts.{Rose}
use Rattle.worm_device.specs.Views.{ViewState, Viewed}
use Rattle.jump_block.specs.declared.held_entry.Entry.{Entry}

-- the posting of an entry
abbrev pub posting_of : Entry → PostingFields
posting_of e = record { key = e.key; last = e.last; tag = e.tag }

-- the number of an entry's cell
abbrev pub cell_of : Entry → ℕ
cell_of e = e.block + e.place

-- what stands in the cell of this number is no posting there
pub record IsNoPosting (image : Image) (at : ℕ) (found : List ℕ) : Type 0 where
  pub stands : image at ≡ Some found
  pub none : (p : PostingFields) → IsRecordCell (posting_record p) at found → ⊥

-- a blank cell, a posting, or a written cell that is none
abbrev pub EntryEnds : ℕ → ℕ → ViewState → ViewState → Result (Option Entry) Fault → Type 0
EntryEnds block place old new (Ok None) = IsTrue old.base.tells → new.image (block + place) ≡ None
EntryEnds block place old new (Ok (Some e)) =
    (e.block ≡ block) × (e.place ≡ place) × (e.key % 256 ≤ e.last)
    × (IsTrue old.base.tells → Holds new.image (block + place) (posting_record (posting_of e)))
EntryEnds block place old new (Err Failed) = Rose old.base.faults new.base.faults
EntryEnds block place old new (Err (Tampered e)) =
    (e.rule ≡ BLOCK_OUT_OF_ORDER) × (e.cell ≡ block + place)
    × (IsTrue old.base.tells → IsNoPosting new.image (block + place) e.found)

-- reading an entry costs one read at most
pub record ReadsEntry (block place : ℕ) (old new : ViewState) (result : Result (Option Entry) Fault) : Type 0 where
  pub viewed : Viewed old new
  pub reads : new.base.reads ≤ old.base.reads + 1
  pub ends : EntryEnds block place old new result
