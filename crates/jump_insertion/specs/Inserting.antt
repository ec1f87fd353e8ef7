-- What inserting a posting into a list does.
use Rattle.std.specs.Prelude.{◌≡◌, ◌≢◌, ◌<◌, ◌≤◌, ◌+◌, ◌⊎◌, ℕ, Some, None, Result, Ok, Err, IsTrue, ⊤}
use Rattle.cell_types.specs.Image.{Extends, IsUnchanged}
use Rattle.cell_types.specs.declared.record_cell.RecordCell.{RecordCell}
use Rattle.cell_types.specs.declared.record_cell.RecordCell.TheVariants.{Jump}
use Rattle.cell_types.specs.declared.refusal.Fault.TheVariants.{Tampered, Failed}
use Rattle.volume_meaning.specs.Volumes.{Holds}
use Rattle.volume_meaning.specs.Blocks.{PostingFields, posting_record, Trail}
use Rattle.ingest_laws.specs.ListShapes.{IsWellListed}
use Rattle.jump_block.specs.Entries.{cell_of, posting_of}
use Rattle.jump_block.specs.declared.held_entry.Entry.{Entry}
use Rattle.cell_pool.specs.declared.fault.GrowthFault.{GrowthFault}
use Rattle.cell_pool.specs.declared.fault.GrowthFault.TheVariants.{Fault, NoMemory}
use Rattle.worm_device.specs.Calls.{Called}
use Rattle.worm_device.specs.Counts.{IsStill, Rose}
use Rattle.worm_device.specs.Views.{ViewState, Viewed}
use Rattle.jump_insertion.specs.Evidence.{ShowsBelow}
use Rattle.jump_insertion.specs.Growing.{Grows, ListBelow}
use Rattle.jump_insertion.specs.Readiness.{IsReadyList}

-- A record was planned for this list in a cell where nothing was planned and which read blank, in the first block or in
-- one from the floor on.
pub record IsPlannedInList (head floor : ℕ) (r : RecordCell) (at : ℕ) (old new : ViewState) : Type 0 where
  pub free : old.planned at ≡ None
  pub blank : IsTrue old.base.tells → old.image at ≡ None
  pub shown : Holds new.image at r
  pub held : Holds new.planned at r
  pub block : ℕ
  pub for_whom : new.owners at ≡ Some (record { head = head; base = block })
  pub from : block ≤ at
  pub to : at < block + 256
  pub where_blocks_lie : (block ≡ head) ⊎ (floor ≤ block)

-- nothing else is planned, and for nobody else; and where nobody else wrote, nothing else is shown
pub record IsAsPlanned (old new : ViewState) (cell : ℕ) : Type 0 where
  pub planned : new.planned cell ≡ old.planned cell
  pub owners : new.owners cell ≡ old.owners cell
  pub shown : IsStill old.base.foreign_writes new.base.foreign_writes → new.image cell ≡ old.image cell

-- What one insertion plans: the posting in this cell, and at most one pointer besides. The pool's next cell was `next`
-- and is `to`: a block is taken only where the pointer leads to it.
pub data PlansEntry (head floor next to : ℕ) (p : PostingFields) (at : ℕ) (old new : ViewState) : Type 0 where
  alone : IsPlannedInList head floor (posting_record p) at old new
      → ((cell : ℕ) → cell ≢ at → IsAsPlanned old new cell) → to ≡ next → PlansEntry head floor next to p at old new
  with_pointer : (pointer target : ℕ) → IsPlannedInList head floor (posting_record p) at old new
      → IsPlannedInList head floor (Jump target) pointer old new → pointer ≢ at
      → ((cell : ℕ) → cell ≢ at → cell ≢ pointer → IsAsPlanned old new cell)
      → (to ≡ next) ⊎ ((target ≡ next) × (to ≡ next + 256)) → PlansEntry head floor next to p at old new

-- The posting is in the list: what was shown is shown still, the posting has a trail from the list's first block, and
-- postings with greater keys may be inserted. Where nobody else wrote, a list that kept its shape keeps it, and the
-- posting costs what it must.
pub record IsPostingInserted (head floor next to : ℕ) (p : PostingFields) (e : Entry)
    (old new : ViewState) : Type 0 where
  pub shown : Extends old.image new.image
  pub trail : Trail new.image floor to (cell_of e) p head
  pub ready : (key : ℕ) → p.key < key → IsReadyList new head floor to key
  pub grows : IsStill old.base.foreign_writes new.base.foreign_writes → IsWellListed old.image floor next head
      → IsWellListed new.image floor to head × ((cost : ℕ) × Grows old.image new.image floor next to head p cost)

-- How inserting a posting may end, and why. What a written cell is named for stands below, and nothing was planned
-- then; where nobody else wrote, none is named in a list that stands as it should.
abbrev pub InsertPostingEnds : ℕ → ℕ → ℕ → ℕ → PostingFields → ViewState → ViewState → Result Entry GrowthFault → Type 0
InsertPostingEnds head floor next to p old new (Ok e) =
    (posting_of e ≡ p) × (e.place < 128) × (e.block + 256 ≤ to)
    × PlansEntry head floor next to p (cell_of e) old new
    × ((cell : ℕ) → to ≤ cell → new.planned cell ≡ None)
    × (IsTrue old.base.tells → IsPostingInserted head floor next to p e old new)
InsertPostingEnds head floor next to p old new (Err (Fault Failed)) = Rose old.base.faults new.base.faults
InsertPostingEnds head floor next to p old new (Err (Fault (Tampered e))) =
    IsTrue old.base.tells → ShowsBelow new head floor p.key e
    × (IsStill old.base.foreign_writes new.base.foreign_writes → ListBelow new floor head p.key → ⊥)
    × Viewed old new
InsertPostingEnds head floor next to p old new (Err (NoMemory lack)) = ⊤

-- Inserting a posting, where the pool's next cell was this one and is that one. Where nobody else wrote, the device below
-- stands as it did.
pub record InsertsPosting (head floor next to : ℕ) (p : PostingFields) (old new : ViewState)
    (result : Result Entry GrowthFault) : Type 0 where
  pub called : Called old.base new.base
  pub cells : new.cells ≡ old.cells
  pub fresh : new.fresh ≡ old.fresh
  pub loans : new.loans ≡ old.loans
  pub lower : Extends old.lower new.lower
  pub quiet : IsStill old.base.foreign_writes new.base.foreign_writes → IsUnchanged old.base.image new.base.image
  pub ends : InsertPostingEnds head floor next to p old new result
