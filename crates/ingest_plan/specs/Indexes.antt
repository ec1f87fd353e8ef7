-- What planning the whole index of a document does: its postings, and its bucket.
use Rattle.std.specs.Prelude.{◌≡◌, ◌≤◌, ◌+◌, ◌-◌, ℕ, List, length, slice_get, Some, None, Result, Ok, Err, IsTrue, ⊤}
use Rattle.cell_types.specs.Image.{Image, Extends, IsUnchanged}
use Rattle.cell_types.specs.Layout.{Layout, list_at, pool_at, lists_at}
use Rattle.cell_types.specs.Records.{IsRecordCell}
use Rattle.cell_types.specs.declared.record_cell.RecordCell.{RecordCell}
use Rattle.cell_types.specs.declared.refusal.Evidence.{Evidence}
use Rattle.cell_types.specs.declared.refusal.Fault.TheVariants.{Tampered, Failed}
use Rattle.volume_meaning.specs.Blocks.{Trail}
use Rattle.volume_meaning.specs.Postings.{ListedPosting}
use Rattle.tamper_rules.specs.Journals.{IsIndexRecord}
use Rattle.worm_device.specs.Calls.{Called}
use Rattle.worm_device.specs.Counts.{IsStill, Rose}
use Rattle.worm_device.specs.Overlays.{over}
use Rattle.worm_device.specs.Views.{ViewState}
use Rattle.cell_pool.specs.declared.fault.GrowthFault.{GrowthFault}
use Rattle.cell_pool.specs.declared.fault.GrowthFault.TheVariants.{Fault, NoMemory}
use Rattle.hash_tree.specs.declared.level.Level.{Level}
use Rattle.hash_tree.specs.declared.path.Open.{Open}
use Rattle.jump_insertion.specs.Evidence.{ShowsBelow}
use Rattle.hash_tree.specs.Inserting as tree
use Rattle.hash_tree.specs.Readiness.{blank_of, cost_of}
use Rattle.ingest_plan.specs.Counts.{HasWrittenCells, PlansOneOrTwoEach}
use Rattle.ingest_plan.specs.Granting.{GivesWhatIsLedTo}
use Rattle.ingest_plan.specs.Licensing.{IsLicensable}
use Rattle.ingest_plan.specs.Standing.{HasKeysBetween, IndexStands, ListsStand}
use Rattle.ingest_plan.specs.declared.place.PathEnd.{PathEnd}

-- the cell of an index record, which is well-formed there, from the first list on
pub record HoldsIndexRecord (g : Layout) (cell : ℕ) (value : List ℕ) : Type 0 where
  pub held : RecordCell
  pub index : IsIndexRecord held
  pub is : IsRecordCell held cell value
  pub from : lists_at g ≤ cell

-- in an image the posting has a trail from its list's first block, in blocks before this cell
pub record HasTrailIn (g : Layout) (image : Image) (to : ℕ) (a : ListedPosting) : Type 0 where
  pub at : ℕ
  pub trail : Trail image (pool_at g) to at a.posting (list_at g a.list)

-- The index stands as it should, and costs what its postings and its bucket must: as many cells as are planned, each of
-- which the journal copies once, and as the pool gave.
pub record IndexStandsAtCost (g : Layout) (n : ℕ) (behind : ℕ → ℕ) (rows : List ListedPosting) (level : Level)
    (place : Open) (from to : ℕ) (old new planned : Image) : Type 0 where
  pub stands : IndexStands g n behind rows level place from to old new
  pub count : ℕ
  pub cells : HasWrittenCells planned count
  pub cost : count + (to - from) ≡ stands.lists.cost + cost_of place

-- The index of slot n's document is planned, before the pool's next cell, and nothing but index cells is: one or two
-- for each posting, and for the bucket. What the pool gave, from its next cell before, are blocks and a node that
-- planned cells lead to. In each image that has what stands below and what is planned each posting has its trail; and
-- the slot has its hash trail in each image that has what is planned and in which the path is passed. Where nobody else
-- wrote, what is planned is all that is shown besides what was, and where the place was blank, too, none of it stood in
-- a written cell; and where all lists stood as they should with keys below bounds that the row's keys are past, the whole
-- index does, with keys below any bounds behind the row's, at the cost that it must have.
pub record IsIndexed (g : Layout) (n : ℕ) (rows : List ListedPosting) (level : Level) (place : Open) (from to : ℕ)
    (old new : ViewState) : Type 0 where
  pub only : (cell : ℕ) (value : List ℕ) → new.planned cell ≡ Some value → HoldsIndexRecord g cell value
  pub before : (cell : ℕ) → to ≤ cell → new.planned cell ≡ None
  pub taken : PlansOneOrTwoEach old.planned new.planned (length rows + 1)
  pub grants : GivesWhatIsLedTo new.planned from to
  pub trails : IsTrue old.base.tells → (image : Image) → Extends new.lower image → Extends new.planned image
      → (i : ℕ) (p : ListedPosting) → slice_get rows i ≡ Some p → HasTrailIn g image to p
  pub path : tree.HasTrailThere g level place n to new.planned
  pub shows : IsStill old.base.foreign_writes new.base.foreign_writes → (cell : ℕ)
      → new.image cell ≡ over (new.planned cell) (old.image cell)
  pub blank : IsTrue old.base.tells → old.image (blank_of place) ≡ None → (cell : ℕ) (value : List ℕ)
      → new.planned cell ≡ Some value → old.image cell ≡ None
  pub stands : IsTrue old.base.tells → IsStill old.base.foreign_writes new.base.foreign_writes
      → (bound behind : ℕ → ℕ) → HasKeysBetween rows bound behind → ListsStand g old.image from bound
      → IndexStandsAtCost g n behind rows level place from to old.image new.image new.planned

-- What is named: a cell of a list that one of the postings goes into, or the child cell that led to the level's node.
pub data IsIndexEvidence (g : Layout) (rows : List ListedPosting) (level : Level) (place : Open) (s : ViewState)
    (e : Evidence)
    : Type 0 where
  in_list : (i : ℕ) (p : ListedPosting) → slice_get rows i ≡ Some p
      → ShowsBelow s (list_at g p.list) (pool_at g) p.posting.key e → IsIndexEvidence g rows level place s e
  in_tree : tree.IsPlaceTaken g level place s e → IsIndexEvidence g rows level place s e

-- how planning the index may end, and why
abbrev pub IndexEnds : Layout → ℕ → List ListedPosting → Level → Open → ℕ → ℕ → ViewState → ViewState
    → Result Unit GrowthFault → Type 0
IndexEnds g n rows level place from to old new (Ok done) = IsIndexed g n rows level place from to old new
IndexEnds g n rows level place from to old new (Err (Fault Failed)) = Rose old.base.faults new.base.faults
IndexEnds g n rows level place from to old new (Err (Fault (Tampered e))) =
    IsTrue old.base.tells → IsIndexEvidence g rows level place new e × IsLicensable g old new
IndexEnds g n rows level place from to old new (Err (NoMemory lack)) = ⊤

-- What planning the index of a document does, where the pool's next cell was this one and is that one. Where nobody else
-- wrote, the device below stands as it did.
pub record Indexes (g : Layout) (n : ℕ) (rows : List ListedPosting) (end : PathEnd) (from to : ℕ) (old new : ViewState)
    (result : Result Unit GrowthFault) : Type 0 where
  pub called : Called old.base new.base
  pub cells : new.cells ≡ old.cells
  pub fresh : new.fresh ≡ old.fresh
  pub loans : new.loans ≡ old.loans
  pub lower : Extends old.lower new.lower
  pub quiet : IsStill old.base.foreign_writes new.base.foreign_writes → IsUnchanged old.base.image new.base.image
  pub ends : IndexEnds g n rows end.level end.place from to old new result
