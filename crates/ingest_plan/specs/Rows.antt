-- What inserting a row of postings does, each into its list.
use Rattle.std.specs.Prelude.{◌≡◌, ◌<◌, ◌≤◌, ◌+◌, ◌*◌, ◌%◌, ◌⊎◌, ℕ, List, length, slice_get, Some, None, Result, Ok, Err, IsTrue, ⊤}
use Rattle.cell_types.specs.Image.{Extends, IsUnchanged}
use Rattle.cell_types.specs.Layout.{Layout, list_at, pool_at, all_lists}
use Rattle.cell_types.specs.Records.{IsRecordCell}
use Rattle.cell_types.specs.declared.refusal.Fault.TheVariants.{Tampered, Failed}
use Rattle.cell_types.specs.declared.record_cell.RecordCell.TheVariants.{Jump}
use Rattle.volume_meaning.specs.Volumes.{Holds}
use Rattle.volume_meaning.specs.Blocks.{posting_record, Trail}
use Rattle.volume_meaning.specs.Postings.{ComesBefore, ListedPosting}
use Rattle.cell_pool.specs.declared.pool.Pool.{Pool}
use Rattle.cell_pool.specs.declared.fault.GrowthFault.{GrowthFault}
use Rattle.cell_pool.specs.declared.fault.GrowthFault.TheVariants.{Fault, NoMemory}
use Rattle.worm_device.specs.Calls.{Called}
use Rattle.worm_device.specs.Counts.{IsStill, Rose}
use Rattle.worm_device.specs.Views.{ViewState}
use Rattle.worm_device.specs.declared.owner.Owner.{Owner}
use Rattle.jump_insertion.specs.Evidence.{AreInTheirPlaces, ShowsBelow}
use Rattle.jump_insertion.specs.Readiness.{IsReadyList, IsUntouched}
use Rattle.ingest_plan.specs.Counts.{PlansAtCost, PlansOneOrTwoEach}
use Rattle.ingest_plan.specs.Granting.{GivesWhatIsLedTo}
use Rattle.ingest_plan.specs.Licensing.{IsLicensable}
use Rattle.ingest_plan.specs.Standing.{HasKeysBetween, KeysSoFar, ListsStand, RowStands}

-- the postings are in lists of the volume, by list and key, and each key modulo 256 is at most the last ordinal
pub record AreInOrder (g : Layout) (rows : List ListedPosting) : Type 0 where
  pub lists_are : (i : ℕ) (p : ListedPosting) → slice_get rows i ≡ Some p → p.list < all_lists g
  pub keys_fit : (i : ℕ) (p : ListedPosting) → slice_get rows i ≡ Some p → p.posting.key % 256 ≤ p.posting.last
  pub order : (i j : ℕ) (p q : ListedPosting) → i < j → slice_get rows i ≡ Some p → slice_get rows j ≡ Some q
      → ComesBefore p q

-- nothing is planned for any list of the volume, and in no first block
abbrev pub AreUntouched : Layout → ViewState → Type 0
AreUntouched g s = (l : ℕ) → l < all_lists g → IsUntouched s (list_at g l)

-- the posting is planned, and has a trail from its list's first block
pub record StandsInList (g : Layout) (s : ViewState) (to : ℕ) (a : ListedPosting) : Type 0 where
  pub at : ℕ
  pub trail : Trail s.image (pool_at g) to at a.posting (list_at g a.list)
  pub planned : Holds s.planned at (posting_record a.posting)

-- the cell lies in a first block or from the pool's start on
pub data LiesInLists (g : Layout) (cell : ℕ) : Type 0 where
  in_first : (l : ℕ) → l < all_lists g → list_at g l ≤ cell → cell < list_at g l + 256 → LiesInLists g cell
  in_pool : pool_at g ≤ cell → LiesInLists g cell

-- one of the first so many postings of the row, or a pointer
pub data IsRowCell (rows : List ListedPosting) (count cell : ℕ) (value : List ℕ) : Type 0 where
  of_posting : (i : ℕ) (p : ListedPosting) → i < count → slice_get rows i ≡ Some p
      → IsRecordCell (posting_record p.posting) cell value → IsRowCell rows count cell value
  of_pointer : (target : ℕ) → IsRecordCell (Jump target) cell value → IsRowCell rows count cell value

-- The first so many postings of the row are inserted. What was planned is planned still, for whom it was; what is
-- planned besides are these postings, and pointers, for their lists, one or two cells for each posting, and lies before
-- the pool's next cell. What the pool gave are blocks that planned pointers lead to. Where the view tells its image,
-- what was shown is shown still, what is planned besides read blank, and each of these postings has its trail. Where
-- nobody else wrote, too, nothing else has changed; and where all lists stood as they should with keys below bounds that
-- the row's keys are past, they stand so still, with keys below any bounds behind the row's, and these postings cost what
-- they must: as many cells as are planned for them and as the pool gave.
pub record AreInserted (g : Layout) (rows : List ListedPosting) (count from to : ℕ) (old new : ViewState) : Type 0 where
  pub kept : Extends old.planned new.planned
  pub owners : (cell : ℕ) (owner : Owner) → old.owners cell ≡ Some owner → new.owners cell ≡ Some owner
  pub added : (cell : ℕ) (value : List ℕ) → new.planned cell ≡ Some value
      → (old.planned cell ≡ Some value) ⊎ IsRowCell rows count cell value
  pub lie : (cell : ℕ) (value : List ℕ) → new.planned cell ≡ Some value
      → (old.planned cell ≡ Some value) ⊎ LiesInLists g cell
  pub for_lists : (cell : ℕ) (owner : Owner) → new.owners cell ≡ Some owner
      → (old.owners cell ≡ Some owner)
      ⊎ ((i : ℕ) × (p : ListedPosting) × (i < count) × (slice_get rows i ≡ Some p) × (owner.head ≡ list_at g p.list))
  pub free : (cell : ℕ) → to ≤ cell → new.planned cell ≡ None
  pub taken : PlansOneOrTwoEach old.planned new.planned count
  pub grants : GivesWhatIsLedTo new.planned from to
  pub shown : IsTrue old.base.tells → Extends old.image new.image
  pub blank : IsTrue old.base.tells → (cell : ℕ) → old.planned cell ≡ None → (value : List ℕ)
      → new.planned cell ≡ Some value → old.image cell ≡ None
  -- what is planned besides is in its place, where the cells that are new begin within the volume
  pub places : IsTrue old.base.tells → new.fresh ≤ g.cells → AreInTheirPlaces g old → AreInTheirPlaces g new
  pub stand : IsTrue old.base.tells → (i : ℕ) (p : ListedPosting) → i < count → slice_get rows i ≡ Some p
      → StandsInList g new to p
  pub unplanned : IsStill old.base.foreign_writes new.base.foreign_writes → (cell : ℕ) → new.planned cell ≡ None
      → new.image cell ≡ old.image cell
  pub lists : IsTrue old.base.tells → IsStill old.base.foreign_writes new.base.foreign_writes
      → (bound behind : ℕ → ℕ) → HasKeysBetween rows bound behind → ListsStand g old.image from bound
      → (stands : RowStands g behind rows count from to old.image new.image)
      × PlansAtCost old.planned new.planned from to stands.cost

-- How inserting the row may end, and why. Evidence is of a list that one of the postings goes into, and may be licensed
-- where nothing was planned at entry.
abbrev pub InsertRowEnds : Layout → List ListedPosting → ℕ → ℕ → ViewState → ViewState → Result Unit GrowthFault
    → Type 0
InsertRowEnds g rows from to old new (Ok done) = AreInserted g rows (length rows) from to old new
InsertRowEnds g rows from to old new (Err (Fault Failed)) = Rose old.base.faults new.base.faults
InsertRowEnds g rows from to old new (Err (Fault (Tampered e))) =
    IsTrue old.base.tells → ((i : ℕ) × (p : ListedPosting) × (slice_get rows i ≡ Some p)
    × ShowsBelow new (list_at g p.list) (pool_at g) p.posting.key e)
    × (((cell : ℕ) → old.planned cell ≡ None) → IsLicensable g old new)
InsertRowEnds g rows from to old new (Err (NoMemory lack)) = ⊤

-- What inserting a row of postings does, where the pool's next cell was this one and is that one. Where nobody else wrote,
-- the device below stands as it did.
pub record InsertsRow (g : Layout) (rows : List ListedPosting) (from to : ℕ) (old new : ViewState)
    (result : Result Unit GrowthFault) : Type 0 where
  pub called : Called old.base new.base
  pub cells : new.cells ≡ old.cells
  pub fresh : new.fresh ≡ old.fresh
  pub loans : new.loans ≡ old.loans
  pub lower : Extends old.lower new.lower
  pub quiet : IsStill old.base.foreign_writes new.base.foreign_writes → IsUnchanged old.base.image new.base.image
  pub ends : InsertRowEnds g rows from to old new result

-- The first so many postings are inserted, and those that come behind them may be.
pub record RowSoFar (g : Layout) (rows : List ListedPosting) (count : ℕ) (first pool : Pool) (old new : ViewState)
    : Type 0 where
  pub called : Called old.base new.base
  pub cells : new.cells ≡ old.cells
  pub fresh : new.fresh ≡ old.fresh
  pub loans : new.loans ≡ old.loans
  pub lower : Extends old.lower new.lower
  pub quiet : IsStill old.base.foreign_writes new.base.foreign_writes → IsUnchanged old.base.image new.base.image
  pub from : first.next ≤ pool.next
  pub to : pool.next ≤ first.next + 256 * count
  pub end : pool.end ≡ first.end
  pub inserted : AreInserted g rows count first.next pool.next old new
  pub untouched : IsTrue old.base.tells → (l : ℕ) → l < all_lists g
      → ((i : ℕ) (p : ListedPosting) → i < count → slice_get rows i ≡ Some p → p.list < l) → IsUntouched new (list_at g l)
  pub ready : IsTrue old.base.tells → (a : ListedPosting) → a.list < all_lists g
      → ((i : ℕ) (p : ListedPosting) → i < count → slice_get rows i ≡ Some p → ComesBefore p a)
      → IsReadyList new (list_at g a.list) (pool_at g) pool.next a.posting.key
  pub keys : IsTrue old.base.tells → IsStill old.base.foreign_writes new.base.foreign_writes
      → (bound behind : ℕ → ℕ) → HasKeysBetween rows bound behind → ListsStand g old.image first.next bound
      → KeysSoFar g bound rows count new.image pool.next
