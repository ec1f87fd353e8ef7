-- What holds while a posting is on its way into a list: of what may be planned, of the block that it has come to, and of
-- where it goes.
use Rattle.std.specs.Prelude.{◌≡◌, ◌<◌, ◌≤◌, ◌+◌, ◌%◌, ◌^◌, ◌⊎◌, ℕ, None, IsTrue}
use Rattle.volume_meaning.specs.declared.blocks.TheConstants.{BLOCK_CELLS, ENTRY_PLACES}
use Rattle.volume_meaning.specs.Blocks.{pointer_at}
use Rattle.worm_device.specs.Views.{ViewState}
use Rattle.worm_device.specs.declared.overlay.TheConstants.{OVERLAY_CELLS}
use Rattle.jump_block.specs.Pointing.{HasFull, HasPointer, IsPointerPlace}
use Rattle.jump_block.specs.Spans.{IsSpan}
use Rattle.cell_pool.specs.Grants.{free_cells}
use Rattle.cell_pool.specs.declared.pool.Pool.{Pool}
use Rattle.jump_insertion.specs.Hopping.{IsAt}
use Rattle.jump_insertion.specs.Readiness.{IsOwnBlock, IsBlockReached}
use Rattle.jump_insertion.specs.declared.entries.Home.{Home}
use Rattle.jump_insertion.specs.declared.entries.Insertion.{Insertion}
use Rattle.jump_insertion.specs.declared.entries.ListWalk.{ListWalk}
use Rattle.jump_insertion.specs.declared.entries.Spot.{Spot}
use Rattle.jump_insertion.specs.declared.entries.TailSearch.{TailSearch}
use Rattle.jump_insertion.specs.declared.entries.TailStep.{TailStep}
use Rattle.jump_insertion.specs.declared.entries.Visit.{Visit}
use Rattle.jump_insertion.specs.declared.entries.WrittenPointer.{WrittenPointer}

-- A posting may be planned for its list, from the pool.
pub record IsUnderWay (s : ViewState) (pool : Pool) (insertion : Insertion) : Type 0 where
  -- it is a posting that a cell holds
  pub well_formed : insertion.entry.key % 256 ≤ insertion.entry.last
  -- the first block lies before all others
  pub head : insertion.list.head + BLOCK_CELLS ≤ insertion.list.floor
  -- these lie before the free cells
  pub floor : insertion.list.floor ≤ pool.next
  -- and so does all that stands below
  pub fresh : s.fresh ≤ pool.next
  -- there is room for a block
  pub room : BLOCK_CELLS ≤ free_cells pool
  -- no free cell is planned
  pub free : (cell : ℕ) → pool.next ≤ cell → s.planned cell ≡ None

-- An insertion has come to a block of its list, by a way for its key.
pub record IsVisit (s : ViewState) (pool : Pool) (insertion : Insertion) (visit : Visit) : Type 0 where
  -- the posting may be planned
  pub posting : IsUnderWay s pool insertion
  -- its key is none below those for which the way leads
  pub low : visit.within.low ≤ insertion.entry.key
  -- and none behind them
  pub high : insertion.entry.key < visit.within.high
  -- they are no more than those of a pointer of the level
  pub narrow : visit.within.high ≤ visit.within.low + 16 ^ visit.within.level
  -- the block is the first, or lies where the others do
  pub lies : (visit.block ≡ insertion.list.head) ⊎ (insertion.list.floor ≤ visit.block)
  -- it ends before the free cells
  pub before : visit.block + BLOCK_CELLS ≤ pool.next
  -- the insertion may go on there
  pub at : IsTrue s.base.tells
      → IsAt s insertion.list.head insertion.list.floor pool.next insertion.entry.key visit.block

-- The home of a pointer that is to be planned: a full block to which the posting's key leads, and whose pointer for it is
-- blank.
pub record IsHome (s : ViewState) (pool : Pool) (insertion : Insertion) (home : Home) : Type 0 where
  -- the insertion has come to the block
  pub visit : IsVisit s pool insertion home.visit
  -- the keys of the pointer are those of one span behind the block's greatest key
  pub span : IsSpan home.greatest_key home.to
  -- the posting's key is none below them
  pub from : home.to.low ≤ insertion.entry.key
  -- and none behind them
  pub below : insertion.entry.key < home.to.high
  -- the greatest key is none below those for which the way leads to the block
  pub low : home.visit.within.low ≤ home.greatest_key
  -- it is less than the posting's
  pub less : home.greatest_key < insertion.entry.key
  -- the block has no blank entry
  pub full : IsTrue s.base.tells → HasFull s.image home.visit.block home.greatest_key
  -- its pointer for the key is blank
  pub blank : IsTrue s.base.tells → s.image (pointer_at home.visit.block home.to.level home.to.digit) ≡ None

-- A walk along a list has come to a block with this pointer.
pub record IsWrittenPointer (s : ViewState) (walk : ListWalk) (pointer : WrittenPointer) : Type 0 where
  -- the block lies within an overlay's cells
  pub inside : pointer.block + BLOCK_CELLS ≤ OVERLAY_CELLS
  -- the pointer is one of a block
  pub place : IsPointerPlace pointer.span.level pointer.span.digit
  -- what stands below ends before the cell at which the blocks end
  pub fresh : s.fresh ≤ walk.next
  -- an insertion may go on at the block
  pub at : IsTrue s.base.tells → IsAt s walk.list.head walk.list.floor walk.next walk.key pointer.block
  -- its pointer is a jump cell to the target
  pub jump : IsTrue s.base.tells
      → HasPointer s.image pointer.block pointer.span.level pointer.span.digit pointer.target

-- The search for a list's tail has come to a full block, behind whose pointers for keys below the bound it goes on.
pub record IsTailStep (s : ViewState) (search : TailSearch) (step : TailStep) : Type 0 where
  -- the block lies within an overlay's cells
  pub inside : step.full.block + BLOCK_CELLS ≤ OVERLAY_CELLS
  -- and so does the one at which the search began
  pub home : search.home + BLOCK_CELLS ≤ OVERLAY_CELLS
  -- the bound is at most the one behind the last key
  pub bound : step.bound ≤ 2 ^ 32
  -- it is no further from the block's greatest key than a span of the level reaches
  pub narrow : step.bound ≤ step.full.greatest_key + 16 ^ step.level
  -- what stands below ends before the cell at which the blocks end
  pub fresh : s.fresh ≤ search.walk.next
  -- an insertion may go on at the block
  pub at : IsTrue s.base.tells
      → IsAt s search.walk.list.head search.walk.list.floor search.walk.next search.walk.key step.full.block
  -- it has no blank entry
  pub full : IsTrue s.base.tells → HasFull s.image step.full.block step.full.greatest_key
  -- nobody else has planned a cell of the block at which the search began
  pub home_own : IsTrue s.base.tells → IsOwnBlock s search.walk.list.head search.home
  -- it is new, or one of the list as it stands below
  pub home_reached : IsTrue s.base.tells → IsBlockReached s search.walk.list.head search.walk.list.floor search.home

-- A posting and a pointer to it lie within the cells of an overlay, at an entry of a block and at a pointer of the home.
pub record LieInOverlay (insertion : Insertion) (home : Home) (spot : Spot) : Type 0 where
  -- it is a posting that a cell holds
  pub well_formed : insertion.entry.key % 256 ≤ insertion.entry.last
  -- the pointer is one of a block
  pub pointer : IsPointerPlace home.to.level home.to.digit
  -- the home lies within an overlay's cells
  pub inside : home.visit.block + BLOCK_CELLS ≤ OVERLAY_CELLS
  -- the place is one of an entry
  pub place : spot.place < ENTRY_PLACES
  -- its block lies within an overlay's cells
  pub block : spot.block + BLOCK_CELLS ≤ OVERLAY_CELLS
