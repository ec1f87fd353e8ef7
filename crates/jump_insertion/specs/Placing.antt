-- What an insertion in or behind one block does.
use Rattle.std.specs.Prelude.{◌≡◌, ◌<◌, ◌≤◌, ◌+◌, ℕ, Option, Some, None, Result, Ok, Err, IsTrue, ⊤}
use Rattle.cell_types.specs.Image.{Extends, IsUnchanged}
use Rattle.volume_meaning.specs.Blocks.{PostingFields, InFront, Trail}
use Rattle.jump_block.specs.Pointing.{HasKeyIn}
use Rattle.cell_pool.specs.declared.fault.GrowthFault.{GrowthFault}
use Rattle.cell_pool.specs.declared.fault.GrowthFault.TheVariants.{Fault, NoMemory}
use Rattle.worm_device.specs.Calls.{Called}
use Rattle.worm_device.specs.Counts.{IsStill}
use Rattle.worm_device.specs.Views.{ViewState, Viewed}
use Rattle.jump_insertion.specs.Growing.{Grows}
use Rattle.jump_insertion.specs.Hopping.{HopFaultEnds}
use Rattle.jump_insertion.specs.Inserting.{PlansEntry}
use Rattle.jump_insertion.specs.Readiness.{IsReadyList}
use Rattle.jump_insertion.specs.declared.entries.Spot.{Spot}

-- What was shown is shown still, the posting has a trail from the block, whose front has a key of this span, and
-- postings with greater keys may be inserted.
pub record IsPostingPlaced (head floor to block : ℕ) (p : PostingFields) (low bound at : ℕ)
    (old new : ViewState) : Type 0 where
  pub shown : Extends old.image new.image
  pub trail : Trail new.image floor to at p block
  pub has : HasKeyIn new.image block low bound
  pub ready : (key : ℕ) → p.key < key → IsReadyList new head floor to key

-- the posting is inserted; or the block is full and has no key of the span; or reads alone met a fault; or there is no
-- memory
abbrev pub PlacePostingEnds : ℕ → ℕ → ℕ → ℕ → PostingFields → ℕ → ℕ → ViewState → ViewState
    → Result (Option Spot) GrowthFault → Type 0
PlacePostingEnds head floor to block p low bound old new (Ok (Some spot)) =
    IsTrue old.base.tells → IsPostingPlaced head floor to block p low bound (spot.block + spot.place) old new
PlacePostingEnds head floor to block p low bound old new (Ok None) =
    Viewed old new
    × (IsTrue old.base.tells → (place : ℕ) (q : PostingFields) → place < 128 → InFront new.image block place q
    → q.key < low)
PlacePostingEnds head floor to block p low bound old new (Err (Fault fault)) =
    HopFaultEnds head floor p.key old new fault × (IsTrue old.base.tells → Viewed old new)
PlacePostingEnds head floor to block p low bound old new (Err (NoMemory lack)) = ⊤

-- inserting a posting in or behind a block, where the pool's next cell is that one then
pub record PlacesPosting (head floor to block : ℕ) (p : PostingFields) (low bound : ℕ) (old new : ViewState)
    (result : Result (Option Spot) GrowthFault) : Type 0 where
  pub called : Called old.base new.base
  pub cells : new.cells ≡ old.cells
  pub fresh : new.fresh ≡ old.fresh
  pub loans : new.loans ≡ old.loans
  pub lower : Extends old.lower new.lower
  pub quiet : IsStill old.base.foreign_writes new.base.foreign_writes → IsUnchanged old.base.image new.base.image
  pub ends : PlacePostingEnds head floor to block p low bound old new result

-- The posting is planned at this place, and at most a pointer besides; nothing is planned from the pool's next cell on.
pub record HasPlanned (head floor next to : ℕ) (p : PostingFields) (spot : Spot) (old new : ViewState) : Type 0 where
  pub in_places : spot.place < 128
  pub before : spot.block + 256 ≤ to
  pub planned : PlansEntry head floor next to p (spot.block + spot.place) old new
  pub free : (cell : ℕ) → to ≤ cell → new.planned cell ≡ None

-- which cells are planned where the posting is inserted
abbrev pub PlannedEnds : ℕ → ℕ → ℕ → ℕ → PostingFields → ViewState → ViewState → Result (Option Spot) GrowthFault
    → Type 0
PlannedEnds head floor next to p old new (Ok (Some spot)) = HasPlanned head floor next to p spot old new
PlannedEnds head floor next to p old new (Ok None) = ⊤
PlannedEnds head floor next to p old new (Err fault) = ⊤

-- what an insertion from a block adds where nobody else wrote
abbrev pub GrowEnds : ℕ → ℕ → ℕ → ℕ → PostingFields → ViewState → ViewState → Result (Option Spot) GrowthFault → Type 0
GrowEnds floor next to block p old new (Ok (Some spot)) =
    IsTrue old.base.tells → IsStill old.base.foreign_writes new.base.foreign_writes
    → (cost : ℕ) × Grows old.image new.image floor next to block p cost
GrowEnds floor next to block p old new (Ok None) = ⊤
GrowEnds floor next to block p old new (Err fault) = ⊤
