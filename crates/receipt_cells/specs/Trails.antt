-- What listing the cells of a posting's trail does.
use Rattle.std.specs.Prelude.{◌≡◌, ◌+◌, ◌⊎◌, ℕ, List, Result, Ok, Err, IsTrue, ⊤}
use Rattle.cell_types.specs.Image.{Image}
use Rattle.cell_types.specs.declared.refusal.Fault.{Fault}
use Rattle.cell_types.specs.declared.refusal.Fault.TheVariants as faults
use Rattle.volume_meaning.specs.Blocks.{PostingFields, pointer_at}
use Rattle.worm_device.specs.Counts.{Rose}
use Rattle.worm_device.specs.Views.{ViewState, Viewed}
use Rattle.jump_block.specs.Pointing.{HasKeyIn}
use Rattle.kept_documents.specs.Trails.{HasTrailFrom}
use Rattle.kept_documents.specs.declared.fault.AskFault.{AskFault}
use Rattle.kept_documents.specs.declared.fault.AskFault.TheVariants.{NoMemory, ReadFault}
use Rattle.receipt_cells.specs.Needed.{ListsJust, TrailRests}
use Rattle.receipt_cells.specs.Written.{IsInRow}

-- the cells of a trail from this block
abbrev pub TrailCells : ℕ → ℕ → Image → ℕ → PostingFields → ℕ → Type 0
TrailCells pool cells image block p c = TrailRests image pool cells p c block

-- the front's cells of a block that leads on, and the jump cell that is taken
abbrev pub HopCells : ℕ → ℕ → ℕ → ℕ → Type 0
HopCells block level digit c = IsInRow block (block + 128) c ⊎ (c ≡ pointer_at block level digit)

-- Where the posting had a trail from the block at entry, and the block a key from low up to the bound, the cells of
-- this trail are listed, and no others.
abbrev pub BlockEnds : ℕ → ℕ → PostingFields → ℕ → ℕ → ViewState → ViewState → List (ℕ × List ℕ) → List (ℕ × List ℕ)
    → Result Unit AskFault → Type 0
BlockEnds pool block p low bound old new listed later (Ok u) =
    IsTrue old.base.tells → HasTrailFrom pool old block p → HasKeyIn old.image block low bound
    → ListsJust (TrailCells pool old.cells new.image block p) new.image listed later
BlockEnds pool block p low bound old new listed later (Err ReadFault) = Rose old.base.faults new.base.faults
BlockEnds pool block p low bound old new listed later (Err (NoMemory lack)) = ⊤

pub record ListsBlock (pool block : ℕ) (p : PostingFields) (low bound : ℕ) (old new : ViewState)
    (listed later : List (ℕ × List ℕ)) (result : Result Unit AskFault) : Type 0 where
  pub viewed : Viewed old new
  pub ends : BlockEnds pool block p low bound old new listed later result

-- the same of a list's first block
abbrev pub TrailEnds : ℕ → ℕ → PostingFields → ViewState → ViewState → List (ℕ × List ℕ) → List (ℕ × List ℕ)
    → Result Unit AskFault → Type 0
TrailEnds pool head p old new listed later (Ok u) =
    IsTrue old.base.tells → HasTrailFrom pool old head p
    → ListsJust (TrailCells pool old.cells new.image head p) new.image listed later
TrailEnds pool head p old new listed later (Err ReadFault) = Rose old.base.faults new.base.faults
TrailEnds pool head p old new listed later (Err (NoMemory lack)) = ⊤

-- what listing the cells of a posting's trail does
pub record ListsTrail (pool head : ℕ) (p : PostingFields) (old new : ViewState) (listed later : List (ℕ × List ℕ))
    (result : Result Unit AskFault) : Type 0 where
  pub viewed : Viewed old new
  pub ends : TrailEnds pool head p old new listed later result

-- a fault of a look: at a cell out of order the way ends, and a failed read says nothing
abbrev pub IsGivenUp : Fault → Result Unit AskFault → Type 0
IsGivenUp faults.Failed (Err ReadFault) = ⊤
IsGivenUp faults.Failed result = ⊥
IsGivenUp (faults.Tampered e) (Ok u) = ⊤
IsGivenUp (faults.Tampered e) (Err why) = ⊥
