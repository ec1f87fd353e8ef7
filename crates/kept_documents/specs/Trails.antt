-- Whether a posting has a trail, as a call over a view answers it.
use Rattle.std.specs.Prelude.{◌≡◌, ℕ, Bool, true, false, Result, Ok, Err, IsTrue, ⊤}
use Rattle.cell_types.specs.declared.refusal.Fault.{Fault}
use Rattle.cell_types.specs.declared.refusal.Fault.TheVariants as faults
use Rattle.volume_meaning.specs.Blocks.{PostingFields, Trail}
use Rattle.worm_device.specs.Counts.{Rose}
use Rattle.worm_device.specs.Views.{ViewState, Viewed}
use Rattle.worm_device.specs.declared.device.Failed.{Failed}
use Rattle.jump_block.specs.Pointing.{HasKeyIn}

-- the posting has a trail from the block, in what the view shows, through blocks from this cell on
abbrev pub HasTrailFrom : ℕ → ViewState → ℕ → PostingFields → Type 0
HasTrailFrom pool s block p = (at : ℕ) × Trail s.image pool s.cells at p block

-- Yes: it has one at exit. No: it had none at entry. A read fails only where the device counted a fault.
abbrev pub TrailAnswer : ℕ → ℕ → PostingFields → ViewState → ViewState → Result Bool Failed → Type 0
TrailAnswer pool block p old new (Ok true) = IsTrue old.base.tells → HasTrailFrom pool new block p
TrailAnswer pool block p old new (Ok false) = IsTrue old.base.tells → HasTrailFrom pool old block p → ⊥
TrailAnswer pool block p old new (Err failed) = Rose old.base.faults new.base.faults

-- what asking for a trail does
pub record AsksTrail (pool block : ℕ) (p : PostingFields) (old new : ViewState) (result : Result Bool Failed)
    : Type 0 where
  pub viewed : Viewed old new
  pub ends : TrailAnswer pool block p old new result

-- The same of a block that a pointer led to: besides a trail from it, it has a key of the pointer's span.
abbrev pub BlockAnswer : ℕ → ℕ → PostingFields → ℕ → ℕ → ViewState → ViewState → Result Bool Failed → Type 0
BlockAnswer pool block p low bound old new (Ok true) =
    IsTrue old.base.tells → HasTrailFrom pool new block p × HasKeyIn new.image block low bound
BlockAnswer pool block p low bound old new (Ok false) =
    IsTrue old.base.tells → HasTrailFrom pool old block p → HasKeyIn old.image block low bound → ⊥
BlockAnswer pool block p low bound old new (Err failed) = Rose old.base.faults new.base.faults

pub record AsksBlock (pool block : ℕ) (p : PostingFields) (low bound : ℕ) (old new : ViewState)
    (result : Result Bool Failed) : Type 0 where
  pub viewed : Viewed old new
  pub ends : BlockAnswer pool block p low bound old new result

-- a fault of a look: a cell out of order says no, and a failed read nothing
abbrev pub IsRefuted : Fault → Result Bool Failed → Type 0
IsRefuted faults.Failed (Ok answer) = ⊥
IsRefuted faults.Failed (Err failed) = ⊤
IsRefuted (faults.Tampered e) (Ok answer) = answer ≡ false
IsRefuted (faults.Tampered e) (Err failed) = ⊥
