-- Which stamp a slot has, as a reader of its spare cell answers it.
use Rattle.std.specs.Prelude.{◌≡◌, ◌≤◌, ◌+◌, ℕ, Option, None, Some, Result, Ok, Err, IsTrue}
use Rattle.cell_types.specs.Image.{Image}
use Rattle.cell_types.specs.declared.record_cell.RecordCell.{RecordCell}
use Rattle.cell_types.specs.declared.record_cell.RecordCell.TheVariants.{Stamp}
use Rattle.volume_meaning.specs.Slots.{HasStamp}
use Rattle.worm_device.specs.Counts.{Rose}
use Rattle.worm_device.specs.Views.{ViewState, Viewed}
use Rattle.worm_device.specs.declared.device.Failed.{Failed}
use Rattle.worm_device.specs.declared.looks.Found.{Found}
use Rattle.worm_device.specs.declared.looks.Found.TheVariants.{Blank, Record, Stray}

-- the record is this stamp, or none
abbrev pub IsStampIn : RecordCell → Option ℕ → Type 0
IsStampIn held None = (seconds : ℕ) → held ≡ Stamp seconds → ⊥
IsStampIn held (Some seconds) = held ≡ Stamp seconds

-- what was found is this stamp, or none
abbrev pub IsStampFound : Found → Option ℕ → Type 0
IsStampFound Blank stamp = stamp ≡ None
IsStampFound (Stray cell) stamp = stamp ≡ None
IsStampFound (Record cell held) stamp = IsStampIn held stamp

-- slot n has this stamp, or none
abbrev pub IsStampOrNone : Image → ℕ → Option ℕ → Type 0
IsStampOrNone image n None = (seconds : ℕ) → HasStamp image n seconds → ⊥
IsStampOrNone image n (Some seconds) = HasStamp image n seconds

-- How reading slot n's stamp may end. The read was made at the later of the two states, and answers what stands there.
abbrev pub ReadStampEnds : ℕ → ViewState → ViewState → Result (Option ℕ) Failed → Type 0
ReadStampEnds n old new (Ok stamp) =
    (new.base.faults ≡ old.base.faults) × (IsTrue old.base.tells → IsStampOrNone new.image n stamp)
ReadStampEnds n old new (Err failed) = Rose old.base.faults new.base.faults

-- it costs one read at most
pub record ReadsStamp (n : ℕ) (old new : ViewState) (result : Result (Option ℕ) Failed) : Type 0 where
  pub viewed : Viewed old new
  pub reads : new.base.reads ≤ old.base.reads + 1
  pub ends : ReadStampEnds n old new result
