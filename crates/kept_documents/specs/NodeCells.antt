-- Which bucket or child cell stands in a cell, as a call over a view answers it.
use Rattle.std.specs.Prelude.{◌≡◌, ℕ, List, Option, Some, None, Result, Ok, Err, IsTrue}
use Rattle.cell_types.specs.declared.record_cell.RecordCell.{RecordCell}
use Rattle.cell_types.specs.declared.record_cell.RecordCell.TheVariants as records
use Rattle.volume_meaning.specs.Volumes.{Holds}
use Rattle.volume_meaning.specs.declared.held_bucket.HeldBucket.{HeldBucket}
use Rattle.worm_device.specs.Counts.{Rose}
use Rattle.worm_device.specs.Views.{ViewState, Viewed}
use Rattle.worm_device.specs.declared.device.Failed.{Failed}

-- the record is a child cell with this target, or none
abbrev pub IsChildOf : RecordCell → Option ℕ → Type 0
IsChildOf r None = (target : ℕ) → r ≡ records.Child target → ⊥
IsChildOf r (Some target) = r ≡ records.Child target

-- the bucket that stands at exit, or that none stood at entry
abbrev pub BucketCellEnds : ℕ → ViewState → ViewState → Result (Option HeldBucket) Failed → Type 0
BucketCellEnds at old new (Ok (Some b)) =
    IsTrue old.base.tells → Holds new.image at (records.Bucket b.slot b.fingerprint)
BucketCellEnds at old new (Ok None) =
    IsTrue old.base.tells → (slot : ℕ) (fingerprint : List ℕ) → Holds old.image at (records.Bucket slot fingerprint) → ⊥
BucketCellEnds at old new (Err failed) = Rose old.base.faults new.base.faults

pub record AsksBucketCell (at : ℕ) (old new : ViewState) (result : Result (Option HeldBucket) Failed) : Type 0 where
  pub viewed : Viewed old new
  pub ends : BucketCellEnds at old new result

-- the same of a child cell
abbrev pub ChildCellEnds : ℕ → ViewState → ViewState → Result (Option ℕ) Failed → Type 0
ChildCellEnds at old new (Ok (Some target)) = IsTrue old.base.tells → Holds new.image at (records.Child target)
ChildCellEnds at old new (Ok None) =
    IsTrue old.base.tells → (target : ℕ) → Holds old.image at (records.Child target) → ⊥
ChildCellEnds at old new (Err failed) = Rose old.base.faults new.base.faults

pub record AsksChildCell (at : ℕ) (old new : ViewState) (result : Result (Option ℕ) Failed) : Type 0 where
  pub viewed : Viewed old new
  pub ends : ChildCellEnds at old new result
