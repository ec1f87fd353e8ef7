-- What the reads of one node's cells answer.
use Rattle.std.specs.Prelude.{◌≡◌, ◌≢◌, ◌<◌, ◌≤◌, ◌+◌, ◌⊎◌, ℕ, Bool, true, false, Option, Some, None, Result, Ok, Err, IsTrue}
use Rattle.cell_types.specs.Image.{Image}
use Rattle.cell_types.specs.Layout.{Layout, pool_at}
use Rattle.cell_types.specs.Records.{IsRecordCell}
use Rattle.cell_types.specs.declared.geometry.TheConstants.{MAX_SLOTS}
use Rattle.cell_types.specs.declared.record_cell.RecordCell.TheVariants.{Bucket, Child}
use Rattle.cell_types.specs.declared.refusal.Fault.{Fault}
use Rattle.cell_types.specs.declared.refusal.Fault.TheVariants.{Tampered, Failed}
use Rattle.volume_meaning.specs.Volumes.{Holds}
use Rattle.volume_meaning.specs.HashPaths.{fingerprint_of, nibble}
use Rattle.volume_meaning.specs.declared.held_bucket.HeldBucket.{HeldBucket}
use Rattle.tamper_rules.specs.declared.numbers.TheConstants.{FAKE_BUCKET, LOST_CHILD}
use Rattle.worm_device.specs.Counts.{Rose}
use Rattle.worm_device.specs.Views.{ViewState, Viewed}
use Rattle.hash_tree.specs.Levels.{bucket_at, child_at}
use Rattle.hash_tree.specs.Steps.{HasNoneLeft, IsNoBucket, IsNoChild, IsOpenOf}
use Rattle.hash_tree.specs.declared.level.ChildCell.{ChildCell}
use Rattle.hash_tree.specs.declared.level.Level.{Level}
use Rattle.hash_tree.specs.declared.looks.Here.{Here}
use Rattle.hash_tree.specs.declared.looks.Here.TheVariants.{Fits, Ends, Last, Leads}

-- a blank cell, a bucket, or a written cell that is none
abbrev pub BucketEnds : ℕ → ViewState → ViewState → Result (Option HeldBucket) Fault → Type 0
BucketEnds at old new (Ok None) =
    (new.base.faults ≡ old.base.faults) × (IsTrue old.base.tells → new.image at ≡ None)
BucketEnds at old new (Ok (Some held)) =
    (new.base.faults ≡ old.base.faults)
    × (IsTrue old.base.tells → Holds new.image at (Bucket held.slot held.fingerprint)) × (held.slot < MAX_SLOTS)
BucketEnds at old new (Err Failed) = Rose old.base.faults new.base.faults
BucketEnds at old new (Err (Tampered e)) =
    (e.rule ≡ FAKE_BUCKET) × (e.cell ≡ at) × (new.base.faults ≡ old.base.faults)
    × (IsTrue old.base.tells → IsNoBucket new.image at e.found)

-- reading a bucket costs one read at most
pub record ReadsBucket (at : ℕ) (old new : ViewState) (result : Result (Option HeldBucket) Fault) : Type 0 where
  pub viewed : Viewed old new
  pub reads : new.base.reads ≤ old.base.reads + 1
  pub ends : BucketEnds at old new result

-- this cell leads to a node within the bounds
pub record IsGoodChild (pool edge at : ℕ) (child : ChildCell) : Type 0 where
  pub same : child.cell ≡ at
  pub is : IsRecordCell (Child child.target) at child.found
  pub from : pool ≤ child.target
  pub to : child.target + 32 ≤ edge

-- a blank cell, a child cell that leads to a node within the bounds, or a written cell that is none
abbrev pub ChildEnds : ℕ → ℕ → ℕ → ViewState → ViewState → Result (Option ChildCell) Fault → Type 0
ChildEnds at pool edge old new (Ok None) =
    (new.base.faults ≡ old.base.faults) × (IsTrue old.base.tells → new.image at ≡ None)
ChildEnds at pool edge old new (Ok (Some child)) =
    IsGoodChild pool edge at child × (new.base.faults ≡ old.base.faults)
    × (IsTrue old.base.tells → new.image at ≡ Some child.found)
ChildEnds at pool edge old new (Err Failed) = Rose old.base.faults new.base.faults
ChildEnds at pool edge old new (Err (Tampered e)) =
    (e.rule ≡ LOST_CHILD) × (e.cell ≡ at) × (new.base.faults ≡ old.base.faults)
    × (IsTrue old.base.tells → IsNoChild new.image pool edge at e.found)

-- reading a child cell costs one read at most
pub record ReadsChild (at pool edge : ℕ) (old new : ViewState) (result : Result (Option ChildCell) Fault)
    : Type 0 where
  pub viewed : Viewed old new
  pub reads : new.base.reads ≤ old.base.reads + 1
  pub ends : ChildEnds at pool edge old new result

-- whether a bucket is a candidate that was not answered yet
abbrev pub IsCandidateBucket : Level → HeldBucket → Bool → Type 0
IsCandidateBucket level held true = (level.answered ≡ false) × (held.fingerprint ≡ fingerprint_of level.digest)
IsCandidateBucket level held false = IsTrue level.answered ⊎ (held.fingerprint ≢ fingerprint_of level.digest)

-- what ends a path is blank, and no candidate is left above a blank child cell
abbrev pub IsBlankAt : Layout → Image → Level → Option ℕ → Type 0
IsBlankAt g image level None = image (bucket_at g level) ≡ None
IsBlankAt g image level (Some child) = HasNoneLeft g image level × (image (child_at g level) ≡ None)

-- what a look at the level's two cells finds, over every view
abbrev pub IsHere : Layout → ℕ → Level → Here → Type 0
IsHere g edge level (Fits slot bucket) =
    (bucket ≡ bucket_at g level) × (level.answered ≡ false) × (slot < MAX_SLOTS)
IsHere g edge level (Ends place) = IsOpenOf g level place
IsHere g edge level Last = level.number ≡ 63
IsHere g edge level (Leads child) = (level.number < 63) × IsGoodChild (pool_at g) edge (child_at g level) child

-- and what it says of the image
abbrev pub IsSeenHere : Layout → Image → Level → Here → Type 0
IsSeenHere g image level (Fits slot bucket) =
    Holds image (bucket_at g level) (Bucket slot (fingerprint_of level.digest))
IsSeenHere g image level (Ends place) = IsBlankAt g image level place.child
IsSeenHere g image level Last = HasNoneLeft g image level
IsSeenHere g image level (Leads child) = HasNoneLeft g image level × (image (child_at g level) ≡ Some child.found)

-- how a look may end, and why
abbrev pub NodeLookEnds : Layout → ℕ → Level → ViewState → ViewState → Result Here Fault → Type 0
NodeLookEnds g edge level old new (Ok here) =
    IsHere g edge level here × (new.base.faults ≡ old.base.faults)
    × (IsTrue old.base.tells → IsSeenHere g new.image level here)
NodeLookEnds g edge level old new (Err Failed) = Rose old.base.faults new.base.faults
NodeLookEnds g edge level old new (Err (Tampered e)) =
    (new.base.faults ≡ old.base.faults)
    × (((e.rule ≡ FAKE_BUCKET) × (e.cell ≡ bucket_at g level)
    × (IsTrue old.base.tells → IsNoBucket new.image (bucket_at g level) e.found))
    ⊎ ((e.rule ≡ LOST_CHILD) × (e.cell ≡ child_at g level) × (level.number < 63)
    × (IsTrue old.base.tells
    → HasNoneLeft g new.image level × IsNoChild new.image (pool_at g) edge (child_at g level) e.found)))

-- a look at a node costs two reads at most
pub record LooksAtNode (g : Layout) (edge : ℕ) (level : Level) (old new : ViewState) (result : Result Here Fault)
    : Type 0 where
  pub viewed : Viewed old new
  pub reads : new.base.reads ≤ old.base.reads + 2
  pub half_byte : nibble level.digest level.number < 16
  pub ends : NodeLookEnds g edge level old new result
