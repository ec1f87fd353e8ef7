-- What a step along a path answers.
use Rattle.std.specs.Prelude.{◌≡◌, ◌≢◌, ◌<◌, ◌≤◌, ◌+◌, ◌*◌, ◌⊎◌, ℕ, List, true, false, Option, Some, None, Result, Ok, Err, IsTrue, ⊤}
use Rattle.cell_types.specs.Image.{Image}
use Rattle.cell_types.specs.Layout.{Layout, pool_at}
use Rattle.cell_types.specs.Records.{IsRecordCell}
use Rattle.cell_types.specs.declared.geometry.TheConstants.{MAX_SLOTS}
use Rattle.cell_types.specs.declared.record_cell.RecordCell.TheVariants.{Bucket, Child}
use Rattle.cell_types.specs.declared.refusal.Evidence.{Evidence}
use Rattle.cell_types.specs.declared.refusal.Fault.{Fault}
use Rattle.cell_types.specs.declared.refusal.Fault.TheVariants.{Tampered, Failed}
use Rattle.volume_meaning.specs.Volumes.{Holds}
use Rattle.volume_meaning.specs.HashPaths.{Sought, IsPassed, PassedTo, fingerprint_of}
use Rattle.tamper_rules.specs.Rules.{IsPlaceOf}
use Rattle.tamper_rules.specs.declared.numbers.TheConstants.{FAKE_BUCKET, LOST_CHILD}
use Rattle.worm_device.specs.Counts.{Rose}
use Rattle.worm_device.specs.Views.{ViewState, Viewed}
use Rattle.hash_tree.specs.Levels.{IsLedWithin, IsLevelPlaced, IsLevelReached, bucket_at, child_at, level_below, node_of}
use Rattle.hash_tree.specs.Licences.{AsksPathsBelow, IsLicensedBoth}
use Rattle.hash_tree.specs.declared.level.ChildCell.{ChildCell}
use Rattle.hash_tree.specs.declared.level.Level.{Level}
use Rattle.hash_tree.specs.declared.path.Open.{Open}
use Rattle.hash_tree.specs.declared.path.PathStep.{PathStep}
use Rattle.hash_tree.specs.declared.path.PathStep.TheVariants.{Candidate, End, PathFull}

-- what stands there is no bucket
pub record IsNoBucket (image : Image) (at : ℕ) (found : List ℕ) : Type 0 where
  pub stands : image at ≡ Some found
  pub none : (slot : ℕ) (fingerprint : List ℕ) → IsRecordCell (Bucket slot fingerprint) at found → ⊥

-- what stands there is no child cell that leads to a node from the pool's start up to the edge
pub record IsNoChild (image : Image) (pool edge at : ℕ) (found : List ℕ) : Type 0 where
  pub stands : image at ≡ Some found
  pub none : (target : ℕ) → IsRecordCell (Child target) at found → (target < pool) ⊎ (edge < target + 32)

-- the level's bucket is one, and no candidate is left in it: it was answered, or has another fingerprint
pub record HasNoneLeft (g : Layout) (image : Image) (level : Level) : Type 0 where
  pub slot : ℕ
  pub fingerprint : List ℕ
  pub bucket : Holds image (bucket_at g level) (Bucket slot fingerprint)
  pub other : IsTrue level.answered ⊎ (fingerprint ≢ fingerprint_of level.digest)

-- the level's child cell is this one, and leads to a node within the bounds
pub record LeadsBy (g : Layout) (edge : ℕ) (image : Image) (level : Level) (child : ChildCell) : Type 0 where
  pub levels : level.number < 63
  pub at : child.cell ≡ child_at g level
  pub stands : image child.cell ≡ Some child.found
  pub is : IsRecordCell (Child child.target) child.cell child.found
  pub from : pool_at g ≤ child.target
  pub to : child.target + 32 ≤ edge

-- from a level the path comes down to the last one, past buckets in which no candidate is left
pub data ComesTo (g : Layout) (edge : ℕ) (image : Image) (last : Level) : Level → Type 0 where
  here : (level : Level) → level ≡ last → ComesTo g edge image last level
  further : (level : Level) (child : ChildCell) → HasNoneLeft g image level → LeadsBy g edge image level child
      → ComesTo g edge image last (level_below level child) → ComesTo g edge image last level

-- the level, with its bucket answered
abbrev pub answered_level : Level → Level
answered_level level = record {
  digest = level.digest;
  number = level.number;
  answered = true;
  led_by = level.led_by;
}

-- What the two cells of one level say, where they end a step, and at which level it leaves off.
pub data EndsAt (g : Layout) (edge : ℕ) (image : Image) (level last : Level) (answer : Result PathStep Evidence)
    : Type 0 where
  -- the bucket has the digest's fingerprint and was not answered yet
  candidate : (slot : ℕ) → level.answered ≡ false
      → Holds image (bucket_at g level) (Bucket slot (fingerprint_of level.digest)) → last ≡ answered_level level
      → answer ≡ Ok (Candidate slot (bucket_at g level)) → EndsAt g edge image level last answer
  -- the bucket is blank
  blank_bucket : image (bucket_at g level) ≡ None → last ≡ level
      → answer ≡ Ok (End (record { bucket = bucket_at g level; child = None }))
      → EndsAt g edge image level last answer
  -- no candidate is left in the bucket, and the child cell under it is blank
  blank_child : HasNoneLeft g image level → level.number < 63 → image (child_at g level) ≡ None → last ≡ level
      → answer ≡ Ok (End (record { bucket = bucket_at g level; child = Some (child_at g level) }))
      → EndsAt g edge image level last answer
  -- no candidate is left in the bucket, and there is no level below
  full : HasNoneLeft g image level → level.number ≡ 63 → last ≡ level → answer ≡ Ok PathFull
      → EndsAt g edge image level last answer
  -- what stands for a bucket is none
  no_bucket : (found : List ℕ) → IsNoBucket image (bucket_at g level) found → last ≡ level
      → answer ≡ Err (record { rule = FAKE_BUCKET; cell = bucket_at g level; found = found })
      → EndsAt g edge image level last answer
  -- no candidate is left in the bucket, and what stands for a child cell leads to no node within the bounds
  no_child : (found : List ℕ) → HasNoneLeft g image level → level.number < 63
      → IsNoChild image (pool_at g) edge (child_at g level) found → last ≡ level
      → answer ≡ Err (record { rule = LOST_CHILD; cell = child_at g level; found = found })
      → EndsAt g edge image level last answer

-- A step from the first level, in one image: the path comes down past buckets in which no candidate is left, and ends
-- where the cells of a level say so. The law `a_step_has_one_answer` says that there is one answer.
pub record IsStep (g : Layout) (edge : ℕ) (image : Image) (first last : Level) (answer : Result PathStep Evidence)
    : Type 0 where
  pub level : Level
  pub comes : ComesTo g edge image level first
  pub ends : EndsAt g edge image level last answer

-- The path of what is sought is passed up to this level, and where the level's own bucket was answered, that is passed
-- as well.
pub record IsPassedUpTo (g : Layout) (edge : ℕ) (image : Image) (root : ℕ) (s : Sought) (level : Level) : Type 0 where
  pub digest : s.digest ≡ level.digest
  pub pool : s.pool ≡ pool_at g
  pub cells : edge ≤ s.cells
  pub passed : PassedTo image s root (node_of g level) level.number
  pub answered : IsTrue level.answered → IsPassed image s (bucket_at g level)

-- Whatever is sought: where the path was passed up to the first level, it is passed up to the last.
abbrev pub PathGoesOn : Layout → ℕ → Image → Level → Level → Type 0
PathGoesOn g edge image first last =
    (root : ℕ) (s : Sought) → IsPassedUpTo g edge image root s first
    → PassedTo image s root (node_of g last) last.number

-- Whatever is sought: where the path was passed up to the first level, the bucket of the last is passed.
abbrev pub PassesBucket : Layout → ℕ → Image → Level → Level → Type 0
PassesBucket g edge image first last =
    (root : ℕ) (s : Sought) → IsPassedUpTo g edge image root s first → IsPassed image s (bucket_at g last)

-- these are the level's bucket, and its child cell, where there is a level below
abbrev pub IsOpenAt : Layout → Level → ℕ → Option ℕ → Type 0
IsOpenAt g level bucket None = bucket ≡ bucket_at g level
IsOpenAt g level bucket (Some child) = (bucket ≡ bucket_at g level) × (child ≡ child_at g level) × (level.number < 63)

-- the place is one of the level's node
abbrev pub IsOpenOf : Layout → Level → Open → Type 0
IsOpenOf g level place = IsOpenAt g level place.bucket place.child

-- where the place is a child cell, its bucket is passed
abbrev pub PassesAbove : Layout → ℕ → Image → Level → Level → Option ℕ → Type 0
PassesAbove g edge image first last None = ⊤
PassesAbove g edge image first last (Some child) = PassesBucket g edge image first last

-- What a step says over every view: a candidate's bucket and an open place are of the last level's node, after a
-- candidate the next one is further down, and a candidate's slot is one that a volume may have.
abbrev pub IsOfLevel : Layout → Level → Level → PathStep → Type 0
IsOfLevel g first last (Candidate slot bucket) =
    (bucket ≡ bucket_at g last) × (last.answered ≡ true) × (IsTrue first.answered → first.number < last.number)
    × (slot < MAX_SLOTS)
IsOfLevel g first last (End place) = IsOpenOf g last place
IsOfLevel g first last PathFull = last.number ≡ 63

-- where no candidate is left the last level's bucket is passed too, but where it is blank
abbrev pub PassesLast : Layout → ℕ → Image → Level → Level → PathStep → Type 0
PassesLast g edge image first last (Candidate slot bucket) = ⊤
PassesLast g edge image first last (End place) = PassesAbove g edge image first last place.child
PassesLast g edge image first last PathFull = PassesBucket g edge image first last

-- the rules that a step names
abbrev pub IsHashRule : ℕ → Type 0
IsHashRule number = (number ≡ FAKE_BUCKET) ⊎ (number ≡ LOST_CHILD)

-- How a step may end, and why. What it says of the image holds at its exit.
abbrev pub StepEnds : Layout → ℕ → ViewState → ViewState → Level → Level → Result PathStep Fault → Type 0
StepEnds g edge old new first last (Ok step) =
    IsOfLevel g first last step × (new.base.faults ≡ old.base.faults)
    × (IsTrue old.base.tells → IsStep g edge new.image first last (Ok step)
    × PassesLast g edge new.image first last step)
StepEnds g edge old new first last (Err Failed) = Rose old.base.faults new.base.faults
StepEnds g edge old new first last (Err (Tampered e)) =
    IsHashRule e.rule × IsPlaceOf g e.rule e.cell × (new.base.faults ≡ old.base.faults)
    × (IsTrue old.base.tells → IsStep g edge new.image first last (Err e) × IsLicensedBoth g edge first old new e)

-- What a step does, also where it fails: it costs two reads a level at most, and leaves the level further down on the
-- same path. Where its node was reached from the root, in what is shown or in what stands below, it is still; and the
-- child cell that led there is one of a node, if that which led to the first level was.
pub record Steps (g : Layout) (edge : ℕ) (old new : ViewState) (first last : Level) (result : Result PathStep Fault)
    : Type 0 where
  pub viewed : Viewed old new
  pub digest : last.digest ≡ first.digest
  pub further : first.number ≤ last.number
  pub reads : new.base.reads + 2 * first.number ≤ old.base.reads + 2 * last.number + 2
  pub placed : IsLevelPlaced g edge new last
  pub goes_on : IsTrue old.base.tells → PathGoesOn g edge new.image first last
  pub reached : IsTrue old.base.tells → IsLevelReached g new.image first → IsLevelReached g new.image last
  pub led_within : IsTrue old.base.tells → IsLevelReached g new.image first → IsLedWithin g new.image first.led_by
      → IsLedWithin g new.image last.led_by
  pub reached_below : IsTrue old.base.tells → AsksPathsBelow edge old → IsLevelReached g new.lower first
      → IsLevelReached g new.lower last
  pub ends : StepEnds g edge old new first last result
