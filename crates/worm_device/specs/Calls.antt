-- What each call of a device does. Somebody else may write blank cells before any call; where the count of
-- foreign writes did not rise, nobody did.
use Rattle.std.specs.Prelude.{◌≡◌, ◌<◌, ◌≤◌, ◌⊎◌, ℕ, List, Option, Some, None, Result, IsTrue, MatchResult, ⊤}
use Rattle.cell_types.specs.Image.{Image, Extends, Between, IsUnchanged, ChangesOnly}
use Rattle.worm_device.specs.Counts.{next_count, Rose, IsStill}
use Rattle.worm_device.specs.State.{DeviceState, Instant, LeftSince}
use Rattle.worm_device.specs.declared.device.Failed.{Failed}
use Rattle.worm_device.specs.declared.device.Written.{Written}
use Rattle.worm_device.specs.declared.device.Written.TheVariants.{Done, Taken}

-- Time goes on from old to new: what a crash could have left up to old it could still have left, and what
-- else a crash could leave since has all that was sure at old and nothing that does not stand at new.
pub record Elapses (old new : DeviceState) : Type 0 where
  pub later : old.moment ≤ new.moment
  pub image : Extends old.image new.image
  pub sure : Extends old.sure new.sure
  pub keeps : (since : ℕ) (image : Image) → since ≤ old.moment → LeftSince old since image → LeftSince new since image
  pub adds : (since : ℕ) (image : Image) → since ≤ old.moment → LeftSince new since image
      → LeftSince old since image ⊎ Between old.sure new.image image

-- The same by a name that proofs don't look into, so that one call goes after another with no lemma.
unfoldable pub HasElapsed : DeviceState → DeviceState → Type 0
HasElapsed old new = Elapses old new

-- a state as an instant
abbrev pub instant_of : DeviceState → Instant
instant_of s = record { image = s.image; sure = s.sure }

-- What is told of the past stays told: what stood at each moment before old, and what stood at old once time has gone on.
-- While no time goes by, nothing changes. And whatever ends a moment from old on has a later step than old.
pub record Remembers (old new : DeviceState) : Type 0 where
  pub later : old.moment ≤ new.moment
  pub past : (m : ℕ) → m < old.moment → new.past m ≡ old.past m
  pub last : old.moment < new.moment → new.past old.moment ≡ instant_of old
  pub still : new.moment ≡ old.moment → instant_of new ≡ instant_of old
  pub steps : old.steps ≤ new.steps
  pub steps_past : (m : ℕ) → m < old.moment → new.steps_at m ≡ old.steps_at m
  pub steps_since : (m : ℕ) → old.moment ≤ m → m < new.moment → Rose old.steps (new.steps_at m)

-- the same as a name that search does not open
unfoldable pub HasRemembered : DeviceState → DeviceState → Type 0
HasRemembered old new = Remembers old new

-- What every call keeps, and so every row of calls: the device stays what it is, and what it keeps from a command's
-- beginning on; what is written and what is sure stays so, and no count falls. crashes says Elapses of old and new,
-- from each earlier state on.
pub record Called (old new : DeviceState) : Type 0 where
  pub cells : new.cells ≡ old.cells
  pub tells : new.tells ≡ old.tells
  pub begun : new.begun ≡ old.begun
  pub image : Extends old.image new.image
  pub sure : Extends old.sure new.sure
  pub faults : old.faults ≤ new.faults
  pub foreign_writes : old.foreign_writes ≤ new.foreign_writes
  pub reads : old.reads ≤ new.reads
  pub crashes : (earlier : DeviceState) → HasElapsed earlier old → HasElapsed earlier new
  pub remembers : (earlier : DeviceState) → HasRemembered earlier old → HasRemembered earlier new

-- A call fails only where that is counted as a fault, and counts none where it answers.
abbrev pub HasCause : {X : Type 0} → DeviceState → DeviceState → Result X Failed → Type 0
HasCause old new result = MatchResult result (λ _. new.faults ≡ old.faults) (λ _. Rose old.faults new.faults)

-- A crash in the middle of a call may leave each image that has what was sure at its entry, and nothing that does
-- not stand at its exit. The name is one that proofs don't look into; the law `a_crash_in_a_call` says what it means.
unfoldable pub LeavesAll : DeviceState → DeviceState → Type 0
LeavesAll old new = (image : Image) → Between old.sure new.image image → LeftSince new old.moment image

-- A read answers what stands in the cell at its exit, and counts as one read, also where it fails.
pub record Reads (at : ℕ) (old new : DeviceState) (result : Result (Option (List ℕ)) Failed) : Type 0 where
  pub called : Called old new
  pub leaves : LeavesAll old new
  pub only : IsStill old.foreign_writes new.foreign_writes → IsUnchanged old.image new.image
  pub answer : IsTrue old.tells → MatchResult result (λ found. found ≡ new.image at) (λ _. ⊤)
  pub cause : HasCause old new result
  pub count : new.reads ≡ next_count old.reads

-- Done where the cell was blank and holds the value now; Taken with what stands in a cell that was written.
abbrev pub WriteAnswers : ℕ → List ℕ → DeviceState → DeviceState → Written → Type 0
WriteAnswers at value old new Done = (old.image at ≡ None) × (new.image at ≡ Some value)
WriteAnswers at value old new (Taken found) =
    (new.image at ≡ Some found) × (IsStill old.foreign_writes new.foreign_writes → old.image at ≡ Some found)

-- A write changes a blank cell alone. One that failed may have been done or not.
pub record Writes (at : ℕ) (value : List ℕ) (old new : DeviceState) (result : Result Written Failed) : Type 0 where
  pub called : Called old new
  pub leaves : LeavesAll old new
  pub only : IsStill old.foreign_writes new.foreign_writes → ChangesOnly at value old.image new.image
  pub answer : IsTrue old.tells → MatchResult result (WriteAnswers at value old new) (λ _. ⊤)
  pub cause : HasCause old new result
  pub count : new.reads ≡ old.reads

-- A sync that answers has made sure all that stood at its entry. It is a step, also where it had nothing to do.
pub record Syncs (old new : DeviceState) (result : Result Unit Failed) : Type 0 where
  pub called : Called old new
  pub leaves : LeavesAll old new
  pub only : IsStill old.foreign_writes new.foreign_writes → IsUnchanged old.image new.image
  pub answer : IsTrue old.tells → MatchResult result (λ _. Extends old.image new.sure) (λ _. ⊤)
  pub step : IsTrue old.tells → MatchResult result (λ _. Rose old.steps new.steps) (λ _. ⊤)
  pub cause : HasCause old new result
  pub count : new.reads ≡ old.reads
