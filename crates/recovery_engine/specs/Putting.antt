-- What it means that cells are put onto a device, in phases.
use Rattle.std.specs.Prelude.{◌≡◌, ◌≢◌, ◌<◌, ◌≤◌, ◌+◌, ◌⊎◌, ℕ, List, slice_get, Some, None, Result, Ok, Err, IsOk, IsTrue, ⊤}
use Rattle.cell_types.specs.Image.{Image, Extends}
use Rattle.cell_types.specs.declared.refusal.Evidence.{Evidence}
use Rattle.cell_types.specs.declared.refusal.Fault.{Fault}
use Rattle.cell_types.specs.declared.refusal.Fault.TheVariants.{Tampered, Failed}
use Rattle.tamper_rules.specs.declared.numbers.TheConstants.{OTHER_TARGET}
use Rattle.worm_device.specs.Calls.{Called}
use Rattle.worm_device.specs.Counts.{Rose, IsStill}
use Rattle.worm_device.specs.State.{DeviceState, LeftSince}
use Rattle.recovery_engine.specs.declared.put.Blame.{Blame}
use Rattle.recovery_engine.specs.declared.put.Blame.TheVariants.{Rule, Journal}
use Rattle.recovery_engine.specs.declared.put.Put.{Put}

abbrev pub blamed : Blame → ℕ → List ℕ → List ℕ → Evidence
blamed (Rule rule) at value found = record { rule = rule; cell = at; found = found }
blamed (Journal cell) at value found = record { rule = OTHER_TARGET; cell = cell; found = value }

-- what is named where this was found in a cell that is to be put
abbrev pub evidence_of : Put → List ℕ → Evidence
evidence_of put found = blamed put.blame put.at put.value found

-- it is this put
abbrev pub IsThis : Put → Put → Type 0
IsThis put other = other ≡ put

-- it is one of these cells, which go to the device from `from` on
pub record IsInRow (from : ℕ) (cells : List (List ℕ)) (rule : ℕ) (put : Put) : Type 0 where
  pub place : ℕ
  pub at : put.at ≡ from + place
  pub value : slice_get cells place ≡ Some put.value
  pub blame : put.blame ≡ Rule rule

-- the cells that are to be put hold in this image what they are to hold
abbrev pub AreStanding : (Put → Type 0) → Image → Type 0
AreStanding P image = (put : Put) → P put → image put.at ≡ Some put.value

-- the cell was blank, and was to be put with this value
pub record IsPut (P : Put → Type 0) (old : Image) (at : ℕ) (value : List ℕ) : Type 0 where
  pub blank : old at ≡ None
  pub put : Put
  pub planned : P put
  pub here : put.at ≡ at
  pub is : put.value ≡ value

-- the image changes at most by cells that are to be put
abbrev pub ChangesBy : (Put → Type 0) → Image → Image → Type 0
ChangesBy P old new = (at : ℕ) (value : List ℕ) → new at ≡ Some value → (old at ≡ Some value) ⊎ IsPut P old at value

-- this value was found where another is to be put, and is to be put there, too
pub record IsPutTwice (P : Put → Type 0) (put : Put) (found : List ℕ) : Type 0 where
  pub other : Put
  pub planned : P other
  pub here : other.at ≡ put.at
  pub is : other.value ≡ found

-- A cell that is to be put holds something else. Where nobody else wrote it did so before, or was put twice.
pub record IsTaken (P : Put → Type 0) (old new : DeviceState) (e : Evidence) : Type 0 where
  pub put : Put
  pub planned : P put
  pub found : List ℕ
  pub differs : found ≢ put.value
  pub is : e ≡ evidence_of put found
  pub stands : new.image put.at ≡ Some found
  pub stood : IsStill old.foreign_writes new.foreign_writes
      → (old.image put.at ≡ Some found) ⊎ IsPutTwice P put found

-- how putting cells may end, and why
abbrev pub PutsEnd : (Put → Type 0) → DeviceState → DeviceState → Result Unit Fault → Type 0
PutsEnd P old new (Ok u) = IsTrue old.tells → AreStanding P new.image
PutsEnd P old new (Err Failed) = Rose old.faults new.faults
PutsEnd P old new (Err (Tampered e)) = IsTrue old.tells → IsTaken P old new e

-- What it means that cells were put, or that this was ended. Where they were put no call of the device has failed: none
-- is tried a second time.
pub record Puts (P : Put → Type 0) (old new : DeviceState) (result : Result Unit Fault) : Type 0 where
  pub called : Called old new
  pub unfailed : IsOk result → new.faults ≡ old.faults
  pub only : IsTrue old.tells → IsStill old.foreign_writes new.foreign_writes → ChangesBy P old.image new.image
  pub ends : PutsEnd P old new result

-- all that stood, and all that was to be put, is sure
pub record AreSure (P : Put → Type 0) (old new : DeviceState) : Type 0 where
  pub put : AreStanding P new.sure
  pub synced : Extends old.image new.sure

-- a phase that ends well is sure
abbrev pub PhaseEnds : (Put → Type 0) → DeviceState → DeviceState → Result Unit Fault → Type 0
PhaseEnds P old new (Ok u) = IsTrue old.tells → AreSure P old new
PhaseEnds P old new (Err fault) = ⊤

-- what it means that a phase was gone through, or that it was ended
pub record PutsPhase (P : Put → Type 0) (old new : DeviceState) (result : Result Unit Fault) : Type 0 where
  pub puts : Puts P old new result
  pub sure : PhaseEnds P old new result

-- a cell of one of the first k phases
abbrev pub IsInFirst : (ℕ → Put → Type 0) → ℕ → Put → Type 0
IsInFirst plan k put = (j : ℕ) × (j < k) × plan j put

-- What a crash leaves of a row of phases that began at old: what was sure there, and all cells of the phases before
-- some phase; from the first sync on, all that stood at old; and, where nobody else wrote, nothing besides but what
-- stood at old, and cells of that phase.
pub record LeavesPhases (plan : ℕ → Put → Type 0) (k : ℕ) (old new : DeviceState) (image : Image) : Type 0 where
  pub phase : ℕ
  pub begun : phase ≤ k
  pub all : AreStanding (IsInFirst plan phase) image
  pub sure : Extends old.sure image
  pub synced : 1 ≤ phase → Extends old.image image
  pub only : IsStill old.foreign_writes new.foreign_writes → ChangesBy (IsInFirst plan (phase + 1)) old.image image

-- Whatever a crash could leave from old on, and could not before: phases of this row.
abbrev pub CrashesLeavePhases : (ℕ → Put → Type 0) → ℕ → DeviceState → DeviceState → Type 0
CrashesLeavePhases plan k old new =
    IsTrue old.tells
    → (since : ℕ) (image : Image) → since ≤ old.moment → LeftSince new since image
    → LeftSince old since image ⊎ LeavesPhases plan k old new image

-- a cell of some phase holds something else, and those of the phases before it are sure
pub record IsTakenIn (plan : ℕ → Put → Type 0) (k : ℕ) (old new : DeviceState) (e : Evidence) : Type 0 where
  pub taken : IsTaken (IsInFirst plan k) old new e
  pub phase : ℕ
  pub begun : phase < k
  pub planned : plan phase taken.put
  pub before : AreStanding (IsInFirst plan phase) new.sure

-- how a row of phases may end
abbrev pub PhasesEnd : (ℕ → Put → Type 0) → ℕ → DeviceState → DeviceState → Result Unit Fault → Type 0
PhasesEnd plan k old new (Ok u) =
    IsTrue old.tells → AreStanding (IsInFirst plan k) new.sure × (1 ≤ k → Extends old.image new.sure)
PhasesEnd plan k old new (Err Failed) = ⊤
PhasesEnd plan k old new (Err (Tampered e)) = IsTrue old.tells → IsTakenIn plan k old new e

-- what it means that k phases were gone through, or that this was ended
pub record PutsPhases (plan : ℕ → Put → Type 0) (k : ℕ) (old new : DeviceState) (result : Result Unit Fault)
    : Type 0 where
  pub puts : Puts (IsInFirst plan k) old new result
  pub sure : PhasesEnd plan k old new result
  pub crashes : CrashesLeavePhases plan k old new
