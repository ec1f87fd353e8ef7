-- What it means that a volume is settled: what a crash left half done is given up or carried out.
use Rattle.std.specs.Prelude.{◌≡◌, ◌≢◌, ◌<◌, ◌≤◌, ◌+◌, ◌-◌, ◌⊎◌, ℕ, List, Some, None, Result, Ok, Err, IsTrue, IsOk, IfOk, ⊤}
use Rattle.cell_types.specs.Image.{Image, Extends, IsUnchanged}
use Rattle.cell_types.specs.Layout.{Layout, IsLayout, reserve_at, pool_at}
use Rattle.cell_types.specs.declared.refusal.Evidence.{Evidence}
use Rattle.cell_types.specs.declared.refusal.Refusal.{Refusal}
use Rattle.cell_types.specs.declared.refusal.Refusal.TheVariants.{Tampered, DeviceFault, NotFormatted, NotAVolume, WrongSize}
use Rattle.volume_meaning.specs.Slots.{Reserves, IsReserved, IsCommitted, IsAbandoned, IsDone, HasEnded, EndsBelow, IsHorizon}
use Rattle.volume_meaning.specs.Volumes.{Holds, IsVolume, IsWritten, volume_record}
use Rattle.tamper_rules.specs.Journals.{journal_at}
use Rattle.tamper_rules.specs.Rules.{IsBroken}
use Rattle.tamper_rules.specs.Settling.{Settled}
use Rattle.tamper_rules.specs.declared.numbers.TheConstants.{BROKEN_JOURNAL, OTHER_TARGET}
use Rattle.worm_device.specs.Calls.{Called}
use Rattle.worm_device.specs.Counts.{Rose, IsStill}
use Rattle.worm_device.specs.State.{DeviceState}
use Rattle.recovery_engine.specs.Putting.{AreStanding, ChangesBy, IsInFirst, CrashesLeavePhases}
use Rattle.recovery_engine.specs.declared.put.Put.{Put}
use Rattle.commit_record.specs.Licences.{IsLicensed}
use Rattle.commit_record.specs.Opening.{IsNoVolumeCell}
use Rattle.commit_record.specs.States.{IsState}
use Rattle.commit_record.specs.declared.slot.SlotState.{SlotState}
use Rattle.recovery_engine.specs.Ending.{HasJournal, IsFirstEnd, IsLastEnd, end_phases, step_of}
use Rattle.recovery_engine.specs.Entries.{target_of}
use Rattle.recovery_engine.specs.LastSlot.{Follows, IsSlotRule}
use Rattle.cell_types.specs.declared.geometry.Volume.{Volume}
use Rattle.recovery_engine.specs.declared.settling.Ready.{Ready}
use Rattle.recovery_engine.specs.declared.settling.Step.{Step}
use Rattle.recovery_engine.specs.declared.settling.Step.TheVariants.{Nothing, Abandoned, Completed}

-- the rules that settling looks at
abbrev pub IsSettlingRule : ℕ → Type 0
IsSettlingRule number = IsSlotRule number ⊎ (number ≡ BROKEN_JOURNAL) ⊎ (number ≡ OTHER_TARGET)

-- The evidence names one of these rules, and may be named; and where nobody else wrote in the call, its rule was
-- broken there before the call, too: so it is nothing that the call itself has written.
pub record IsFoundBroken (IsLookedAt : ℕ → Type 0) (old new : DeviceState) (e : Evidence) : Type 0 where
  pub rule : IsLookedAt e.rule
  pub licensed : IsLicensed old new e
  pub before : IsStill old.foreign_writes new.foreign_writes → IsBroken old.cells old.image e.rule e.cell

-- each of the n cells of the journal from this place on stands at its target
abbrev pub AreApplied : Image → ℕ → ℕ → Type 0
AreApplied image place n =
    (k : ℕ) → k < n → (value : List ℕ) × (image (place + k) ≡ Some value) × (image (target_of value) ≡ Some value)

-- What a step has made of the slot below the horizon u: it had ended before; or it was reserved, and its abandon cell
-- is sure now; or it was committed, and it is done now and sure, and its journal is carried out.
abbrev pub StepMakes : Layout → DeviceState → DeviceState → ℕ → Step → Type 0
StepMakes g old new u Nothing = (m : ℕ) → u ≡ m + 1 → HasEnded g old.image new.image m
StepMakes g old new u (Abandoned n) =
    (u ≡ n + 1) × (start : ℕ) × (length : ℕ)
    × IsReserved g old.image new.image n start length × IsAbandoned g old.image new.sure n start length
StepMakes g old new u (Completed n) =
    (u ≡ n + 1) × (start : ℕ) × (length : ℕ) × (bytes : ℕ) × (journal : ℕ)
    × IsCommitted g old.image new.image n start length bytes journal × IsDone g new.sure n start length bytes journal
    × AreApplied new.sure (journal_at start length journal) journal

-- slot m reserves cells that begin where those of the slots below it end, and the slot before it has ended
pub record LastFollows (g : Layout) (before after : Image) (m : ℕ) : Type 0 where
  pub start : ℕ
  pub length : ℕ
  pub reserves : Reserves g after m start length
  pub follows : Follows g before after m start

-- A volume is ready for what comes: its horizon, which is its number of slots where the last slot was taken, and its
-- edge; that the slot below the horizon follows the one before it; what the step has made; and that all that stood is
-- sure.
pub record IsReady (old new : DeviceState) (r : Ready) : Type 0 where
  pub volume : IsVolume new.cells new.image r.volume.geometry
  pub horizon : IsHorizon r.volume.geometry old.image new.image r.horizon
  pub full : IsWritten old.image (reserve_at (r.volume.geometry.slots - 1)) → r.horizon ≡ r.volume.geometry.slots
  pub free : IsStill old.foreign_writes new.foreign_writes
      → r.horizon < r.volume.geometry.slots → new.image (reserve_at r.horizon) ≡ None
  pub edge : EndsBelow r.volume.geometry new.image r.horizon r.edge
  pub last : (m : ℕ) → r.horizon ≡ m + 1 → LastFollows r.volume.geometry old.image new.image m
  pub step : StepMakes r.volume.geometry old new r.horizon r.step
  pub synced : Extends old.image new.sure

-- a volume of which no slot is used
abbrev pub unused : Volume → Ready
unused volume = record { volume = volume; horizon = 0; edge = pool_at volume.geometry; step = Nothing }

-- the bounds that hold over each device, also over one that does not tell
pub record LiesInBounds (new : DeviceState) (r : Ready) : Type 0 where
  pub version : r.volume.version ≡ r.volume.geometry.version
  pub layout : IsLayout r.volume.geometry
  pub size : r.volume.geometry.cells ≡ new.cells
  pub horizon : r.horizon ≤ r.volume.geometry.slots
  pub from : pool_at r.volume.geometry ≤ r.edge
  pub to : r.edge ≤ r.volume.geometry.cells

-- How settling may end, and why. Memory is not taken, so it never lacks.
abbrev pub SettleEnds : DeviceState → DeviceState → Result Ready Refusal → Type 0
SettleEnds old new (Ok r) = LiesInBounds new r × (IsTrue old.tells → IsReady old new r)
SettleEnds old new (Err DeviceFault) = Rose old.faults new.faults
SettleEnds old new (Err NotFormatted) = IsTrue old.tells → old.image 0 ≡ None
SettleEnds old new (Err (NotAVolume found)) =
    IsTrue old.tells → (new.image 0 ≡ Some found) × IsNoVolumeCell found
SettleEnds old new (Err (WrongSize stated real)) =
    (real ≡ new.cells) × (stated ≢ real)
    × (IsTrue old.tells → (g : Layout) × Holds new.image 0 (volume_record g) × (g.cells ≡ stated))
SettleEnds old new (Err (Tampered e)) = IsTrue old.tells → IsFoundBroken IsSettlingRule old new e
SettleEnds old new (Err refusal) = ⊥

-- a journal cell stands here, and its target holds another value
pub record HasOtherTarget (image : Image) (cell : ℕ) : Type 0 where
  pub value : List ℕ
  pub stands : image cell ≡ Some value
  pub found : List ℕ
  pub there : image (target_of value) ≡ Some found
  pub differs : found ≢ value

-- What is named by the rule of targets is a journal cell whose target is not blank but holds another value; where nobody
-- else wrote it did so before the call.
abbrev pub NamesTarget : DeviceState → DeviceState → Result Ready Refusal → Type 0
NamesTarget old new (Err (Tampered e)) =
    e.rule ≡ OTHER_TARGET → IsStill old.foreign_writes new.foreign_writes → HasOtherTarget old.image e.cell
NamesTarget old new result = ⊤

-- Which cells settling puts, in the phases behind its first sync: those that end a slot in this state. Phase 0 is the
-- first sync, and puts none.
abbrev pub settle_plan : Image → ℕ → SlotState → ℕ → Put → Type 0
settle_plan image n state j put = ((j ≡ 1) × IsFirstEnd image n state put) ⊎ ((j ≡ 2) × IsLastEnd n state put)

-- Slot n, the one below a horizon of a volume, is in this state, as seen between two images; and where it is
-- committed, each cell of its journal asks for what it may ask for.
pub record IsEnding (cells : ℕ) (old between : Image) (n : ℕ) (state : SlotState) : Type 0 where
  pub layout : Layout
  pub volume : IsVolume cells between layout
  pub horizon : IsHorizon layout old between (n + 1)
  pub is : IsState layout old between n state
  pub journal : HasJournal layout state between

-- Settling ends one slot at most, by its state, in phases, and its step says which; it is the one below the horizon
-- that is answered. The slot's journal stands in an image that lies between the one at entry and the one at exit, and
-- is the one at entry where nobody else wrote.
pub record EndsByPhases (old new : DeviceState) (result : Result Ready Refusal) : Type 0 where
  pub between : Image
  pub grows : Extends old.image between
  pub stands : Extends between new.image
  pub slot : ℕ
  pub state : SlotState
  pub quiet : IsStill old.foreign_writes new.foreign_writes → IsUnchanged old.image between
  pub ending : 1 ≤ end_phases state → IsEnding old.cells old.image between slot state
  pub step : IfOk result (λ r. r.step ≡ step_of slot state)
  pub below : 1 ≤ end_phases state → IfOk result (λ r. r.horizon ≡ slot + 1)
  pub sure : IsOk result
      → AreStanding (IsInFirst (settle_plan between slot state) 3) new.sure × Extends old.image new.sure
  pub only : IsStill old.foreign_writes new.foreign_writes
      → ChangesBy (IsInFirst (settle_plan between slot state) 3) old.image new.image
  pub crashes : CrashesLeavePhases (settle_plan between slot state) 3 old new

-- where there was nothing to end, 64 reads are enough
abbrev pub LooksBriefly : DeviceState → DeviceState → Result Ready Refusal → Type 0
LooksBriefly old new (Ok r) = r.step ≡ Nothing → new.reads ≤ old.reads + 64
LooksBriefly old new (Err refusal) = ⊤

-- where the volume was settled at entry, and nobody else wrote, they are enough whatever is answered
abbrev pub LooksBrieflyAgain : DeviceState → DeviceState → Type 0
LooksBrieflyAgain old new =
    Settled old.cells old.image → IsStill old.foreign_writes new.foreign_writes → new.reads ≤ old.reads + 64

-- What it means that a volume is settled, or that settling it was ended. Where it is settled cell 0 was read, and no call
-- of the device has failed: none is tried a second time. Its sync is a step, also where nothing was left to make sure.
pub record Settles (old new : DeviceState) (result : Result Ready Refusal) : Type 0 where
  pub called : Called old new
  pub unfailed : IsOk result → new.faults ≡ old.faults
  pub read : IsOk result → Rose old.reads new.reads
  pub stepped : IsOk result → IsTrue old.tells → Rose old.steps new.steps
  pub writes : IsTrue old.tells → EndsByPhases old new result
  pub ends : SettleEnds old new result
  pub targets : IsTrue old.tells → NamesTarget old new result
  pub reads : LooksBriefly old new result
  pub again : IsTrue old.tells → LooksBrieflyAgain old new

-- The volume was settled, and has only been looked at since.
pub record HasSettled (old new : DeviceState) (r : Ready) : Type 0 where
  pub settled : DeviceState
  pub settles : Settles old settled (Ok r)
  pub looked : Called settled new
  pub quiet : IsStill settled.foreign_writes new.foreign_writes → IsUnchanged settled.image new.image

-- What a call does that settles first and then looks alone: settling was ended, and its refusal is the answer; or the
-- volume was settled and then looked at, whatever is answered.
pub data SettlesFirst (X : Type 0) (old new : DeviceState) (result : Result X Refusal) : Type 0 where
  settling : (refusal : Refusal) → result ≡ Err refusal → Settles old new (Err refusal) → SettlesFirst X old new result
  settled : (r : Ready) → HasSettled old new r → SettlesFirst X old new result
