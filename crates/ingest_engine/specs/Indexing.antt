-- How the index of a document is planned on a volume that was settled: where the path of its identifier ends, and then
-- which cells are planned.
use Rattle.std.specs.Prelude.{◌≡◌, ◌≤◌, ◌⊎◌, ℕ, List, Option, Some, Result, Ok, Err, IsTrue, ⊤}
use Rattle.cell_types.specs.Image.{IsUnchanged}
use Rattle.cell_types.specs.declared.refusal.Evidence.{Evidence}
use Rattle.cell_types.specs.declared.refusal.Fault.{Fault}
use Rattle.cell_types.specs.declared.refusal.Refusal.{Refusal}
use Rattle.cell_types.specs.declared.refusal.Refusal.TheVariants.{DeviceFault, Duplicate, NoMemory, PathFull, StampTooEarly, Tampered, TooManyTerms}
use Rattle.volume_meaning.specs.Slots.{IsEdge, IsHorizon}
use Rattle.volume_meaning.specs.Volumes.{IsVolume}
use Rattle.volume_meaning.specs.Postings.{HasPostings}
use Rattle.tamper_rules.specs.Rules.{IsBroken, IsPlaceOf}
use Rattle.term_tags.specs.Listing.{GetsTooMany}
use Rattle.worm_device.specs.Calls.{Called}
use Rattle.worm_device.specs.Counts.{IsStill, Rose}
use Rattle.worm_device.specs.State.{DeviceState}
use Rattle.worm_device.specs.Views.{seen_directly}
use Rattle.hash_tree.specs.declared.level.Level.{Level}
use Rattle.hash_tree.specs.declared.path.Open.{Open}
use Rattle.recovery_engine.specs.declared.settling.Ready.{Ready}
use Rattle.identifier_lookup.specs.Walks.{IsWalkRule, LiesOnPath, LookUpSlotEnds, WalkEnds, WalkNames}
use Rattle.identifier_lookup.specs.declared.answers.Walk.{Walk}
use Rattle.identifier_lookup.specs.declared.answers.Walk.TheVariants as walks
use Rattle.ingest_plan.specs.Planning.{IsGrowthRule, IsLater, IsPlanned}
use Rattle.ingest_plan.specs.declared.plan.PlannedIndex.{PlannedIndex}
use Rattle.ingest_engine.specs.Stamps.{AreUpTo, IsInLogBelow, IsStampBelow, GreatestStampEnds}
use Rattle.ingest_plan.specs.declared.place.PathEnd.{PathEnd}

-- a walk along the identifier's path on the device answers so
abbrev pub WalksOn : Ready → List ℕ → DeviceState → DeviceState → Walk → Type 0
WalksOn r id entry new answer =
    WalkEnds r.volume.geometry r.horizon r.edge id (seen_directly entry 0) (seen_directly new 0) (Ok answer)

-- it finds slot n, as a look-up does
abbrev pub FindsSlot : Ready → List ℕ → DeviceState → DeviceState → ℕ → Type 0
FindsSlot r id entry new n =
    LookUpSlotEnds r.volume.geometry r.horizon r.edge id (seen_directly entry 0) (seen_directly new 0) (Ok (Some n))

-- The identifier's path was walked to its end, which is this place of this level's node, and then the device was only
-- read.
pub record HasWalked (r : Ready) (id : List ℕ) (place : Open) (level : Level)
    (entry walked new : DeviceState) : Type 0 where
  pub called : Called entry walked
  pub path : WalksOn r id entry walked (walks.End place level)
  pub looked : Called walked new
  pub quiet : IsStill walked.foreign_writes new.foreign_writes → IsUnchanged walked.image new.image

-- the identifier's path was walked to an end, and no document with the identifier is on it
pub record HasPathEnd (r : Ready) (id : List ℕ) (entry new : DeviceState) : Type 0 where
  pub walked : DeviceState
  pub place : Open
  pub level : Level
  pub ends : HasWalked r id place level entry walked new

-- a stamp is given
pub record IsGiven (stamp : Option ℕ) : Type 0 where
  pub seconds : ℕ
  pub is : stamp ≡ Some seconds

-- the stamp that is given, if one is, is past those of the done slots below the horizon
abbrev pub IsStampPast : Ready → Option ℕ → DeviceState → Type 0
IsStampPast r stamp entry = IsTrue entry.tells → IsLater r.volume.geometry entry.image r.horizon stamp

-- The stamp is not past the last one, which a done slot below the horizon has, and no such slot had a greater one.
pub record IsTooEarly (r : Ready) (stamp : Option ℕ) (given last : ℕ) (entry new : DeviceState) : Type 0 where
  pub given_is : stamp ≡ Some given
  pub early : given ≤ last
  pub stands : IsTrue entry.tells → IsStampBelow r.volume.geometry new.image r.horizon last
  pub most : IsTrue entry.tells → AreUpTo r.volume.geometry entry.image 0 r.horizon (Some last)

-- Named by a rule of walks; and where cell 0 stated this volume at entry, it lies on the identifier's path, as this
-- stands at exit.
pub record IsByPathRule (r : Ready) (id : List ℕ) (entry new : DeviceState) (e : Evidence) : Type 0 where
  pub rule : IsWalkRule e.rule
  pub lies : IsVolume entry.cells entry.image r.volume.geometry
      → LiesOnPath r.volume.geometry new.cells new.image id e

-- Named by a rule of planning, behind the path's end, where no list gets too many tags of the body.
pub record IsByGrowthRule (r : Ready) (id body : List ℕ) (entry new : DeviceState) (e : Evidence) : Type 0 where
  pub rule : IsGrowthRule e.rule
  pub ends : HasPathEnd r id entry new
  pub postings : HasPostings r.volume.geometry body

-- named on the way: on the identifier's path, or behind its end
abbrev pub IsByWayRule : Ready → List ℕ → List ℕ → DeviceState → DeviceState → Evidence → Type 0
IsByWayRule r id body entry new e = IsByPathRule r id entry new e ⊎ IsByGrowthRule r id body entry new e

-- Evidence that was found on the way, so named. It stands in a place of its rule. Where nobody else wrote, cell 0
-- states the volume that was found ready, and its horizon and its edge are such, the rule is broken there.
pub record IsFoundOnWay (IsByRule : Evidence → Type 0) (r : Ready) (entry new : DeviceState) (e : Evidence) : Type 0
  where
    pub rule : IsByRule e
    pub stands : new.image e.cell ≡ Some e.found
    pub place : IsPlaceOf r.volume.geometry e.rule e.cell
    pub broken : IsStill entry.foreign_writes new.foreign_writes → IsVolume new.cells new.image r.volume.geometry
        → IsHorizon r.volume.geometry new.image new.image r.horizon
        → IsEdge r.volume.geometry new.image new.image r.edge → IsBroken new.cells new.image e.rule e.cell

-- What was found in this order: where a stamp is given, the slots are looked at first, for theirs; and only where the
-- stamp that is given is past them, what is named on the path and in the lists comes.
abbrev pub IsFoundInOrder
    : Ready → List ℕ → Option ℕ → List ℕ → DeviceState → DeviceState → Evidence → Type 0
IsFoundInOrder r id stamp body entry new e =
    (IsGiven stamp × IsFoundOnWay (IsInLogBelow r.horizon) r entry new e)
    ⊎ (IsStampPast r stamp entry × IsFoundOnWay (IsByWayRule r id body entry new) r entry new e)

-- what a walk along the identifier's path on the device does: it changes nothing
pub record WalksDevice (r : Ready) (id : List ℕ) (entry new : DeviceState) (result : Result Walk Fault) : Type 0 where
  pub called : Called entry new
  pub quiet : IsStill entry.foreign_writes new.foreign_writes → IsUnchanged entry.image new.image
  pub ends : WalkEnds r.volume.geometry r.horizon r.edge id (seen_directly entry 0) (seen_directly new 0) result
  pub named : WalkNames r.volume.geometry id (seen_directly entry 0) (seen_directly new 0) result

-- how a look for the path's end may end, and why
abbrev pub PathLookEnds : Ready → List ℕ → DeviceState → DeviceState → Result PathEnd Refusal → Type 0
PathLookEnds r id entry new (Ok end) = WalksOn r id entry new (walks.End end.place end.level)
PathLookEnds r id entry new (Err (Duplicate n)) = FindsSlot r id entry new n
PathLookEnds r id entry new (Err PathFull) = WalksOn r id entry new walks.PathFull
PathLookEnds r id entry new (Err DeviceFault) = Rose entry.faults new.faults
PathLookEnds r id entry new (Err (Tampered e)) =
    IsTrue entry.tells → IsFoundOnWay (IsByPathRule r id entry new) r entry new e
PathLookEnds r id entry new (Err refusal) = ⊥

-- such a look changes nothing
pub record SeeksPathEnd (r : Ready) (id : List ℕ) (entry new : DeviceState)
    (result : Result PathEnd Refusal) : Type 0 where
  pub called : Called entry new
  pub quiet : IsStill entry.foreign_writes new.foreign_writes → IsUnchanged entry.image new.image
  pub ends : PathLookEnds r id entry new result

-- what reading the stamps of the done slots below the horizon does: it changes nothing
pub record ReadsOnDevice (r : Ready) (entry new : DeviceState) (result : Result (Option ℕ) Fault) : Type 0 where
  pub called : Called entry new
  pub quiet : IsStill entry.foreign_writes new.foreign_writes → IsUnchanged entry.image new.image
  pub ends : GreatestStampEnds r.volume.geometry r.horizon (seen_directly entry 0) (seen_directly new 0) result

-- how a look whether the stamp is past the others may end, and why
abbrev pub PastEnds : Ready → Option ℕ → DeviceState → DeviceState → Result Unit Refusal → Type 0
PastEnds r stamp entry new (Ok u) = (new.faults ≡ entry.faults) × IsStampPast r stamp entry
PastEnds r stamp entry new (Err (StampTooEarly given last)) = IsTooEarly r stamp given last entry new
PastEnds r stamp entry new (Err DeviceFault) = Rose entry.faults new.faults
PastEnds r stamp entry new (Err (Tampered e)) =
    IsGiven stamp × (IsTrue entry.tells → IsFoundOnWay (IsInLogBelow r.horizon) r entry new e)
PastEnds r stamp entry new (Err refusal) = ⊥

-- such a look changes nothing
pub record LooksPast (r : Ready) (stamp : Option ℕ) (entry new : DeviceState) (result : Result Unit Refusal) : Type 0
  where
    pub called : Called entry new
    pub quiet : IsStill entry.foreign_writes new.foreign_writes → IsUnchanged entry.image new.image
    pub ends : PastEnds r stamp entry new result

-- The index of the document is planned, with its bucket at the end of its identifier's path. Its stamp is past the
-- others.
pub record HasIndex (r : Ready) (id : List ℕ) (stamp : Option ℕ) (body : List ℕ) (index : PlannedIndex)
    (entry new : DeviceState) : Type 0 where
  pub past : IsStampPast r stamp entry
  pub walked : DeviceState
  pub place : Open
  pub level : Level
  pub ends : HasWalked r id place level entry walked new
  pub planned : IsPlanned r.volume.geometry r.horizon r.edge level place stamp body index walked new

-- The stamp is past the others, the path ends, and no document with the identifier is on it; and a list gets too many
-- tags of the body.
pub record HasTooMany (r : Ready) (id : List ℕ) (stamp : Option ℕ) (body : List ℕ) (list count : ℕ)
    (entry new : DeviceState) : Type 0 where
  pub past : IsStampPast r stamp entry
  pub place : Open
  pub level : Level
  pub path : WalksOn r id entry new (walks.End place level)
  pub many : GetsTooMany r.volume.geometry body list count

-- how planning the index may end, and why
abbrev pub PlanForEnds
    : Ready → List ℕ → Option ℕ → List ℕ → DeviceState → DeviceState → Result PlannedIndex Refusal → Type 0
PlanForEnds r id stamp body entry new (Ok index) = HasIndex r id stamp body index entry new
PlanForEnds r id stamp body entry new (Err (StampTooEarly given last)) = IsTooEarly r stamp given last entry new
PlanForEnds r id stamp body entry new (Err (Duplicate n)) = IsStampPast r stamp entry × FindsSlot r id entry new n
PlanForEnds r id stamp body entry new (Err PathFull) = IsStampPast r stamp entry × WalksOn r id entry new walks.PathFull
PlanForEnds r id stamp body entry new (Err (TooManyTerms list count)) = HasTooMany r id stamp body list count entry new
PlanForEnds r id stamp body entry new (Err DeviceFault) = Rose entry.faults new.faults
PlanForEnds r id stamp body entry new (Err (Tampered e)) =
    IsTrue entry.tells → IsFoundInOrder r id stamp body entry new e
PlanForEnds r id stamp body entry new (Err NoMemory) = ⊤
PlanForEnds r id stamp body entry new (Err refusal) = ⊥

-- it changes nothing
pub record PlansFor (r : Ready) (id : List ℕ) (stamp : Option ℕ) (body : List ℕ) (entry new : DeviceState)
    (result : Result PlannedIndex Refusal) : Type 0 where
  pub called : Called entry new
  pub quiet : IsStill entry.foreign_writes new.foreign_writes → IsUnchanged entry.image new.image
  pub ends : PlanForEnds r id stamp body entry new result
