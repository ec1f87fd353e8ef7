-- What it means that a document is ingested, or that this was ended.
use Rattle.std.specs.Prelude.{◌≡◌, ◌<◌, ◌≤◌, ◌+◌, ◌-◌, ◌⊎◌, ℕ, List, [], ◌∷◌, ◌++◌, length, Option, None, Some, Result, Ok, Err, IsOk, IsTrue}
use Rattle.cell_types.specs.Image.{Image, Extends, IsUnchanged}
use Rattle.cell_types.specs.Layout.{Layout, TakesNoStamps, TakesStamps, reserve_at, spare_at}
use Rattle.cell_types.specs.declared.refusal.Evidence.{Evidence}
use Rattle.cell_types.specs.declared.refusal.Refusal.{Refusal}
use Rattle.cell_types.specs.declared.refusal.Refusal.TheVariants.{DeviceFault, Duplicate, Full, NoMemory, NotAVolume, NotFormatted, PathFull, SlotsFull, StampNeeded, StampTooEarly, StampUnused, Tampered, TooManyTerms, WrongSize}
use Rattle.volume_meaning.specs.Documents.{Document, Stands, stored_bytes}
use Rattle.volume_meaning.specs.Slots.{IsStampFor, IsStampOf, IsUnused, Reserves, cells_for}
use Rattle.volume_meaning.specs.Volumes.{IsVolume, IsWritten}
use Rattle.volume_meaning.specs.Keeping.{IsKept, Kept}
use Rattle.tamper_rules.specs.declared.numbers.TheConstants.{STRAY_CELL}
use Rattle.worm_device.specs.Calls.{Called}
use Rattle.worm_device.specs.Counts.{Rose, IsStill}
use Rattle.worm_device.specs.State.{DeviceState, IsDevice, LeftSince}
use Rattle.commit_record.specs.Licences.{IsLicensed}
use Rattle.document_store.specs.Looks.{HoldsIdentifier}
use Rattle.recovery_engine.specs.Settling.{HasSettled, IsFoundBroken, IsSettlingRule, SettleEnds, Settles}
use Rattle.recovery_engine.specs.declared.settling.Ready.{Ready}
use Rattle.identifier_lookup.specs.Walks.{HasIdentifierTrail, IsFirstOnPath, IsPassedWhole, IsWalkRule, LiesOnPath, NoneHasTrail}
use Rattle.plan_writer.specs.Blank.{IsOfNewSlot}
use Rattle.plan_writer.specs.CrashLaws.{IsWholeOrUncommitted}
use Rattle.plan_writer.specs.Planned.{PlansDocument, Suits}
use Rattle.plan_writer.specs.PuttingPlans.{PutsPlan}
use Rattle.plan_writer.specs.declared.plan.Plan.{Plan}
use Rattle.ingest_plan.specs.Planning.{IsLater}
use Rattle.ingest_plan.specs.declared.plan.PlannedIndex.{PlannedIndex}
use Rattle.ingest_engine.specs.Indexing.{HasIndex, HasTooMany, IsByGrowthRule, IsGiven, IsStampPast, IsTooEarly}
use Rattle.ingest_engine.specs.Stamps.{IsInLogBelow}

-- The plan is of this document, with this stamp, and of its index, which was planned after settling: it has the index's
-- blocks, and copies of its cells are the journal.
pub record IsPlanFor (r : Ready) (id : List ℕ) (stamp : Option ℕ) (body : List ℕ) (settled looked : DeviceState)
    (p : Plan) : Type 0 where
  pub starts : p.start ≡ r.edge
  pub suits : Suits r.volume.geometry p
  pub document : PlansDocument p id body
  pub stamped : p.stamp ≡ stamp
  pub index : PlannedIndex
  pub has : HasIndex r id stamp body index settled looked
  pub blocks : p.block_length ≡ index.block_length
  pub journal : p.journal.now ≡ index.journal.items

-- How far an ingest has come, whatever it answers.
pub data IngestComesTo (id : List ℕ) (stamp : Option ℕ) (body : List ℕ) (old new : DeviceState) : Type 0 where
  -- nothing was done
  nothing : new ≡ old → IngestComesTo id stamp body old new
  -- settling the volume was ended
  settling : (refusal : Refusal) → Settles old new (Err refusal) → IngestComesTo id stamp body old new
  -- the volume was settled, and then looked at alone
  settled : (r : Ready) → HasSettled old new r → IngestComesTo id stamp body old new
  -- a slot was free, the document and its index were planned, and the plan was put into that slot
  put : (looked : DeviceState) (r : Ready) (p : Plan) (h : HasSettled old looked r) → IsDevice looked
      → r.horizon < r.volume.geometry.slots → IsPlanFor r id stamp body h.settled looked p
      → PutsPlan r.horizon p looked new
      → IngestComesTo id stamp body old new

-- the document in this slot
abbrev pub document_in : ℕ → List ℕ → List ℕ → Document
document_in n id body = record { slot = n; id = id; body = body }

-- the reserve cell of the volume's last slot is blank: a log whose last slot is taken is full, whatever stands before
abbrev pub IsLastFree : Layout → Image → Type 0
IsLastFree g image = image (reserve_at (g.slots - 1)) ≡ None

-- slot n reserves these cells now, for sure, and each of them was blank, as was the slot's spare cell
pub record TakesBlank (g : Layout) (n : ℕ) (old sure : Image) : Type 0 where
  pub spare : old (spare_at n) ≡ None
  pub start : ℕ
  pub count : ℕ
  pub reserves : Reserves g sure n start count
  pub blank : (cell : ℕ) → start ≤ cell → cell < start + count → old cell ≡ None

-- The document stands now in slot n, which was unused, and is sure; each cell that the slot takes was blank. It is
-- kept: its index leads to it, and so it does in each image that extends this one. Whatever documents were kept are
-- kept still, with this one behind them, and all that stood is sure. The volume's last slot was free, and no document
-- to which an index led had the identifier. Where documents are stamped it has this stamp, for sure, which is past
-- those of the done slots below its own.
pub record IsIngested (id : List ℕ) (stamp : Option ℕ) (body : List ℕ) (n : ℕ) (old new : DeviceState) : Type 0 where
  pub layout : Layout
  pub volume : IsVolume new.cells new.image layout
  pub unused : IsUnused layout old.image n
  pub blank : TakesBlank layout n old.image new.sure
  pub last_free : IsLastFree layout old.image
  pub document : Stands new.cells new.sure n id body
  pub stamped : IsStampOf layout new.sure n stamp
  pub later : IsLater layout old.image n stamp
  pub kept : IsKept new.cells new.sure layout (document_in n id body)
  pub keeps : (documents : List Document) → Kept old.cells old.image documents
      → Kept new.cells new.sure (documents ++ document_in n id body ∷ [])
  pub fresh : NoneHasTrail layout old.cells old.image id
  pub synced : Extends old.image new.sure

-- how a look whether the volume takes such a stamp may end, and why
abbrev pub CheckStampEnds : Ready → Option ℕ → Result Unit Refusal → Type 0
CheckStampEnds r stamp (Ok u) = IsStampFor r.volume.geometry stamp
CheckStampEnds r stamp (Err StampNeeded) = TakesStamps r.volume.geometry × (stamp ≡ None)
CheckStampEnds r stamp (Err StampUnused) = TakesNoStamps r.volume.geometry × ((seconds : ℕ) × (stamp ≡ Some seconds))
CheckStampEnds r stamp (Err refusal) = ⊥

-- The volume was settled, and does not take such a stamp, by this refusal.
pub record TakesNoSuchStamp (stamp : Option ℕ) (old new : DeviceState) (refusal : Refusal) : Type 0 where
  pub ready : Ready
  pub settled : HasSettled old new ready
  pub ends : CheckStampEnds ready stamp (Err refusal)

-- how a look for a free slot of a settled volume may end, and why
abbrev pub SlotsEnd : Ready → Result Unit Refusal → Type 0
SlotsEnd r (Ok u) = r.horizon < r.volume.geometry.slots
SlotsEnd r (Err SlotsFull) = r.horizon ≡ r.volume.geometry.slots
SlotsEnd r (Err refusal) = ⊥

-- how a look for room may end, and why: the cells behind the edge are free
abbrev pub RoomEnds : Ready → ℕ → Result Unit Refusal → Type 0
RoomEnds r need (Ok u) = need ≤ r.volume.geometry.cells - r.edge
RoomEnds r need (Err (Full needed free)) =
    (needed ≡ need) × (free ≡ r.volume.geometry.cells - r.edge) × (free < need)
RoomEnds r need (Err refusal) = ⊥

-- The volume was settled, and then only looked at; it takes such a stamp, and had a free slot. So its last slot was
-- free before.
pub record HasFreeSlot (stamp : Option ℕ) (old new : DeviceState) (r : Ready) : Type 0 where
  pub settled : HasSettled old new r
  pub takes : IsStampFor r.volume.geometry stamp
  pub slot : r.horizon < r.volume.geometry.slots
  pub last_free : IsTrue old.tells → IsLastFree r.volume.geometry old.image

-- The volume was settled, and takes such a stamp, and its last slot was taken.
pub record HasNoSlot (stamp : Option ℕ) (old new : DeviceState) : Type 0 where
  pub ready : Ready
  pub settled : HasSettled old new ready
  pub takes : IsStampFor ready.volume.geometry stamp
  pub taken : ready.horizon ≡ ready.volume.geometry.slots
  pub full : IsTrue old.tells → IsWritten new.image (reserve_at (ready.volume.geometry.slots - 1))

-- The volume was settled and had a free slot, but the stamp is not past the last one.
pub record HasLaterStamp (stamp : Option ℕ) (given last : ℕ) (old new : DeviceState) : Type 0 where
  pub ready : Ready
  pub settled : HasFreeSlot stamp old new ready
  pub early : IsTooEarly ready stamp given last settled.settled.settled new

-- The volume was settled and had a free slot, the stamp is past the others, and slot n has a document with this
-- identifier: the path leads to it, past none with the identifier. It is the only slot of such a document to which the
-- index led before.
pub record IsIdentifierTaken (id : List ℕ) (stamp : Option ℕ) (n : ℕ) (old new : DeviceState) : Type 0 where
  pub ready : Ready
  pub settled : HasFreeSlot stamp old new ready
  pub past : IsStampPast ready stamp settled.settled.settled
  pub holds : IsTrue old.tells → HoldsIdentifier ready.volume.geometry new.image n id
  pub first : IsTrue old.tells → IsFirstOnPath ready.volume.geometry new.cells new.image id n
  pub alone : IsTrue old.tells → (m : ℕ) → HasIdentifierTrail ready.volume.geometry old.cells old.image id m → m ≡ n

-- The volume was settled and had a free slot, the stamp is past the others, and all 64 buckets of the identifier's path
-- are written and passed. No document with the identifier had an index that led to it.
pub record HasFullPath (id : List ℕ) (stamp : Option ℕ) (old new : DeviceState) : Type 0 where
  pub ready : Ready
  pub settled : HasFreeSlot stamp old new ready
  pub past : IsStampPast ready stamp settled.settled.settled
  pub passed : IsTrue old.tells → IsPassedWhole ready.volume.geometry new.cells new.image id
  pub fresh : IsTrue old.tells → NoneHasTrail ready.volume.geometry old.cells old.image id

-- The volume was settled and had a free slot, and no document with this identifier to which its index led; and the
-- identifier's path ends, and a list, the lowest such, gets too many tags of the body.
pub record IsTooMany (id : List ℕ) (stamp : Option ℕ) (body : List ℕ) (list count : ℕ) (old new : DeviceState)
    : Type 0 where
  pub ready : Ready
  pub settled : HasFreeSlot stamp old new ready
  pub fresh : IsTrue old.tells → NoneHasTrail ready.volume.geometry old.cells old.image id
  pub ends : HasTooMany ready id stamp body list count settled.settled.settled new

-- how many cells a document takes with this index of it: its own, those of its journal, and the index's new blocks
abbrev pub need_with : List ℕ → List ℕ → PlannedIndex → ℕ
need_with id body index =
    cells_for (length (stored_bytes id body)) + length index.journal.items + index.block_length

-- The volume was settled and had a free slot, and no document with this identifier to which its index led; and the
-- document needs more cells, with its index as it was planned, than are free behind the edge.
pub record HasNoRoom (id : List ℕ) (stamp : Option ℕ) (body : List ℕ) (need free : ℕ) (old new : DeviceState)
    : Type 0 where
  pub ready : Ready
  pub settled : HasFreeSlot stamp old new ready
  pub fresh : IsTrue old.tells → NoneHasTrail ready.volume.geometry old.cells old.image id
  pub index : PlannedIndex
  pub has : HasIndex ready id stamp body index settled.settled.settled new
  pub need_is : need ≡ need_with id body index
  pub free_is : free ≡ ready.volume.geometry.cells - ready.edge
  pub less : free < need

-- no cell of the document was put
abbrev pub IsUnput : DeviceState → DeviceState → Type 0
IsUnput old new = (new ≡ old) ⊎ ((r : Ready) × HasSettled old new r)

-- the rules of the log that an ingest looks at: those of settling, and that nothing stands where it is to write
abbrev pub IsLogRule : ℕ → Type 0
IsLogRule number = IsSettlingRule number ⊎ (number ≡ STRAY_CELL)

-- Evidence in the way of the plan, found once the volume was settled and had a free slot, and the document's index was
-- planned, and there was room for both; it is a cell of that slot, or of those that it is to reserve: where nobody else
-- wrote, the volume was only looked at since, so nothing of the document was put, and the rule was broken there before
-- the command.
pub record IsInTheWay (id : List ℕ) (stamp : Option ℕ) (body : List ℕ) (old new : DeviceState) (e : Evidence) : Type 0
  where
    pub found : IsFoundBroken IsLogRule old new e
    pub ready : Ready
    pub looked : DeviceState
    pub slot : HasFreeSlot stamp old looked ready
    pub index : PlannedIndex
    pub has : HasIndex ready id stamp body index slot.settled.settled looked
    pub room : need_with id body index ≤ ready.volume.geometry.cells - ready.edge
    pub own : IsOfNewSlot ready.horizon (record { start = ready.edge; length = need_with id body index }) e.cell
    pub since : Called looked new
    pub unput : IsStill old.foreign_writes new.foreign_writes → IsUnchanged looked.image new.image

-- How tampering is named: while the volume was settled; in the way of the plan; or, where the volume was settled and
-- had a free slot, and was only looked at, in the slots below the horizon, which are looked at for their stamps where a
-- stamp is given; or, once the stamp, if one is given, is past all others, on the path of the identifier, as this
-- stands at exit; or, once this path has come to its end, by a rule of planning.
pub data IsIngestEvidence (id : List ℕ) (stamp : Option ℕ) (body : List ℕ) (old new : DeviceState)
    (e : Evidence) : Type 0 where
  by_settling : Settles old new (Err (Tampered e)) → IsFoundBroken IsSettlingRule old new e
      → IsIngestEvidence id stamp body old new e
  by_plan : IsInTheWay id stamp body old new e → IsIngestEvidence id stamp body old new e
  among_stamps : (ready : Ready) → HasFreeSlot stamp old new ready → IsGiven stamp → IsInLogBelow ready.horizon e
      → IsLicensed old new e → IsIngestEvidence id stamp body old new e
  on_path : (ready : Ready) (slot : HasFreeSlot stamp old new ready) → IsStampPast ready stamp slot.settled.settled
      → IsWalkRule e.rule → LiesOnPath ready.volume.geometry new.cells new.image id e
      → IsLicensed old new e → IsIngestEvidence id stamp body old new e
  behind_path : (ready : Ready) (slot : HasFreeSlot stamp old new ready) → IsStampPast ready stamp slot.settled.settled
      → IsByGrowthRule ready id body slot.settled.settled new e
      → IsLicensed old new e → IsIngestEvidence id stamp body old new e

-- how an ingest may end, and why
abbrev pub IngestEnds : List ℕ → Option ℕ → List ℕ → DeviceState → DeviceState → Result ℕ Refusal → Type 0
IngestEnds id stamp body old new (Ok n) = IsTrue old.tells → IsIngested id stamp body n old new
IngestEnds id stamp body old new (Err StampNeeded) = TakesNoSuchStamp stamp old new StampNeeded
IngestEnds id stamp body old new (Err StampUnused) = TakesNoSuchStamp stamp old new StampUnused
IngestEnds id stamp body old new (Err (StampTooEarly given last)) = HasLaterStamp stamp given last old new
IngestEnds id stamp body old new (Err DeviceFault) = Rose old.faults new.faults
IngestEnds id stamp body old new (Err (Tampered e)) = IsTrue old.tells → IsIngestEvidence id stamp body old new e
IngestEnds id stamp body old new (Err SlotsFull) = HasNoSlot stamp old new
IngestEnds id stamp body old new (Err (Duplicate n)) = IsIdentifierTaken id stamp n old new
IngestEnds id stamp body old new (Err PathFull) = HasFullPath id stamp old new
IngestEnds id stamp body old new (Err (TooManyTerms list count)) = IsTooMany id stamp body list count old new
IngestEnds id stamp body old new (Err (Full need free)) = HasNoRoom id stamp body need free old new
IngestEnds id stamp body old new (Err NoMemory) = IsUnput old new
IngestEnds id stamp body old new (Err NotFormatted) = SettleEnds old new (Err NotFormatted)
IngestEnds id stamp body old new (Err (NotAVolume found)) = SettleEnds old new (Err (NotAVolume found))
IngestEnds id stamp body old new (Err (WrongSize stated real)) = SettleEnds old new (Err (WrongSize stated real))
IngestEnds id stamp body old new (Err refusal) = ⊥

-- Where nobody else writes, a crash at any moment of an ingest leaves each slot that was unused in a state, and if it
-- states a document, that is the new one, whole.
abbrev pub CrashesLeaveSlots : List ℕ → List ℕ → DeviceState → DeviceState → Type 0
CrashesLeaveSlots id body old new =
    IsTrue old.tells → IsStill old.foreign_writes new.foreign_writes
    → (g : Layout) (n : ℕ) → IsVolume old.cells old.image g → IsUnused g old.image n
    → (image : Image) → LeftSince new old.moment image → IsWholeOrUncommitted g n id body image

-- No write and no sync has failed: none while the volume was settled, as settling says, and from the look at the cells
-- that the plan takes on no call has failed. Between the two the device was only read.
pub record PutUnfailed (old new : DeviceState) : Type 0 where
  pub ready : Ready
  pub looked : DeviceState
  pub settled : HasSettled old looked ready
  pub unfailed : new.faults ≡ looked.faults

-- What it means that a document is ingested, or that this was ended. Where it is stored no call that writes has failed:
-- none is tried a second time.
pub record Ingests (id : List ℕ) (stamp : Option ℕ) (body : List ℕ) (old new : DeviceState) (result : Result ℕ Refusal)
    : Type 0 where
  pub called : Called old new
  pub unfailed : IsOk result → PutUnfailed old new
  pub comes : IngestComesTo id stamp body old new
  pub crashes : CrashesLeaveSlots id body old new
  pub ends : IngestEnds id stamp body old new result
