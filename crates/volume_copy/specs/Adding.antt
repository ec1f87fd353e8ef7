-- What copying one document does, and copying those that have no pair.
use Rattle.std.specs.Prelude.{◌≡◌, ◌≤◌, ℕ, List, length, slice_index, Option, Result, Ok, Err, IsTrue, ⊤}
use Rattle.cell_types.specs.Layout.{Layout}
use Rattle.cell_types.specs.declared.refusal.CopyRefusal.{CopyRefusal}
use Rattle.cell_types.specs.declared.refusal.CopyRefusal.TheVariants.{From, NoMemory, To}
use Rattle.cell_types.specs.declared.refusal.Refusal.{Refusal}
use Rattle.cell_types.specs.declared.refusal.Refusal.TheVariants as refusals
use Rattle.volume_meaning.specs.Slots.{IsStampOf}
use Rattle.volume_meaning.specs.Volumes.{IsVolume}
use Rattle.worm_device.specs.Calls.{Called}
use Rattle.worm_device.specs.State.{DeviceState}
use Rattle.document_store.specs.Standing.{HoldsDocument}
use Rattle.ingest_engine.specs.Ingesting.{Ingests}
use Rattle.volume_copy.specs.Alone.{AreAlone, AreUnfailed}
use Rattle.volume_copy.specs.Completing.{AreOfOneVersion, EndsUnhindered}
use Rattle.volume_copy.specs.First.{StaysFirst}
use Rattle.volume_copy.specs.Auditing.{IsWholeVolume, done_of}
use Rattle.volume_copy.specs.Walking.{AreFound}
use Rattle.worm_device.specs.Views.{seen_directly}
use Rattle.volume_copy.specs.Pairs.{AreOfFirst, CopiedSoFar, IsNextToCopy, PairsHold}
use Rattle.volume_copy.specs.Reading.{IsOnlyRead, ReadingFails}
use Rattle.volume_copy.specs.Staying.{IsSoundThroughout}
use Rattle.volume_copy.specs.declared.audited.AuditedVolume.{AuditedVolume}
use Rattle.volume_copy.specs.declared.moved.Moved.{Moved}

-- The parts are such ones as were found, and where the device tells cell 0 states the volume.
pub record CanBeRead (s : DeviceState) (volume : AuditedVolume) : Type 0 where
  pub size : volume.volume.geometry.cells ≡ s.cells
  pub is_volume : IsTrue s.tells → IsVolume s.cells s.image volume.volume.geometry
  pub parts : AreFound volume.volume.geometry (seen_directly s 0) volume.parts.items

-- A document was ingested, and where the source tells it is the one that slot n holds there.
pub record IngestsOf (g : Layout) (n : ℕ) (from old new : DeviceState) (result : Result ℕ Refusal) : Type 0 where
  pub id : List ℕ
  pub stamp : Option ℕ
  pub body : List ℕ
  pub holds : IsTrue from.tells → HoldsDocument g from.image n id body
  pub stamped : IsTrue from.tells → IsStampOf g from.image n stamp
  pub ingests : Ingests id stamp body old new result

-- Copying the document of one slot was ended by the source, or by the target.
abbrev pub AddFails : Layout → ℕ → DeviceState → DeviceState → DeviceState → DeviceState → CopyRefusal → Type 0
AddFails g n from from' to to' NoMemory = ⊤
AddFails g n from from' to to' (From refusals.NoMemory) = ⊥
AddFails g n from from' to to' (From refusal) = ReadingFails from from' refusal
AddFails g n from from' to to' (To refusals.NoMemory) = ⊥
AddFails g n from from' to to' (To refusal) = IngestsOf g n from' to to' (Err refusal)
AddFails g n from from' to to' refusal = ⊥

-- how copying the document of one place may end, and why
abbrev pub AddDocumentEnds
    : AuditedVolume → ℕ → DeviceState → DeviceState → DeviceState → DeviceState → Result Moved CopyRefusal → Type 0
AddDocumentEnds source place from from' to to' (Ok pair) =
    (pair.old ≡ slice_index (done_of source) place)
    × IngestsOf source.volume.geometry pair.old from' to to' (Ok pair.new)
AddDocumentEnds source place from from' to to' (Err refusal) =
    AddFails source.volume.geometry (slice_index (done_of source) place) from from' to to' refusal

-- where nobody else writes, the source is whole, and so much was copied
abbrev pub WhereCopied
    : AuditedVolume → DeviceState → DeviceState → DeviceState → DeviceState → List Moved → Type 0 → Type 0
WhereCopied source from from' to to' moved P =
    AreAlone from from' to to' → IsWholeVolume from (done_of source) → CopiedSoFar from to moved → P

-- then, where no call fails and both volumes have one version, nothing else hinders
abbrev pub Completes
    : AuditedVolume → DeviceState → DeviceState → DeviceState → DeviceState → List Moved → {X : Type 0} → Result X CopyRefusal
    → Type 0
Completes source from from' to to' moved result =
    WhereCopied source from from' to to' moved
    (AreUnfailed from from' to to' → AreOfOneVersion from to → EndsUnhindered result)

pub record AddsNext (source : AuditedVolume) (place : ℕ) (from from' to to' : DeviceState) (result : Result Moved CopyRefusal)
    : Type 0 where
  pub from_read : IsOnlyRead from from'
  pub to_called : Called to to'
  pub to_sound : IsSoundThroughout to to'
  pub to_first : (moved : List Moved) → length moved ≡ place
      → WhereCopied source from from' to to' moved (StaysFirst from'.cells from'.image to to')
  pub complete : (moved : List Moved) → length moved ≡ place → Completes source from from' to to' moved result
  pub ends : AddDocumentEnds source place from from' to to' result

-- an ingest of the next document of the source was refused, where so much had been copied
pub record IngestRefused (source : AuditedVolume) (moved : List Moved) (from from' old new : DeviceState) (refusal : Refusal)
    : Type 0 where
  pub between : DeviceState
  pub called : Called old between
  pub slot : ℕ
  pub ingests : IngestsOf source.volume.geometry slot from' between new (Err refusal)
  pub next : WhereCopied source from from' old new moved (IsNextToCopy from' between ingests.id ingests.body)

-- why copying the documents that have no pair was ended
abbrev pub RestFails
    : AuditedVolume → List Moved → DeviceState → DeviceState → DeviceState → DeviceState → CopyRefusal → Type 0
RestFails source moved from from' to to' NoMemory = ⊤
RestFails source moved from from' to to' (From refusals.NoMemory) = ⊥
RestFails source moved from from' to to' (From refusal) = ReadingFails from from' refusal
RestFails source moved from from' to to' (To refusals.NoMemory) = ⊥
RestFails source moved from from' to to' (To refusal) = IngestRefused source moved from from' to to' refusal
RestFails source moved from from' to to' refusal = ⊥

-- what was copied so far, and then all, under the premises that nobody else writes and that the source is whole
abbrev pub CopyGoesOn : AuditedVolume → DeviceState → DeviceState → DeviceState → DeviceState → List Moved → List Moved
    → Type 0
CopyGoesOn source from from' to to' moved moved' =
    WhereCopied source from from' to to' moved (CopiedSoFar from' to' moved')

-- how it may end, and why; at Ok there is a pair for each slot of the source, if there was one for each of the first
abbrev pub RestEnds
    : AuditedVolume → DeviceState → DeviceState → DeviceState → DeviceState → List Moved → List Moved
    → Result Unit CopyRefusal → Type 0
RestEnds source from from' to to' moved moved' (Ok u) =
    (length (done_of source) ≤ length moved') × CopyGoesOn source from from' to to' moved moved'
    × (AreOfFirst (done_of source) moved → AreOfFirst (done_of source) moved')
RestEnds source from from' to to' moved moved' (Err refusal) =
    RestFails source moved from from' to to' refusal

-- where the documents of the pairs that there were say the same, and both devices tell, so do those of all that there are
abbrev pub RestHolds : DeviceState → DeviceState → DeviceState → DeviceState → List Moved → List Moved
    → Result Unit CopyRefusal → Type 0
RestHolds from from' to to' moved moved' (Ok u) =
    IsTrue from.tells → IsTrue to.tells → PairsHold from to moved → PairsHold from' to' moved'
RestHolds from from' to to' moved moved' (Err refusal) = ⊤

pub record AddsRest (source : AuditedVolume) (from from' to to' : DeviceState) (moved moved' : List Moved)
    (result : Result Unit CopyRefusal) : Type 0 where
  pub from_read : IsOnlyRead from from'
  pub to_called : Called to to'
  pub to_sound : IsSoundThroughout to to'
  pub to_first : WhereCopied source from from' to to' moved (StaysFirst from'.cells from'.image to to')
  pub complete : Completes source from from' to to' moved result
  pub same : RestHolds from from' to to' moved moved' result
  pub ends : RestEnds source from from' to to' moved moved' result
