-- What comparing the documents of two volumes does.
use Rattle.std.specs.Prelude.{◌≡◌, ℕ, slice_index, Result, Ok, Err, IsTrue, ⊤}
use Rattle.std.specs.Global.{Vec}
use Rattle.cell_types.specs.declared.refusal.CopyRefusal.{CopyRefusal}
use Rattle.cell_types.specs.declared.refusal.CopyRefusal.TheVariants.{Differs, From, Longer, NoMemory, To}
use Rattle.cell_types.specs.declared.refusal.Refusal.TheVariants as refusals
use Rattle.worm_device.specs.State.{DeviceState}
use Rattle.volume_copy.specs.Auditing.{IsWholeVolume, done_of}
use Rattle.volume_copy.specs.Alone.{AreAlone}
use Rattle.volume_copy.specs.Copies.{HoldOthers, IsFirstPast, IsFirstToDiffer}
use Rattle.volume_copy.specs.Pairs.{AnsweredFirst, AnsweredHold, CopiedSoFar}
use Rattle.volume_copy.specs.Reading.{HoldsCopy, IsOnlyRead, ReadingFails}
use Rattle.volume_copy.specs.declared.audited.AuditedVolume.{AuditedVolume}
use Rattle.volume_copy.specs.declared.moved.Moved.{Moved}
use Rattle.volume_copy.specs.declared.stored.StoredCopy.{StoredCopy}

-- both documents have the same identifier, body and stamp
pub record IsSameCopy (one other : StoredCopy) : Type 0 where
  pub identifier : one.identifier ≡ other.identifier
  pub body : one.body.held ≡ other.body.held
  pub stamp : one.stamp ≡ other.stamp

-- The documents of a place were read on both sides, where both tell, and these are their slots.
pub record ReadsBoth (source target : AuditedVolume) (place : ℕ) (from to : DeviceState) (old new : ℕ) : Type 0 where
  pub old_is : old ≡ slice_index (done_of source) place
  pub new_is : new ≡ slice_index (done_of target) place
  pub one : StoredCopy
  pub other : StoredCopy
  pub there : IsTrue from.tells → HoldsCopy source.volume.geometry from.image old one
  pub here : IsTrue to.tells → HoldsCopy target.volume.geometry to.image new other

-- they are the same, or not
pub record FindsSame (source target : AuditedVolume) (place : ℕ) (from to : DeviceState) (old new : ℕ) : Type 0 where
  pub read : ReadsBoth source target place from to old new
  pub same : IsSameCopy read.one read.other

pub record FindsOther (source target : AuditedVolume) (place : ℕ) (from to : DeviceState) (old new : ℕ) : Type 0 where
  pub read : ReadsBoth source target place from to old new
  pub other : IsSameCopy read.one read.other → ⊥

-- how comparing the documents of one place may end, and why
abbrev pub NextPairEnds
    : AuditedVolume → AuditedVolume → ℕ → DeviceState → DeviceState → DeviceState → DeviceState → Result Moved CopyRefusal
    → Type 0
NextPairEnds source target place from from' to to' (Ok pair) = FindsSame source target place from' to' pair.old pair.new
NextPairEnds source target place from from' to to' (Err (Differs old new)) =
    FindsOther source target place from' to' old new
NextPairEnds source target place from from' to to' (Err NoMemory) = ⊤
NextPairEnds source target place from from' to to' (Err (From refusals.NoMemory)) = ⊥
NextPairEnds source target place from from' to to' (Err (From refusal)) = ReadingFails from from' refusal
NextPairEnds source target place from from' to to' (Err (To refusals.NoMemory)) = ⊥
NextPairEnds source target place from from' to to' (Err (To refusal)) = ReadingFails to to' refusal
NextPairEnds source target place from from' to to' (Err refusal) = ⊥

pub record ComparesNext (source target : AuditedVolume) (place : ℕ) (from from' to to' : DeviceState)
    (result : Result Moved CopyRefusal) : Type 0 where
  pub from_read : IsOnlyRead from from'
  pub to_read : IsOnlyRead to to'
  pub ends : NextPairEnds source target place from from' to to' result

-- where nobody else writes, and both volumes are whole
abbrev pub WhereWhole : AuditedVolume → AuditedVolume → DeviceState → DeviceState → DeviceState → DeviceState → Type 0 → Type 0
WhereWhole source target from from' to to' P =
    AreAlone from from' to to' → IsWholeVolume from (done_of source) → IsWholeVolume to (done_of target) → P

-- how comparing all documents of the target may end, and why
abbrev pub CompareVolumesEnds
    : AuditedVolume → AuditedVolume → DeviceState → DeviceState → DeviceState → DeviceState
    → Result (Vec Moved) CopyRefusal → Type 0
CompareVolumesEnds source target from from' to to' (Ok moved) =
    WhereWhole source target from from' to to' (CopiedSoFar from' to' moved.items)
CompareVolumesEnds source target from from' to to' (Err (Differs old new)) =
    (IsTrue from.tells → IsTrue to.tells → HoldOthers from' to' old new)
    × WhereWhole source target from from' to to' (IsFirstToDiffer from' to' old new)
CompareVolumesEnds source target from from' to to' (Err (Longer new)) =
    WhereWhole source target from from' to to' (IsFirstPast from' to' new)
CompareVolumesEnds source target from from' to to' (Err NoMemory) = ⊤
CompareVolumesEnds source target from from' to to' (Err (From refusals.NoMemory)) = ⊥
CompareVolumesEnds source target from from' to to' (Err (From refusal)) = ReadingFails from from' refusal
CompareVolumesEnds source target from from' to to' (Err (To refusals.NoMemory)) = ⊥
CompareVolumesEnds source target from from' to to' (Err (To refusal)) = ReadingFails to to' refusal
CompareVolumesEnds source target from from' to to' (Err refusal) = ⊥

pub record ComparesAll (source target : AuditedVolume) (from from' to to' : DeviceState)
    (result : Result (Vec Moved) CopyRefusal) : Type 0 where
  pub from_read : IsOnlyRead from from'
  pub to_read : IsOnlyRead to to'
  pub same : AnsweredHold from from' to to' result
  pub first : AnsweredFirst (done_of source) result
  pub ends : CompareVolumesEnds source target from from' to to' result
