-- What reading the documents of a volume that was audited does.
use Rattle.std.specs.Prelude.{◌≤◌, ◌+◌, ℕ, List, [], ◌∷◌, length, Option, Result, Ok, Err, IsTrue, ⊤}
use Rattle.cell_types.specs.Image.{Image, IsUnchanged}
use Rattle.cell_types.specs.Layout.{Layout}
use Rattle.cell_types.specs.declared.refusal.Refusal.{Refusal}
use Rattle.cell_types.specs.declared.refusal.Refusal.TheVariants.{DeviceFault, NoMemory, Tampered}
use Rattle.volume_meaning.specs.Documents.{IsIdentifier}
use Rattle.volume_meaning.specs.declared.limits.TheConstants.{MAX_BODY_BYTES}
use Rattle.volume_meaning.specs.Slots.{IsStampOf}
use Rattle.volume_meaning.specs.Volumes.{IsVolume}
use Rattle.worm_device.specs.Calls.{Called}
use Rattle.worm_device.specs.Counts.{Rose, IsStill}
use Rattle.worm_device.specs.State.{DeviceState}
use Rattle.worm_device.specs.Views.{ViewState}
use Rattle.commit_record.specs.Licences.{IsLicensed}
use Rattle.tamper_rules.specs.Rules.{IsPlaceOf}
use Rattle.document_store.specs.Looks.{NamesDocument}
use Rattle.document_store.specs.declared.part.Part.{Part}
use Rattle.document_store.specs.Standing.{HoldsDocument}
use Rattle.volume_copy.specs.declared.stored.StoredCopy.{StoredCopy}

-- slot n holds the document that was read, and has its stamp
pub record HoldsCopy (g : Layout) (image : Image) (n : ℕ) (copy : StoredCopy) : Type 0 where
  pub holds : HoldsDocument g image n copy.identifier copy.body.held
  pub stamped : IsStampOf g image n copy.stamp

-- Why reading what slot n holds was ended, over a view.
abbrev pub SlotFails : Layout → ℕ → ViewState → ViewState → Refusal → Type 0
SlotFails g n old new NoMemory = ⊤
SlotFails g n old new DeviceFault = Rose old.base.faults new.base.faults
SlotFails g n old new (Tampered e) = IsTrue old.base.tells → IsPlaceOf g e.rule e.cell × NamesDocument g n old new e
SlotFails g n old new refusal = ⊥

-- how reading the stamp of slot n may end, and why
abbrev pub StampReadEnds : Layout → ℕ → ViewState → ViewState → Result (Option ℕ) Refusal → Type 0
StampReadEnds g n old new (Ok stamp) = IsTrue old.base.tells → IsStampOf g new.image n stamp
StampReadEnds g n old new (Err refusal) = SlotFails g n old new refusal

-- How reading the document of slot n over a view may end, and why. Its identifier and its body are such ones over every
-- view.
abbrev pub CopyReadEnds : Layout → ℕ → ViewState → ViewState → Result StoredCopy Refusal → Type 0
CopyReadEnds g n old new (Ok copy) =
    IsIdentifier copy.identifier × (length copy.body.held ≤ MAX_BODY_BYTES) × (IsTrue old.base.tells → HoldsCopy g new.image n copy)
CopyReadEnds g n old new (Err refusal) = SlotFails g n old new refusal

-- Why reading a volume was ended. A cell that is named stands in a place of its rule; where nobody else wrote since the
-- first of the two states, the rule is broken there.
abbrev pub ReadingFails : DeviceState → DeviceState → Refusal → Type 0
ReadingFails old new NoMemory = ⊤
ReadingFails old new DeviceFault = Rose old.faults new.faults
ReadingFails old new (Tampered e) = IsTrue old.tells → IsLicensed old new e
ReadingFails old new refusal = ⊥

-- The device was only looked at.
pub record IsOnlyRead (old new : DeviceState) : Type 0 where
  pub called : Called old new
  pub only : IsStill old.foreign_writes new.foreign_writes → IsUnchanged old.image new.image

-- How reading the document of slot n of a device may end, and why. Where cell 0 states this layout, a cell that is named
-- is evidence.
abbrev pub StoredEnds : Layout → ℕ → DeviceState → DeviceState → Result StoredCopy Refusal → Type 0
StoredEnds g n old new (Ok copy) =
    IsIdentifier copy.identifier × (length copy.body.held ≤ MAX_BODY_BYTES) × (IsTrue old.tells → HoldsCopy g new.image n copy)
StoredEnds g n old new (Err refusal) = (IsTrue old.tells → IsVolume old.cells old.image g) → ReadingFails old new refusal

pub record ReadsStored (g : Layout) (n : ℕ) (old new : DeviceState) (result : Result StoredCopy Refusal) : Type 0 where
  pub read : IsOnlyRead old new
  pub ends : StoredEnds g n old new result

-- each number is greater than the one before it, and all are from this one on
abbrev pub RiseFrom : ℕ → List ℕ → Type 0
RiseFrom from [] = Unit {0}
RiseFrom from (n ∷ ns) = (from ≤ n) × RiseFrom (n + 1) ns

-- the slots of parts
abbrev pub part_slots : List Part → List ℕ
part_slots [] = []
part_slots (p ∷ ps) = p.slot ∷ part_slots ps
