-- What going along the slots of a volume answers.
use Rattle.std.specs.Prelude.{◌<◌, ℕ, List, Contains, Result, Ok, Err, IsTrue}
use Rattle.std.specs.Global.{Vec}
use Rattle.cell_types.specs.Image.{Image}
use Rattle.cell_types.specs.Layout.{Layout}
use Rattle.cell_types.specs.declared.refusal.Refusal.{Refusal}
use Rattle.volume_meaning.specs.Slots.{IsDoneSlot}
use Rattle.volume_meaning.specs.Volumes.{IsVolume}
use Rattle.worm_device.specs.State.{DeviceState}
use Rattle.worm_device.specs.Views.{ViewState, seen_directly}
use Rattle.document_store.specs.Looks.{HasPart}
use Rattle.document_store.specs.declared.part.Part.{Part}
use Rattle.volume_copy.specs.Reading.{ReadingFails, RiseFrom, SlotFails, part_slots}

-- These are the done slots below one, by rising number: each is done in the later image, and each that was done in the
-- earlier one is among them.
pub record AreDoneBelow (g : Layout) (before after : Image) (horizon : ℕ) (slots : List ℕ) : Type 0 where
  pub done : (n : ℕ) → Contains slots n → IsDoneSlot g after n
  pub all : (n : ℕ) → n < horizon → IsDoneSlot g before n → Contains slots n

-- They rise, and lie below it.
pub record RiseBelow (horizon : ℕ) (slots : List ℕ) : Type 0 where
  pub rise : RiseFrom 0 slots
  pub below : (n : ℕ) → Contains slots n → n < horizon

-- a look at some slot was refused
pub record RefusesLook (g : Layout) (old new : ViewState) (refusal : Refusal) : Type 0 where
  pub slot : ℕ
  pub refuses : SlotFails g slot old new refusal

-- each of these is a part that was found
abbrev pub AreFound : Layout → ViewState → List Part → Type 0
AreFound g s parts = (part : Part) → Contains parts part → HasPart g s part

-- How going along the slots of a view may end, and why.
abbrev pub WalksSlots : Layout → ℕ → ViewState → ViewState → Result (Vec Part) Refusal → Type 0
WalksSlots g horizon old new (Ok parts) =
    RiseBelow horizon (part_slots parts.items) × AreFound g new parts.items
    × (IsTrue old.base.tells → AreDoneBelow g old.image new.image horizon (part_slots parts.items))
WalksSlots g horizon old new (Err refusal) = RefusesLook g old new refusal

-- The same of a device. Where cell 0 states this layout, a cell that is named is evidence.
abbrev pub CopyWalkEnds : Layout → ℕ → DeviceState → DeviceState → Result (Vec Part) Refusal → Type 0
CopyWalkEnds g horizon old new (Ok parts) =
    RiseBelow horizon (part_slots parts.items) × AreFound g (seen_directly new 0) parts.items
    × (IsTrue old.tells → AreDoneBelow g old.image new.image horizon (part_slots parts.items))
CopyWalkEnds g horizon old new (Err refusal) =
    (IsTrue old.tells → IsVolume old.cells old.image g) → ReadingFails old new refusal
