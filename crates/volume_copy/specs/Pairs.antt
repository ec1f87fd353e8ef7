-- What it means that documents of one volume are those of another.
use Rattle.std.specs.Prelude.{◌≡◌, ◌≤◌, ℕ, List, [], ◌∷◌, length, take, slice_get, Contains, Option, Some, Result, Ok, Err, IsTrue, ⊤}
use Rattle.std.specs.Global.{Vec}
use Rattle.cell_types.specs.Image.{Image, IsUnchanged}
use Rattle.cell_types.specs.Layout.{Layout}
use Rattle.cell_types.specs.declared.refusal.CopyRefusal.{CopyRefusal}
use Rattle.volume_meaning.specs.Documents.{AreDocuments, Document, Stands}
use Rattle.volume_meaning.specs.Slots.{IsStampOf}
use Rattle.volume_meaning.specs.Volumes.{IsVolume}
use Rattle.tamper_rules.specs.Settling.{Settled}
use Rattle.worm_device.specs.State.{DeviceState}
use Rattle.volume_copy.specs.Reading.{RiseFrom}
use Rattle.volume_copy.specs.declared.moved.Moved.{Moved}

-- the slots of documents
abbrev pub slots_of : List Document → List ℕ
slots_of [] = []
slots_of (d ∷ ds) = d.slot ∷ slots_of ds

-- the slots that pairs name in the source
abbrev pub old_slots : List Moved → List ℕ
old_slots [] = []
old_slots (m ∷ moved) = m.old ∷ old_slots moved

-- there is a pair for each of the first ones of these slots, in order, and no other
abbrev pub AreOfFirst : List ℕ → List Moved → Type 0
AreOfFirst done moved = old_slots moved ≡ take (length moved) done

-- so it is of the pairs that are answered
abbrev pub AnsweredFirst : List ℕ → Result (Vec Moved) CopyRefusal → Type 0
AnsweredFirst done (Ok moved) = AreOfFirst done moved.items
AnsweredFirst done (Err refusal) = ⊤

-- The document of one volume says the same as that of another: it has its identifier and its body, and where documents are
-- stamped its stamp.
pub record SaysSame (g h : Layout) (from to : Image) (d e : Document) : Type 0 where
  pub id : e.id ≡ d.id
  pub body : e.body ≡ d.body
  pub stamp : Option ℕ
  pub there : IsStampOf g from d.slot stamp
  pub here : IsStampOf h to e.slot stamp

-- The documents of the target say the same as the first ones of the source, in order, and the pairs name their slots.
abbrev pub ArePairs : Layout → Layout → Image → Image → List Document → List Moved → List Document → Type 0
ArePairs g h from to [] [] source = Unit {0}
ArePairs g h from to [] (m ∷ moved) source = ⊥
ArePairs g h from to (e ∷ target) [] source = ⊥
ArePairs g h from to (e ∷ target) (m ∷ moved) [] = ⊥
ArePairs g h from to (e ∷ target) (m ∷ moved) (d ∷ source) =
    SaysSame g h from to d e × (m.old ≡ d.slot) × (m.new ≡ e.slot) × ArePairs g h from to target moved source

-- the documents that these slots hold, in the volumes of two devices, say the same
pub record HoldSame (from to : DeviceState) (old new : ℕ) : Type 0 where
  pub from_layout : Layout
  pub to_layout : Layout
  pub from_volume : IsVolume from.cells from.image from_layout
  pub to_volume : IsVolume to.cells to.image to_layout
  pub d : Document
  pub e : Document
  pub old_is : old ≡ d.slot
  pub new_is : new ≡ e.slot
  pub there : Stands from.cells from.image d.slot d.id d.body
  pub here : Stands to.cells to.image e.slot e.id e.body
  pub same : SaysSame from_layout to_layout from.image to.image d e

-- the documents of each pair do
abbrev pub PairsHold : DeviceState → DeviceState → List Moved → Type 0
PairsHold from to moved = (pair : Moved) → Contains moved pair → HoldSame from to pair.old pair.new

-- those of each pair that is answered do, where both devices tell
abbrev pub AnsweredHold
    : DeviceState → DeviceState → DeviceState → DeviceState → Result (Vec Moved) CopyRefusal → Type 0
AnsweredHold from from' to to' (Ok moved) = IsTrue from.tells → IsTrue to.tells → PairsHold from' to' moved.items
AnsweredHold from from' to to' (Err refusal) = ⊤

-- A pair names the slot of a document of the source; and the same document, where the target tells, stands there in the
-- slot that it names in the target.
pub record HasItsPair (to to' : DeviceState) (moved : List Moved) (d : Document) : Type 0 where
  pub pair : Moved
  pub among : Contains moved pair
  pub old_is : pair.old ≡ d.slot
  pub there : IsTrue to.tells → Stands to'.cells to'.image pair.new d.id d.body

-- Where the source tells, each document that stood there at entry has its pair, whoever else writes: none is left out.
abbrev pub LeavesNoneOut : DeviceState → DeviceState → DeviceState → Result (Vec Moved) CopyRefusal → Type 0
LeavesNoneOut from to to' (Ok moved) =
    IsTrue from.tells → (d : Document) → Stands from.cells from.image d.slot d.id d.body
    → HasItsPair to to' moved.items d
LeavesNoneOut from to to' (Err refusal) = ⊤

-- The pairs that are answered are in order, and none names a slot of the source that another names, whoever writes.
abbrev pub AnsweredRise : Result (Vec Moved) CopyRefusal → Type 0
AnsweredRise (Ok moved) = RiseFrom 0 (old_slots moved.items)
AnsweredRise (Err refusal) = ⊤

-- Two devices hold volumes, and as many first documents of the one as there are pairs say the same as the first ones of
-- the other.
pub record AgreeSoFar (from to : DeviceState) (moved : List Moved) : Type 0 where
  pub from_layout : Layout
  pub to_layout : Layout
  pub from_volume : IsVolume from.cells from.image from_layout
  pub to_volume : IsVolume to.cells to.image to_layout
  pub source : List Document
  pub target : List Document
  pub those : AreDocuments from.cells from.image source
  pub these : AreDocuments to.cells to.image target
  pub some : length moved ≤ length target
  pub pairs : ArePairs from_layout to_layout from.image to.image (take (length moved) target) moved source

-- Nobody else writing, each document of the target has its pair among the first ones of the source; the target is settled,
-- and all of it is sure.
pub record CopiedSoFar (from to : DeviceState) (moved : List Moved) : Type 0 where
  pub agree : AgreeSoFar from to moved
  pub all : length agree.target ≡ length moved
  pub settled : Settled to.cells to.image
  pub sure : IsUnchanged to.image to.sure

-- Each document of the target has its pair, and the next one of the source has this identifier and this body.
pub record IsNextToCopy (from to : DeviceState) (id body : List ℕ) : Type 0 where
  pub moved : List Moved
  pub copied : CopiedSoFar from to moved
  pub next : Document
  pub next_is : slice_get copied.agree.source (length moved) ≡ Some next
  pub id_is : id ≡ next.id
  pub body_is : body ≡ next.body
