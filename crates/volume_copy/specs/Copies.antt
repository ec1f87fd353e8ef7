-- What it means that a volume is copied, or why it is not. The states are those of the source, before and after, and of the
-- target.
use Rattle.std.specs.Prelude.{◌≡◌, ℕ, List, [], ◌∷◌, length, slice_get, Contains, Option, Some, None, Result, Ok, Err, IsTrue, ⊤}
use Rattle.std.specs.Global.{Vec}
use Rattle.cell_types.specs.Image.{Image, IsUnchanged}
use Rattle.cell_types.specs.Layout.{Layout}
use Rattle.cell_types.specs.Records.{IsRecordCell}
use Rattle.cell_types.specs.declared.refusal.CopyRefusal.{CopyRefusal}
use Rattle.cell_types.specs.declared.refusal.CopyRefusal.TheVariants.{Differs, From, Longer, NoMemory, OtherVolume, To}
use Rattle.cell_types.specs.declared.refusal.Refusal.{Refusal}
use Rattle.cell_types.specs.declared.refusal.Refusal.TheVariants as refusals
use Rattle.volume_meaning.specs.Documents.{AreDocuments, Document, Stands}
use Rattle.volume_meaning.specs.Slots.{IsStampOf}
use Rattle.volume_meaning.specs.Volumes.{IsVolume, volume_record}
use Rattle.volume_meaning.specs.Keeping.{Kept}
use Rattle.tamper_rules.specs.Settling.{Settled}
use Rattle.worm_device.specs.Calls.{Called}
use Rattle.worm_device.specs.Counts.{IsStill, Rose}
use Rattle.worm_device.specs.State.{DeviceState, LeftSince}
use Rattle.document_store.specs.Standing.{HoldsDocument}
use Rattle.ingest_engine.specs.Formats.{Formats}
use Rattle.ingest_engine.specs.Ingesting.{Ingests, document_in}
use Rattle.crash_laws.specs.SettlingSteadiness.{IsSteady}
use Rattle.volume_copy.specs.Auditing.{RefusesVolume}
use Rattle.volume_copy.specs.Alone.{AreAlone}
use Rattle.volume_copy.specs.Completing.{EndsUnhindered, IsCopyUnhindered}
use Rattle.volume_copy.specs.First.{HoldsFirst, IsSourceImage}
use Rattle.volume_copy.specs.Pairs.{AgreeSoFar, AnsweredHold, AnsweredRise, ArePairs, IsNextToCopy, LeavesNoneOut, SaysSame}
use Rattle.volume_copy.specs.Staying.{IsHeldThroughout, IsSoundThroughout}
use Rattle.volume_copy.specs.declared.moved.Moved.{Moved}

-- a volume of the target has so many slots and lists, and the version of this one of the source
pub record HasNumbers (slots lists : ℕ) (g h : Layout) : Type 0 where
  pub slots_are : h.slots ≡ slots
  pub lists_are : h.lists ≡ lists
  pub version_is : h.version ≡ g.version

-- The source is a volume of this version, where it tells.
abbrev pub IsOfVersion : DeviceState → ℕ → Type 0
IsOfVersion from version = IsTrue from.tells → (g : Layout) × IsVolume from.cells from.image g × (g.version ≡ version)

-- Both volumes are settled, and all of the target is sure; its documents say the same as those of the source, in order, and
-- the pairs name their slots.
pub record CopiesWhole (slots lists : ℕ) (from to : DeviceState) (moved : List Moved) : Type 0 where
  pub from_layout : Layout
  pub to_layout : Layout
  pub from_volume : IsVolume from.cells from.image from_layout
  pub to_volume : IsVolume to.cells to.sure to_layout
  pub numbers : HasNumbers slots lists from_layout to_layout
  pub from_settled : Settled from.cells from.image
  pub settled : Settled to.cells to.sure
  pub sure : IsUnchanged to.image to.sure
  pub source : List Document
  pub target : List Document
  pub those : AreDocuments from.cells from.image source
  pub these : AreDocuments to.cells to.sure target
  pub whole : length target ≡ length source
  pub pairs : ArePairs from_layout to_layout from.image to.sure target moved source

-- a document of the source is kept in the target, for sure, in the slot of its pair
pub record IsKeptThere (to : DeviceState) (moved : List Moved) (d : Document) : Type 0 where
  pub pair : Moved
  pub among : Contains moved pair
  pub old_is : pair.old ≡ d.slot
  pub kept : Kept to.cells to.sure (document_in pair.new d.id d.body ∷ [])

-- each document that was kept at the beginning is kept in the target
abbrev pub KeepsAll : DeviceState → DeviceState → List Moved → Type 0
KeepsAll from to' moved =
    (documents : List Document) → Kept from.cells from.image documents → (d : Document) → Contains documents d
    → IsKeptThere to' moved d

-- a volume was copied
pub record HasCopied (slots lists : ℕ) (from from' to' : DeviceState) (moved : List Moved) : Type 0 where
  pub keeps : KeepsAll from to' moved
  pub whole : CopiesWhole slots lists from' to' moved

-- a document of the source, where it tells
pub record IsOfSource (from : DeviceState) (id : List ℕ) (stamp : Option ℕ) (body : List ℕ) : Type 0 where
  pub layout : Layout
  pub volume : IsVolume from.cells from.image layout
  pub slot : ℕ
  pub holds : HoldsDocument layout from.image slot id body
  pub stamped : IsStampOf layout from.image slot stamp

-- Why the target is not written. One whose cell 0 is blank is formatted with these numbers and the source's version, and
-- another is audited and read; then documents of the source are ingested. Where nobody else writes, each document of the
-- target has its pair by then, and the one that is ingested is the next: a target with other documents, or with more, is
-- never refused by an ingest.
pub data RefusesTo (slots lists : ℕ) (from from' old new : DeviceState) (refusal : Refusal) : Type 0 where
  by_look : refusal ≡ refusals.DeviceFault → Rose old.faults new.faults
      → RefusesTo slots lists from from' old new refusal
  by_format : (between : DeviceState) (version : ℕ) → Called old between
      → (IsTrue between.tells → between.image 0 ≡ None) → IsOfVersion from' version
      → Formats (record { slots = slots; lists = lists; cells = between.cells; version = version }) between new (Err refusal)
      → RefusesTo slots lists from from' old new refusal
  by_volume : (between : DeviceState) → Called old between → RefusesVolume between new refusal
      → RefusesTo slots lists from from' old new refusal
  by_ingest : (between : DeviceState) (id : List ℕ) (stamp : Option ℕ) (body : List ℕ) → Called old between
      → (IsTrue from'.tells → IsOfSource from' id stamp body) → (AreAlone from from' old new → IsNextToCopy from' between id body)
      → Ingests id stamp body between new (Err refusal)
      → RefusesTo slots lists from from' old new refusal

-- The target's cell 0 holds a volume cell that states the device's size, and other slots or lists, or another version than
-- the source has. Nothing was written there.
pub record IsOtherVolume (slots lists : ℕ) (from' to to' : DeviceState) (cell : List ℕ) : Type 0 where
  pub only : IsStill to.foreign_writes to'.foreign_writes → IsUnchanged to.image to'.image
  pub stands : IsTrue to'.tells → to'.image 0 ≡ Some cell
  pub layout : Layout
  pub is : IsRecordCell (volume_record layout) 0 cell
  pub size : layout.cells ≡ to'.cells
  pub version : ℕ
  pub of_source : IsOfVersion from' version
  pub other : (layout.slots ≡ slots) × (layout.lists ≡ lists) × (layout.version ≡ version) → ⊥

-- The documents that these slots hold, where both devices tell, do not say the same, whoever else writes.
pub record HoldOthers (from to : DeviceState) (old new : ℕ) : Type 0 where
  pub from_layout : Layout
  pub to_layout : Layout
  pub from_volume : IsVolume from.cells from.image from_layout
  pub to_volume : IsVolume to.cells to.image to_layout
  pub d : Document
  pub e : Document
  pub old_is : old ≡ d.slot
  pub new_is : new ≡ e.slot
  pub there : Stands from.cells from.image d.slot d.id d.body
  pub here : Stands to.cells to.image e.slot e.id e.body
  pub differ : SaysSame from_layout to_layout from.image to.image d e → ⊥

-- the documents of these slots are the first pair, in order, that do not say the same
pub record IsFirstToDiffer (from to : DeviceState) (old new : ℕ) : Type 0 where
  pub moved : List Moved
  pub agree : AgreeSoFar from to moved
  pub d : Document
  pub e : Document
  pub d_at : slice_get agree.source (length moved) ≡ Some d
  pub e_at : slice_get agree.target (length moved) ≡ Some e
  pub old_is : old ≡ d.slot
  pub new_is : new ≡ e.slot
  pub differ : SaysSame agree.from_layout agree.to_layout from.image to.image d e → ⊥

-- each document of the source has its pair, and the target has another behind these, in this slot
pub record IsFirstPast (from to : DeviceState) (new : ℕ) : Type 0 where
  pub moved : List Moved
  pub agree : AgreeSoFar from to moved
  pub all : length moved ≡ length agree.source
  pub e : Document
  pub e_at : slice_get agree.target (length moved) ≡ Some e
  pub new_is : new ≡ e.slot

-- how a copy may end, and why
abbrev pub CopyEnds
    : ℕ → ℕ → DeviceState → DeviceState → DeviceState → DeviceState → Result (Vec Moved) CopyRefusal → Type 0
CopyEnds slots lists from from' to to' (Ok moved) =
    AreAlone from from' to to' → HasCopied slots lists from from' to' moved.items
CopyEnds slots lists from from' to to' (Err (From refusals.NoMemory)) = ⊥
CopyEnds slots lists from from' to to' (Err (From refusal)) = RefusesVolume from from' refusal
CopyEnds slots lists from from' to to' (Err (To refusals.NoMemory)) = ⊥
CopyEnds slots lists from from' to to' (Err (To refusal)) = RefusesTo slots lists from from' to to' refusal
CopyEnds slots lists from from' to to' (Err (OtherVolume cell)) = IsOtherVolume slots lists from' to to' cell
CopyEnds slots lists from from' to to' (Err (Differs old new)) =
    (IsTrue from.tells → IsTrue to.tells → HoldOthers from' to' old new)
    × (AreAlone from from' to to' → IsFirstToDiffer from' to' old new)
CopyEnds slots lists from from' to to' (Err (Longer new)) = AreAlone from from' to to' → IsFirstPast from' to' new
CopyEnds slots lists from from' to to' (Err NoMemory) = ⊤
CopyEnds slots lists from from' to to' (Err refusal) = ⊥

-- The refusal says that the target is another volume, or has other documents than the source.
abbrev pub IsOfTarget : Result (Vec Moved) CopyRefusal → Type 0
IsOfTarget (Ok moved) = ⊥
IsOfTarget (Err (OtherVolume cell)) = ⊤
IsOfTarget (Err (Differs old new)) = ⊤
IsOfTarget (Err (Longer new)) = ⊤
IsOfTarget (Err refusal) = ⊥

-- Whatever a crash could leave of the target, at any moment of the copy, holds the first documents of the source, as it
-- stands at exit or as settling makes it at entry, where nobody else writes, and the target was steady and held such ones
-- at entry.
abbrev pub IsFirstThroughout : DeviceState → DeviceState → DeviceState → DeviceState → Type 0
IsFirstThroughout from from' to to' =
    AreAlone from from' to to' → IsSteady to → (source : Image) → IsSourceImage from from' source
    → HoldsFirst from'.cells source to.cells to.image
    → (image : Image) → LeftSince to' to.moment image → HoldsFirst from'.cells source to.cells image

-- What it means that a volume is copied, or why it is not. Where nobody else writes, what a crash leaves of the source or of
-- the target, from a steady device on, is blank or sound at each moment; the source holds the documents that it held; and
-- the target holds the first ones of the source, so that a copy that was stopped is run again. Whoever else writes, the
-- documents of each pair that is answered stand on both devices and say the same; each document that stood in the source at
-- entry has its pair; and the pairs are in order, each of another slot of the source. A target that is another volume or has
-- other documents keeps just those that it held. A copy that nothing hinders is done, or refused for want of memory or of
-- room.
pub record Copies (slots lists : ℕ) (from from' to to' : DeviceState) (result : Result (Vec Moved) CopyRefusal) : Type 0
  where
    pub from_called : Called from from'
    pub to_called : Called to to'
    pub from_held : IsHeldThroughout from from'
    pub to_sound : IsSoundThroughout to to'
    pub to_first : IsFirstThroughout from from' to to'
    pub same : AnsweredHold from from' to to' result
    pub left_out : LeavesNoneOut from to to' result
    pub in_order : AnsweredRise result
    pub untouched : IsOfTarget result → IsHeldThroughout to to'
    pub complete : IsCopyUnhindered from from' to to' → EndsUnhindered result
    pub ends : CopyEnds slots lists from from' to to' result
