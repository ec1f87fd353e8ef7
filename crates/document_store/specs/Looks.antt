-- How looks at the documents of slots may end, and why. Slot n's cells are read one after another while somebody else
-- may write: what a look found written stands in the later of two images, and what it found missing was so in the
-- earlier one.
use Rattle.std.specs.Prelude.{◌≡◌, ◌≤◌, ◌<◌, ◌+◌, ◌⊎◌, ◌↔◌, ℕ, Bool, List, length, take, Option, Some, None, Result, Ok, Err, IsTrue}
use Rattle.std.specs.Global.{Vec}
use Rattle.cell_types.specs.Image.{Image}
use Rattle.cell_types.specs.Layout.{Layout, outcome_at}
use Rattle.cell_types.specs.Records.{IsWellFormed, record_bytes}
use Rattle.cell_types.specs.declared.record_cell.RecordCell.TheVariants.{Commit}
use Rattle.cell_types.specs.declared.refusal.Evidence.{Evidence}
use Rattle.cell_types.specs.declared.refusal.Fault.{Fault}
use Rattle.cell_types.specs.declared.refusal.Fault.TheVariants as faults
use Rattle.cell_types.specs.declared.refusal.Refusal.{Refusal}
use Rattle.cell_types.specs.declared.refusal.Refusal.TheVariants as refusals
use Rattle.volume_meaning.specs.Documents.{document_at}
use Rattle.volume_meaning.specs.Slots.{IsDone, IsDoneSlot, cells_for}
use Rattle.tamper_rules.specs.Rules.{IsPlaceOf}
use Rattle.tamper_rules.specs.declared.numbers.TheConstants.{BROKEN_DOCUMENT}
use Rattle.host_ports.specs.Sinks.{Gets, SinkState}
use Rattle.worm_device.specs.Counts.{Rose}
use Rattle.worm_device.specs.Views.{ViewState}
use Rattle.commit_record.specs.States.{IsOutOfPlace, IsState, stamp_cells}
use Rattle.commit_record.specs.declared.slot.SlotState.{SlotState}
use Rattle.commit_record.specs.declared.slot.SlotState.TheVariants.{Abandoned, Committed, Done, Reserved, Unused}
use Rattle.document_store.specs.Heads.{HasBody, SpellsNone, id_of}
use Rattle.document_store.specs.Putting.{GotFront, GotRest}
use Rattle.document_store.specs.Standing.{HoldsDocument}
use Rattle.document_store.specs.declared.body.BodyFault.{BodyFault}
use Rattle.document_store.specs.declared.body.BodyFault.TheVariants.{ReadFault, SinkFault, Tampered}
use Rattle.document_store.specs.declared.checked.Stored.{Stored}
use Rattle.document_store.specs.declared.head.Head.{Head}
use Rattle.document_store.specs.declared.part.Part.{Part}

-- Slot n is done in the later image, and in the earlier one it held no document: this is its commit cell.
pub record IsBrokenDocument (g : Layout) (n : ℕ) (before after : Image) (e : Evidence) : Type 0 where
  pub rule : e.rule ≡ BROKEN_DOCUMENT
  pub cell : e.cell ≡ outcome_at n
  pub found : after e.cell ≡ Some e.found
  pub done : IsDoneSlot g after n
  pub none : (id body : List ℕ) → HoldsDocument g before n id body → ⊥

-- What evidence of a look at slot n says, where the device below tells its image.
pub data NamesDocument (g : Layout) (n : ℕ) (old new : ViewState) (e : Evidence) : Type 0 where
  -- the slot's cells were seen to be no state
  of_state : IsOutOfPlace g n old new e → NamesDocument g n old new e
  -- its document was seen to be broken
  of_document : IsBrokenDocument g n old.image new.image e → NamesDocument g n old new e

-- why a look at slot n gives no answer
abbrev pub LookFails : Layout → ℕ → ViewState → ViewState → Fault → Type 0
LookFails g n old new faults.Failed = Rose old.base.faults new.base.faults
LookFails g n old new (faults.Tampered e) =
    IsPlaceOf g e.rule e.cell × (new.base.faults ≡ old.base.faults)
    × (IsTrue old.base.tells → NamesDocument g n old new e)

-- the same, as a command refuses
abbrev pub LookRefuses : Layout → ℕ → ViewState → ViewState → Refusal → Type 0
LookRefuses g n old new refusals.DeviceFault = LookFails g n old new faults.Failed
LookRefuses g n old new (refusals.Tampered e) = LookFails g n old new (faults.Tampered e)
LookRefuses g n old new refusal = ⊥

-- slot n is done, and this is the part of its document
pub record IsPartOf (g : Layout) (image : Image) (n : ℕ) (part : Part) : Type 0 where
  pub first : ℕ
  pub reserved : ℕ
  pub done : IsDone g image n first reserved part.bytes part.journal
  pub start_is : part.start ≡ document_at first reserved part.bytes part.journal

-- a commit cell may state the numbers of this part
abbrev pub IsStated : Part → Type 0
IsStated part = IsWellFormed (Commit part.bytes part.journal) (outcome_at part.slot)

-- A part that was found: over every view it is one that a slot of this layout may have, and where the device below tells
-- its image it is the one of the slot that it names.
pub record HasPart (g : Layout) (s : ViewState) (part : Part) : Type 0 where
  pub slot : part.slot < g.slots
  pub inside : part.start + cells_for part.bytes ≤ g.cells
  pub stated : IsStated part
  pub is : IsTrue s.base.tells → IsPartOf g s.image part.slot part

-- the commit cell that states this part's document, as evidence that the document is broken
abbrev pub commit_breach : Part → Fault
commit_breach part = faults.Tampered (record {
  rule = BROKEN_DOCUMENT;
  cell = outcome_at part.slot;
  found = record_bytes (Commit part.bytes part.journal) (outcome_at part.slot);
})

-- the part of slot n's document, by the state of the slot: there is none where it is not done
abbrev pub part_of : ℕ → SlotState → Option Part
part_of n Unused = None
part_of n (Reserved start length) = None
part_of n (Abandoned start length) = None
part_of n (Committed start length bytes journal) = None
part_of n (Done start length bytes journal) = Some (record {
  slot = n;
  start = document_at start length bytes journal;
  bytes = bytes;
  journal = journal;
})

-- slot n is in a state, as seen between two images, and it was not done
pub record IsUndone (g : Layout) (before after : Image) (n : ℕ) : Type 0 where
  pub state : SlotState
  pub is : IsState g before after n state
  pub undone : IsDoneSlot g before n → ⊥

-- how a look for the document's part in slot n may end, and why: there is none exactly where the slot is not done
abbrev pub PartEnds : Layout → ℕ → ViewState → ViewState → Result (Option Part) Fault → Type 0
PartEnds g n old new (Ok (Some part)) =
    (part.slot ≡ n) × (part.start + cells_for part.bytes ≤ g.cells) × (new.base.faults ≡ old.base.faults)
    × (IsTrue old.base.tells → IsPartOf g new.image n part) × IsStated part
PartEnds g n old new (Ok None) =
    (new.base.faults ≡ old.base.faults) × (IsTrue old.base.tells → IsUndone g old.image new.image n)
PartEnds g n old new (Err fault) = LookFails g n old new fault

-- how reading the document of a part may end, and why
abbrev pub ReadDocumentEnds : Layout → Part → ViewState → ViewState → Result Head Fault → Type 0
ReadDocumentEnds g part old new (Ok h) = (new.base.faults ≡ old.base.faults) × HasBody new part.start part.bytes h
ReadDocumentEnds g part old new (Err fault) = LookFails g part.slot old new fault

-- slot n holds a document
pub record HoldsSome (g : Layout) (image : Image) (n : ℕ) : Type 0 where
  pub id : List ℕ
  pub body : List ℕ
  pub holds : HoldsDocument g image n id body

-- slot n holds a document with this head
pub record HoldsHead (g : Layout) (image : Image) (n : ℕ) (h : Head) : Type 0 where
  pub body : List ℕ
  pub holds : HoldsDocument g image n (id_of h) body
  pub body_length : h.body_length ≡ length body

-- slot n holds a document, of whose identifier and body these are the numbers of bytes
pub record HasStored (g : Layout) (image : Image) (n : ℕ) (stored : Stored) : Type 0 where
  pub id : List ℕ
  pub body : List ℕ
  pub holds : HoldsDocument g image n id body
  pub identifier_length : stored.identifier_length ≡ length id
  pub body_length : stored.body_length ≡ length body

-- how checking the document of slot n may end, and why
abbrev pub CheckEnds : Layout → ℕ → ViewState → ViewState → Result Stored Fault → Type 0
CheckEnds g n old new (Ok stored) =
    (new.base.faults ≡ old.base.faults) × (IsTrue old.base.tells → HasStored g new.image n stored)
CheckEnds g n old new (Err fault) = LookFails g n old new fault

-- slot n holds a document with this identifier
pub record HoldsIdentifier (g : Layout) (image : Image) (n : ℕ) (id : List ℕ) : Type 0 where
  pub body : List ℕ
  pub holds : HoldsDocument g image n id body

-- how asking for the identifier of slot n's document may end, and why
abbrev pub IdentifierEnds : Layout → ℕ → ViewState → ViewState → Result (Vec ℕ) Refusal → Type 0
IdentifierEnds g n old new (Ok id) =
    (new.base.faults ≡ old.base.faults) × (IsTrue old.base.tells → HoldsIdentifier g new.image n id.items)
IdentifierEnds g n old new (Err refusals.NoMemory) = new.base.faults ≡ old.base.faults
IdentifierEnds g n old new (Err refusal) = LookRefuses g n old new refusal

-- the answer says whether this is the identifier of slot n's document
pub record IsSame (g : Layout) (image : Image) (n : ℕ) (id : List ℕ) (same : Bool) : Type 0 where
  pub own : List ℕ
  pub holds : HoldsIdentifier g image n own
  pub says : IsTrue same ↔ (own ≡ id)

-- how asking whether slot n's document has an identifier may end, and why
abbrev pub SameEnds : Layout → ℕ → List ℕ → ViewState → ViewState → Result Bool Fault → Type 0
SameEnds g n id old new (Ok same) =
    (new.base.faults ≡ old.base.faults) × (IsTrue old.base.tells → IsSame g new.image n id same)
SameEnds g n id old new (Err fault) = LookFails g n old new fault

-- slot n holds a document with this body
pub record HoldsBody (g : Layout) (image : Image) (n : ℕ) (body : List ℕ) : Type 0 where
  pub id : List ℕ
  pub holds : HoldsDocument g image n id body

-- The sink got a body of so many bytes behind what it held: that of slot n's document.
pub record GotBody (g : Layout) (n bytes : ℕ) (new : ViewState) (from to : SinkState) : Type 0 where
  pub body : List ℕ
  pub length_is : bytes ≡ length body
  pub gets : Gets from.held to.held body
  pub holds : IsTrue new.base.tells → HoldsBody g new.image n body

-- The sink got some first bytes of the body of slot n's document behind what it held.
pub record GotPart (g : Layout) (n : ℕ) (new : ViewState) (from to : SinkState) : Type 0 where
  pub body : List ℕ
  pub count : ℕ
  pub most : count ≤ length body
  pub gets : Gets from.held to.held (take count body)
  pub holds : IsTrue new.base.tells → HoldsBody g new.image n body

-- How putting the body of slot n's document into a sink may end, and why. No byte goes out before the whole document
-- was checked.
abbrev pub BodyEnds : Layout → ℕ → ViewState → ViewState → SinkState → SinkState → Result ℕ BodyFault → Type 0
BodyEnds g n old new from to (Ok bytes) =
    (new.base.faults ≡ old.base.faults) × (to.faults ≡ from.faults) × GotBody g n bytes new from to
BodyEnds g n old new from to (Err (Tampered e)) =
    LookFails g n old new (faults.Tampered e) × (to.faults ≡ from.faults)
    × ((to ≡ from) ⊎ GotPart g n new from to) × (IsTrue old.base.tells → to ≡ from)
BodyEnds g n old new from to (Err ReadFault) =
    Rose old.base.faults new.base.faults × (to.faults ≡ from.faults) × ((to ≡ from) ⊎ GotPart g n new from to)
BodyEnds g n old new from to (Err SinkFault) =
    (new.base.faults ≡ old.base.faults) × Rose from.faults to.faults × GotPart g n new from to

-- The document of the part was taken: this is its head, the sink got its body behind what it held, and the part's slot
-- holds it where the device below tells its image.
pub record TakesDocument (g : Layout) (part : Part) (h : Head) (new : ViewState) (from to : SinkState) : Type 0 where
  pub got : GotRest new part.start part.bytes h from to
  pub holds : IsTrue new.base.tells → HoldsDocument g new.image part.slot (id_of h) got.has.body

-- How taking the document of a part may end, and why. Where it is not whole the sink may have got a front of it.
abbrev pub TakeEnds
    : Layout → Part → ViewState → ViewState → SinkState → SinkState → Result Head BodyFault → Type 0
TakeEnds g part old new from to (Ok h) =
    (new.base.faults ≡ old.base.faults) × (to.faults ≡ from.faults) × TakesDocument g part h new from to
TakeEnds g part old new from to (Err (Tampered e)) =
    LookFails g part.slot old new (faults.Tampered e) × (to.faults ≡ from.faults)
    × GotFront new part.start part.bytes from to × (IsTrue old.base.tells → SpellsNone new.image part.start part.bytes)
TakeEnds g part old new from to (Err ReadFault) =
    Rose old.base.faults new.base.faults × (to.faults ≡ from.faults) × GotFront new part.start part.bytes from to
TakeEnds g part old new from to (Err SinkFault) =
    (new.base.faults ≡ old.base.faults) × Rose from.faults to.faults × GotFront new part.start part.bytes from to

-- a call read each cell of slot n's document once at most, and besides the three cells of its state, and its stamp cell
-- where documents are stamped
abbrev pub ReadsOnce : Layout → ℕ → ViewState → ViewState → Type 0
ReadsOnce g n old new =
    IsTrue old.base.tells → (start reserved bytes journal : ℕ) → IsDone g new.image n start reserved bytes journal
    → new.base.reads ≤ old.base.reads + cells_for bytes + (3 + stamp_cells g)
