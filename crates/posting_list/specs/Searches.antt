-- What the searches of a term's list answer.
use Rattle.std.specs.Prelude.{◌≡◌, ◌<◌, ◌≤◌, ◌+◌, ◌/◌, ◌%◌, ◌^◌, min, ℕ, Bool, Option, Some, None, Result, Ok, Err, IsTrue}
use Rattle.cell_types.specs.Layout.{list_at}
use Rattle.cell_types.specs.Records.{record_bytes}
use Rattle.cell_types.specs.declared.geometry.TheConstants.{MAX_SLOTS}
use Rattle.cell_types.specs.declared.refusal.Fault.{Fault}
use Rattle.cell_types.specs.declared.refusal.Fault.TheVariants.{Tampered, Failed}
use Rattle.volume_meaning.specs.Slots.{IsDoneSlot, IsHorizon, IsLive}
use Rattle.volume_meaning.specs.Blocks.{PostingFields, posting_record}
use Rattle.tamper_rules.specs.declared.numbers.TheConstants.{FAKE_POSTING}
use Rattle.worm_device.specs.Counts.{IsStill}
use Rattle.worm_device.specs.Views.{ViewState, Viewed}
use Rattle.document_store.specs.Looks.{HasPart}
use Rattle.document_store.specs.declared.part.Part.{Part}
use Rattle.jump_block.specs.Entries.{cell_of, posting_of}
use Rattle.jump_block.specs.declared.held_entry.Entry.{Entry}
use Rattle.jump_index.specs.Searches.{HasBoundedTrail, IsEntryBehind}
use Rattle.jump_index.specs.declared.bounds.Bounds.{Bounds}
use Rattle.posting_list.specs.Naming.{FaultSays}
use Rattle.posting_list.specs.Owing.{HasPosting, IsLiveSlot, IsSlotOwed, IsVouched}
use Rattle.posting_list.specs.declared.next_slot.Landed.{Landed}
use Rattle.posting_list.specs.declared.reach.Reach.{Reach}
use Rattle.posting_list.specs.declared.sought_term.SoughtTerm.{SoughtTerm}

-- the bounds, as far as the volume's cells go
abbrev pub within : Reach → Bounds
within r = record { pool = r.bounds.pool; edge = min r.bounds.edge r.volume.geometry.cells }

-- where the list's first block begins
abbrev pub head_of : Reach → ℕ → ℕ
head_of r list = list_at r.volume.geometry list

-- Whether a slot is live, and where its document lies then. It is done where there is a part; where there is none, it
-- isn't live by this horizon.
abbrev pub LiveEnds : Reach → ℕ → ViewState → ViewState → Result (Option Part) Fault → Type 0
LiveEnds r slot old new (Ok (Some part)) =
    (slot < r.horizon) × (slot < r.volume.geometry.slots)
    × (IsTrue old.base.tells → IsDoneSlot r.volume.geometry new.image slot) × (part.slot ≡ slot)
    × HasPart r.volume.geometry new part
LiveEnds r slot old new (Ok None) =
    IsTrue old.base.tells → IsStill old.base.foreign_writes new.base.foreign_writes
    → IsHorizon r.volume.geometry new.image new.image r.horizon → IsLive r.volume.geometry new.image slot → ⊥
LiveEnds r slot old new (Err fault) = FaultSays r old new fault

pub record LooksLive (r : Reach) (slot : ℕ) (old new : ViewState) (result : Result (Option Part) Fault) : Type 0 where
  pub viewed : Viewed old new
  pub ends : LiveEnds r slot old new result

-- the fault names this posting as a false one
abbrev pub IsFalsePosting : Entry → Fault → Type 0
IsFalsePosting entry Failed = ⊥
IsFalsePosting entry (Tampered e) =
    (e.rule ≡ FAKE_POSTING) × (e.cell ≡ cell_of entry)
    × (e.found ≡ record_bytes (posting_record (posting_of entry)) (cell_of entry))

-- the entry stands in a list of words
pub record IsWordEntry (r : Reach) (s : ViewState) (e : Entry) : Type 0 where
  pub list : ℕ
  pub words : list < r.volume.geometry.lists
  pub behind : IsTrue s.base.tells → IsEntryBehind (within r) s.image (head_of r list) e

-- Where the document of an entry's slot lies, which is live then.
abbrev pub PostingPartEnds : Reach → Entry → ViewState → ViewState → Result Part Fault → Type 0
PostingPartEnds r e old new (Ok part) =
    (part.slot ≡ e.key / 256) × IsLiveSlot r new part.slot × HasPart r.volume.geometry new part
PostingPartEnds r e old new (Err fault) = FaultSays r old new fault

pub record HasPostingPart (r : Reach) (e : Entry) (old new : ViewState) (result : Result Part Fault) : Type 0 where
  pub viewed : Viewed old new
  pub ends : PostingPartEnds r e old new result

-- the slot was looked at: it is live, and there its document lies
pub record IsLookedAt (r : Reach) (s : ViewState) (slot : ℕ) (part : Part) : Type 0 where
  pub same : part.slot ≡ slot
  pub live : IsLiveSlot r s slot
  pub has : HasPart r.volume.geometry s part

-- a slot need be looked at only where the list vouches for it, or always
abbrev pub IsLandedPart : Reach → Bool → ViewState → ℕ → Bool → Option Part → Type 0
IsLandedPart r always s slot vouched (Some part) = IsLookedAt r s slot part
IsLandedPart r always s slot vouched None = (IsTrue vouched → ⊥) × (IsTrue always → ⊥)

-- The next slot of a term's list at or past one. No slot that must not be passed lies between, and the list vouches for
-- it where that is said.
abbrev pub NextSlotEnds : Reach → SoughtTerm → ℕ → Bool → ViewState → ViewState → Result (Option Landed) Fault → Type 0
NextSlotEnds r term from always old new (Ok (Some n)) =
    (from ≤ n.slot) × (n.slot < MAX_SLOTS)
    × ((slot : ℕ) → IsSlotOwed r term old slot → from ≤ slot → n.slot ≤ slot)
    × (IsTrue old.base.tells → HasPosting r term new.image n.slot)
    × (IsTrue n.vouched → IsTrue old.base.tells → IsVouched r term new.image n.slot)
    × IsLandedPart r always new n.slot n.vouched n.part
NextSlotEnds r term from always old new (Ok None) = (slot : ℕ) → IsSlotOwed r term old slot → from ≤ slot → ⊥
NextSlotEnds r term from always old new (Err fault) = FaultSays r old new fault

pub record NextSlot (r : Reach) (term : SoughtTerm) (from : ℕ) (always : Bool) (old new : ViewState)
    (result : Result (Option Landed) Fault) : Type 0 where
  pub viewed : Viewed old new
  pub ends : NextSlotEnds r term from always old new result

-- the entry can be written as a cell
abbrev pub IsCellEntry : Entry → Type 0
IsCellEntry e = (e.block + e.place < 2 ^ 32) × (e.key % 256 ≤ e.last)

-- The posting of a key, if any: one with this key that has a trail is this one.
abbrev pub ProbeEnds : Reach → ℕ → ℕ → ViewState → ViewState → Result (Option Entry) Fault → Type 0
ProbeEnds r list key old new (Ok (Some e)) =
    (e.key ≡ key) × IsCellEntry e
    × (IsTrue old.base.tells → IsEntryBehind (within r) new.image (head_of r list) e
    × ((at : ℕ) (p : PostingFields) → HasBoundedTrail r.bounds old (head_of r list) at p → p.key ≡ key
    → p ≡ posting_of e))
ProbeEnds r list key old new (Ok None) =
    IsTrue old.base.tells → (at : ℕ) (p : PostingFields) → HasBoundedTrail r.bounds old (head_of r list) at p
    → p.key ≡ key → ⊥
ProbeEnds r list key old new (Err fault) = FaultSays r old new fault

pub record Probes (r : Reach) (list key : ℕ) (old new : ViewState) (result : Result (Option Entry) Fault) : Type 0 where
  pub viewed : Viewed old new
  pub ends : ProbeEnds r list key old new result

-- the term's posting of a slot, if its list has one: it has one of each slot that it must not pass
abbrev pub FindPostingEnds : Reach → SoughtTerm → ℕ → ViewState → ViewState → Result (Option Entry) Fault → Type 0
FindPostingEnds r term slot old new (Ok (Some e)) =
    (e.key / 256 ≡ slot) × (e.tag ≡ term.tag) × IsCellEntry e
    × (IsTrue old.base.tells → IsEntryBehind (within r) new.image (head_of r term.list) e)
FindPostingEnds r term slot old new (Ok None) = IsSlotOwed r term old slot → ⊥
FindPostingEnds r term slot old new (Err fault) = FaultSays r old new fault

pub record FindsPosting (r : Reach) (term : SoughtTerm) (slot : ℕ) (old new : ViewState)
    (result : Result (Option Entry) Fault) : Type 0 where
  pub viewed : Viewed old new
  pub ends : FindPostingEnds r term slot old new result

-- whether a term's list has a slot
abbrev pub HasSlotEnds : Reach → SoughtTerm → ℕ → ViewState → ViewState → Result Bool Fault → Type 0
HasSlotEnds r term slot old new (Ok there) =
    (IsSlotOwed r term old slot → IsTrue there)
    × (IsTrue there → IsTrue old.base.tells → IsVouched r term new.image slot)
HasSlotEnds r term slot old new (Err fault) = FaultSays r old new fault

pub record HasSlot (r : Reach) (term : SoughtTerm) (slot : ℕ) (old new : ViewState) (result : Result Bool Fault)
    : Type 0 where
  pub viewed : Viewed old new
  pub ends : HasSlotEnds r term slot old new result

-- and where the document of one that it has lies, which is live
abbrev pub ConfirmSlotEnds : Reach → SoughtTerm → ℕ → ViewState → ViewState → Result (Option Part) Fault → Type 0
ConfirmSlotEnds r term slot old new (Ok (Some part)) =
    (IsTrue old.base.tells → IsVouched r term new.image slot) × IsLookedAt r new slot part
ConfirmSlotEnds r term slot old new (Ok None) = IsSlotOwed r term old slot → ⊥
ConfirmSlotEnds r term slot old new (Err fault) = FaultSays r old new fault

pub record ConfirmsSlot (r : Reach) (term : SoughtTerm) (slot : ℕ) (old new : ViewState)
    (result : Result (Option Part) Fault) : Type 0 where
  pub viewed : Viewed old new
  pub ends : ConfirmSlotEnds r term slot old new result
