-- How the document of a posting of the time list is read, and what is evidence against the posting.
use Rattle.std.specs.Prelude.{◌≡◌, ◌<◌, ◌≤◌, ◌+◌, ◌⊎◌, IfSome, ℕ, List, length, Option, Some, None, Result, Ok, Err, IsTrue}
use Rattle.cell_types.specs.Image.{Image}
use Rattle.cell_types.specs.Layout.{Layout, pool_at, spare_at}
use Rattle.cell_types.specs.Records.{record_bytes}
use Rattle.cell_types.specs.declared.record_cell.RecordCell.TheVariants.{Stamp}
use Rattle.cell_types.specs.declared.refusal.Evidence.{Evidence}
use Rattle.cell_types.specs.declared.refusal.Fault.{Fault}
use Rattle.cell_types.specs.declared.refusal.Fault.TheVariants as faults
use Rattle.cell_types.specs.declared.refusal.Refusal.{Refusal}
use Rattle.cell_types.specs.declared.refusal.Refusal.TheVariants.{DeviceFault, NoMemory, Tampered}
use Rattle.volume_meaning.specs.Slots.{HasStamp, IsHorizon, cells_for}
use Rattle.tamper_rules.specs.Rules.{IsPlaceOf, IsTruePosting}
use Rattle.tamper_rules.specs.declared.numbers.TheConstants.{BROKEN_DOCUMENT, STRAY_CELL}
use Rattle.worm_device.specs.Counts.{IsStill, Rose}
use Rattle.worm_device.specs.Views.{ViewState, Viewed}
use Rattle.document_store.specs.Looks.{IsPartOf, IsStated, LookRefuses}
use Rattle.document_store.specs.Standing.{HoldsDocument}
use Rattle.document_store.specs.declared.part.Part.{Part}
use Rattle.jump_block.specs.Entries.{posting_of}
use Rattle.jump_block.specs.declared.held_entry.Entry.{Entry}
use Rattle.posting_list.specs.Naming.{IsListRule, ShowsListEvidence}
use Rattle.posting_list.specs.declared.reach.Reach.{Reach}
use Rattle.time_index.specs.Postings.{slot_named}
use Rattle.time_index.specs.declared.found.TimeMatch.{TimeMatch}
use Rattle.time_index.specs.declared.matching.Stamped.{Stamped}

-- the rules that a search by time names: those of lists, that a document is whole, and that stamps rise
abbrev pub IsTimeRule : ℕ → Type 0
IsTimeRule number = IsListRule number ⊎ (number ≡ BROKEN_DOCUMENT) ⊎ (number ≡ STRAY_CELL)

-- the evidence is by a rule of a search by time and stands there, and where the bounds begin at the pool's start, in a
-- place of its rule
pub record IsTimeEvidence (r : Reach) (image : Image) (e : Evidence) : Type 0 where
  pub rule : IsTimeRule e.rule
  pub stands : image e.cell ≡ Some e.found
  pub place : r.bounds.pool ≡ pool_at r.volume.geometry → IsPlaceOf r.volume.geometry e.rule e.cell

-- Why there is no answer: a read failed, or this is evidence that may be named, and that is shown where nobody else
-- wrote.
abbrev pub TimeFault : Reach → ViewState → ViewState → Fault → Type 0
TimeFault r old new faults.Failed = Rose old.base.faults new.base.faults
TimeFault r old new (faults.Tampered e) =
    (IsTrue old.base.tells → IsTimeEvidence r new.image e)
    × (IsStill old.base.foreign_writes new.base.foreign_writes → ShowsListEvidence r new e)

-- the same, as a command refuses; want of memory has a cause of its own
abbrev pub TimeRefuses : Reach → ViewState → ViewState → Refusal → Type 0
TimeRefuses r old new DeviceFault = TimeFault r old new faults.Failed
TimeRefuses r old new (Tampered e) = TimeFault r old new (faults.Tampered e)
TimeRefuses r old new refusal = ⊥

-- How a look for the document of a posting's slot may end, and why. There is one where the slot lies below the horizon, is
-- done, and has the posting's stamp; where there is none, the posting is no true one by this horizon.
abbrev pub StampedPartEnds : Reach → Entry → ViewState → ViewState → Result (Option Part) Fault → Type 0
StampedPartEnds r e old new (Ok (Some part)) =
    (part.slot ≡ slot_named (posting_of e)) × (part.slot < r.volume.geometry.slots)
    × (part.start + cells_for part.bytes ≤ r.volume.geometry.cells) × IsStated part
    × (IsTrue old.base.tells → IsPartOf r.volume.geometry new.image part.slot part
    × HasStamp new.image part.slot e.key) × (part.slot < r.horizon)
StampedPartEnds r e old new (Ok None) =
    IsStill old.base.foreign_writes new.base.foreign_writes → IsTrue new.base.tells
    → IsHorizon r.volume.geometry new.image new.image r.horizon
    → IsTruePosting r.volume.geometry new.image r.volume.geometry.lists (posting_of e) → ⊥
StampedPartEnds r e old new (Err fault) = TimeFault r old new fault

-- this slot of the volume has a stamp before this one
pub record IsEarlier (g : Layout) (s : ViewState) (seconds : ℕ) (before : Stamped) : Type 0 where
  pub slot : before.slot < g.slots
  pub less : before.seconds < seconds
  pub stamp : IsTrue s.base.tells → HasStamp s.image before.slot before.seconds

-- the stamp cell of a slot, as evidence that a lower slot has a greater stamp
abbrev pub stamp_breach : Stamped → Fault
stamp_breach late = faults.Tampered (record {
  rule = STRAY_CELL;
  cell = spare_at late.slot;
  found = record_bytes (Stamp late.seconds) (spare_at late.slot);
})

-- how looking whether a slot lies below the one before may end
abbrev pub OrderEnds : Option Stamped → ℕ → Result Unit Fault → Type 0
OrderEnds before slot (Ok u) = IfSome before (λ b. b.slot ≤ slot)
OrderEnds before slot (Err fault) = (late : Stamped) × (before ≡ Some late) × (slot < late.slot) × (fault ≡ stamp_breach late)

-- the match tells of a document that its slot holds, and of the slot's stamp
pub record IsTimeMatchIn (g : Layout) (image : Image) (m : TimeMatch) : Type 0 where
  pub body : List ℕ
  pub holds : HoldsDocument g image m.slot m.identifier body
  pub bytes_is : m.bytes ≡ length body
  pub stamp : HasStamp image m.slot m.seconds

-- in how many cells the document of a match is stored: a byte that says how long the identifier is, it, and the body
abbrev pub cells_of : TimeMatch → ℕ
cells_of m = cells_for (length m.identifier + m.bytes + 1)

-- the match is the document of this posting, and its slot lies behind that of an earlier one, if there is an earlier one
pub record IsMatchOf (r : Reach) (e : Entry) (before : Option Stamped) (old new : ViewState) (m : TimeMatch) : Type 0 where
  pub slot : m.slot < r.volume.geometry.slots
  pub below : m.slot < r.horizon
  pub seconds : m.seconds ≡ e.key
  pub slot_is : m.slot ≡ slot_named (posting_of e)
  pub is : IsTrue old.base.tells → IsTimeMatchIn r.volume.geometry new.image m
  pub later : IsTrue old.base.tells → IfSome before (λ b. b.slot < m.slot)
  pub reads : new.base.reads ≤ old.base.reads + 5 + cells_of m

-- Memory was wanted for a match: a document that its slot holds, below the horizon, with a stamp from one time to another.
pub record WantsTimeMatch (r : Reach) (image : Image) (from to : ℕ) : Type 0 where
  pub wanted : TimeMatch
  pub is : IsTimeMatchIn r.volume.geometry image wanted
  pub below : wanted.slot < r.horizon
  pub from_is : from ≤ wanted.seconds
  pub to_is : wanted.seconds ≤ to

-- how reading the document of a posting may end, and why
abbrev pub MatchTimeEnds : Reach → Entry → Option Stamped → ViewState → ViewState → Result TimeMatch Refusal → Type 0
MatchTimeEnds r e before old new (Ok m) = IsMatchOf r e before old new m
MatchTimeEnds r e before old new (Err NoMemory) = IsTrue old.base.tells → WantsTimeMatch r new.image e.key e.key
MatchTimeEnds r e before old new (Err refusal) = TimeRefuses r old new refusal

pub record ReadsMatch (r : Reach) (e : Entry) (before : Option Stamped) (old new : ViewState)
    (result : Result TimeMatch Refusal) : Type 0 where
  pub viewed : Viewed old new
  pub ends : MatchTimeEnds r e before old new result

-- the match is the document of this part, with this stamp
pub record IsReadMatch (g : Layout) (part : Part) (seconds : ℕ) (old new : ViewState) (m : TimeMatch) : Type 0 where
  pub slot_is : m.slot ≡ part.slot
  pub seconds_is : m.seconds ≡ seconds
  pub is : IsTrue old.base.tells → IsTimeMatchIn g new.image m
  pub reads : new.base.reads ≤ old.base.reads + cells_of m

-- memory was wanted for the match of this part
pub record WantsPart (g : Layout) (part : Part) (seconds : ℕ) (image : Image) : Type 0 where
  pub wanted : TimeMatch
  pub slot_is : wanted.slot ≡ part.slot
  pub seconds_is : wanted.seconds ≡ seconds
  pub is : IsTimeMatchIn g image wanted

-- how reading a part may end, and why
abbrev pub ReadPartEnds : Layout → Part → ℕ → ViewState → ViewState → Result TimeMatch Refusal → Type 0
ReadPartEnds g part seconds old new (Ok m) = IsReadMatch g part seconds old new m
ReadPartEnds g part seconds old new (Err NoMemory) = IsTrue old.base.tells → WantsPart g part seconds new.image
ReadPartEnds g part seconds old new (Err refusal) = LookRefuses g part.slot old new refusal

pub record ReadsPart (g : Layout) (part : Part) (seconds : ℕ) (old new : ViewState) (result : Result TimeMatch Refusal)
    : Type 0 where
  pub viewed : Viewed old new
  pub ends : ReadPartEnds g part seconds old new result
