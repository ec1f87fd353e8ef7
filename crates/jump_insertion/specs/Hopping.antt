-- What the walk along a list does, partly over planned cells: hops from block to block, and the search for the tail.
use Rattle.std.specs.Prelude.{◌≡◌, ◌<◌, ◌≤◌, ◌+◌, ◌⊎◌, ℕ, List, Option, Some, None, Result, Ok, Err, IsTrue, ⊤}
use Rattle.cell_types.specs.Image.{Image}
use Rattle.cell_types.specs.Records.{record_bytes}
use Rattle.cell_types.specs.declared.refusal.Fault.{Fault}
use Rattle.cell_types.specs.declared.refusal.Fault.TheVariants.{Tampered, Failed}
use Rattle.volume_meaning.specs.Blocks.{PostingFields, posting_record, InSpan, Trail, Leads, pointer_at}
use Rattle.volume_meaning.specs.Nodes.{AreApart}
use Rattle.tamper_rules.specs.declared.numbers.TheConstants.{FAKE_POSTING, LOST_POINTER}
use Rattle.worm_device.specs.Counts.{IsStill, Rose}
use Rattle.worm_device.specs.Views.{ViewState, Viewed}
use Rattle.jump_block.specs.Entries.{cell_of, posting_of}
use Rattle.jump_block.specs.Pointers.{IsNoJump}
use Rattle.jump_block.specs.Spans.{IsSpan}
use Rattle.jump_block.specs.declared.held_entry.Entry.{Entry}
use Rattle.jump_block.specs.declared.spans.Span.{Span}
use Rattle.jump_block.specs.Pointing.{HasPointer, IsPointerPlace}
use Rattle.jump_insertion.specs.Evidence.{ShowsBelow}
use Rattle.jump_insertion.specs.Growing.{RisesInFront, IsTop, EndsTrailAt, EndsAtFull}
use Rattle.jump_insertion.specs.Readiness.{IsOwnBlock, IsBlockReached, IsListCell, IsReadyList}
use Rattle.jump_insertion.specs.declared.entries.Spot.{Spot}

-- why a step of an insertion gives no answer: a fault of the device, or evidence
abbrev pub HopFaultEnds : ℕ → ℕ → ℕ → ViewState → ViewState → Fault → Type 0
HopFaultEnds head floor key old new Failed = Rose old.base.faults new.base.faults
HopFaultEnds head floor key old new (Tampered e) = IsTrue old.base.tells → ShowsBelow new head floor key e

-- an insertion may go on at this block
pub record IsAt (s : ViewState) (head floor next key block : ℕ) : Type 0 where
  pub ready : IsReadyList s head floor next key
  pub own_block : IsOwnBlock s head block
  pub reached : IsBlockReached s head floor block

-- the pointer in this cell of the block stands below, and so does the block that it leads to
pub record IsOldHop (s : ViewState) (head floor block cell target : ℕ) : Type 0 where
  pub to : target + 256 ≤ s.fresh
  pub free : s.planned cell ≡ None
  pub before : cell < s.fresh
  pub leads : Leads s.lower floor s.fresh block head

-- the span's pointer leads on to the target, where an insertion may go on
pub record IsHop (s : ViewState) (head floor next key block : ℕ) (span : Span) (target : ℕ) : Type 0 where
  pub own_block : IsOwnBlock s head target
  pub reached : IsBlockReached s head floor target
  pub pointer : IsListCell s head floor next key (pointer_at block span.level span.digit) block
      ⊎ IsOldHop s head floor block (pointer_at block span.level span.digit) target

-- the target lies in the pool, and an insertion may go on there; or the pointer is evidence
abbrev pub TargetCheckEnds : ℕ → ℕ → ℕ → ℕ → ℕ → Span → ℕ → ViewState → Result Unit Fault → Type 0
TargetCheckEnds head floor next key block span target s (Ok done) =
    (floor ≤ target) × (target + 256 ≤ next)
    × (IsTrue s.base.tells → IsHop s head floor next key block span target)
TargetCheckEnds head floor next key block span target s (Err Failed) = ⊥
TargetCheckEnds head floor next key block span target s (Err (Tampered e)) =
    IsTrue s.base.tells → ShowsBelow s head floor key e

-- the fault names this posting
abbrev pub IsLateEvidence : Entry → Fault → Type 0
IsLateEvidence entry Failed = ⊥
IsLateEvidence entry (Tampered e) =
    (e.rule ≡ FAKE_POSTING) × (e.cell ≡ cell_of entry)
    × (e.found ≡ record_bytes (posting_record (posting_of entry)) (cell_of entry))

-- the pointers of the spans of these keys are blank
abbrev pub BlankFrom : Image → ℕ → ℕ → ℕ → ℕ → Type 0
BlankFrom image block l from bound =
    (key level digit : ℕ) → from ≤ key → key < bound → InSpan l level digit key
    → image (pointer_at block level digit) ≡ None

-- the greatest written pointer of a full block whose span begins below the bound
pub record IsGreatestPointer (block l bound : ℕ) (old new : ViewState) (span : Span) (target : ℕ) : Type 0 where
  pub is : IsSpan l span
  pub below : span.low < bound
  pub led : IsTrue old.base.tells → HasPointer new.image block span.level span.digit target
  pub blank : IsTrue old.base.tells → BlankFrom old.image block l span.high bound

-- a written pointer of the block is no jump cell
pub record IsNoPointer (block : ℕ) (new : ViewState) (cell : ℕ) (found : List ℕ) : Type 0 where
  pub level : ℕ
  pub digit : ℕ
  pub place : IsPointerPlace level digit
  pub at : cell ≡ pointer_at block level digit
  pub bad : IsNoJump new.image (pointer_at block level digit) found

-- the greatest written pointer, or none below the bound; or a written one that is no jump cell
abbrev pub GreatestEnds : ℕ → ℕ → ℕ → ViewState → ViewState → Result (Option (Span × ℕ)) Fault → Type 0
GreatestEnds block l bound old new (Ok (Some found)) = IsGreatestPointer block l bound old new found.0 found.1
GreatestEnds block l bound old new (Ok None) = IsTrue old.base.tells → BlankFrom old.image block l 0 bound
GreatestEnds block l bound old new (Err Failed) = Rose old.base.faults new.base.faults
GreatestEnds block l bound old new (Err (Tampered e)) =
    (e.rule ≡ LOST_POINTER) × (IsTrue old.base.tells → IsNoPointer block new e.cell e.found)

-- the search for the greatest pointer of a block
pub record FindsGreatest (block l bound : ℕ) (old new : ViewState) (result : Result (Option (Span × ℕ)) Fault)
    : Type 0 where
  pub viewed : Viewed old new
  pub ends : GreatestEnds block l bound old new result

-- A posting may go to this place of a block of the list, and a pointer to it into the home: the place is blank, behind a
-- smaller key.
pub record IsSpot (s : ViewState) (head floor key home block place : ℕ) : Type 0 where
  pub own_block : IsOwnBlock s head block
  pub reached : IsBlockReached s head floor block
  pub apart : (block ≡ home) ⊎ AreApart block 256 home 256
  pub blank : s.image (block + place) ≡ None
  pub rises : RisesInFront s.image block place key

-- the list's tail has a blank place, or is full
abbrev pub TailEnds : ℕ → ℕ → ℕ → ℕ → ℕ → ViewState → ViewState → Result (Option Spot) Fault → Type 0
TailEnds head floor next key home old new (Ok None) = ⊤
TailEnds head floor next key home old new (Ok (Some spot)) =
    (spot.place < 128) × (floor ≤ spot.block) × (spot.block + 256 ≤ next)
    × (IsTrue old.base.tells → IsSpot new head floor key home spot.block spot.place)
TailEnds head floor next key home old new (Err fault) = HopFaultEnds head floor key old new fault

-- the search for a list's tail
pub record FindsTail (head floor next key home : ℕ) (old new : ViewState) (result : Result (Option Spot) Fault)
    : Type 0 where
  pub viewed : Viewed old new
  pub ends : TailEnds head floor next key home old new result

-- the block with a blank place is behind the block at which the search began
abbrev pub TailLeads : ℕ → ℕ → ℕ → ViewState → ViewState → Result (Option Spot) Fault → Type 0
TailLeads floor next block old new (Ok (Some spot)) = IsTrue old.base.tells
    → Leads new.image floor next spot.block block
TailLeads floor next block old new (Ok None) = ⊤
TailLeads floor next block old new (Err fault) = ⊤

-- Where nobody else wrote, the tail is the block at which the trail of the list's greatest key ends; there is none where
-- that block is full.
abbrev pub TailLast : ℕ → ℕ → ℕ → ℕ → ViewState → ViewState → Result (Option Spot) Fault → Type 0
TailLast floor next block bound old new (Ok (Some spot)) =
    IsTrue old.base.tells → IsStill old.base.foreign_writes new.base.foreign_writes
    → (head at : ℕ) (q : PostingFields) → IsTop old.image floor next head q → Leads old.image floor next block head
    → q.key < bound → Trail old.image floor next at q block → EndsTrailAt old.image floor next at q spot.block block
TailLast floor next block bound old new (Ok None) =
    IsTrue old.base.tells → IsStill old.base.foreign_writes new.base.foreign_writes
    → (head at : ℕ) (q : PostingFields) → IsTop old.image floor next head q → Leads old.image floor next block head
    → q.key < bound → Trail old.image floor next at q block → EndsAtFull old.image floor next at q block
TailLast floor next block bound old new (Err fault) = ⊤
