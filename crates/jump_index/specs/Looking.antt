-- What the parts of a search do: a look into one block, a look behind its later pointers, and a search from a block.
use Rattle.std.specs.Prelude.{◌≡◌, ◌<◌, ◌≤◌, ◌+◌, ◌*◌, ◌^◌, ℕ, Option, Some, None, Result, Ok, Err, IsTrue, ⊤}
use Rattle.cell_types.specs.declared.refusal.Fault.{Fault}
use Rattle.cell_types.specs.declared.refusal.Fault.TheVariants.{Tampered, Failed}
use Rattle.tamper_rules.specs.declared.numbers.TheConstants.{BLOCK_OUT_OF_ORDER}
use Rattle.volume_meaning.specs.declared.blocks.TheConstants.{BLOCK_CELLS}
use Rattle.volume_meaning.specs.Blocks.{PostingFields, InFront, pointer_at}
use Rattle.worm_device.specs.Counts.{Rose}
use Rattle.worm_device.specs.Views.{ViewState, Viewed}
use Rattle.jump_block.specs.Entries.{IsNoPosting}
use Rattle.jump_block.specs.declared.held_entry.Entry.{Entry}
use Rattle.jump_block.specs.declared.spans.Span.{Span}
use Rattle.jump_block.specs.Pointing.{HasKeyIn, HasFull, HasPointer}
use Rattle.jump_block.specs.Spans.{IsSpan}
use Rattle.jump_index.specs.Evidence.{FaultShows}
use Rattle.jump_index.specs.Keeping.{IsHopKept}
use Rattle.jump_index.specs.Searches.{HasBoundedTrail, IsListEntry, IsEntryBehind, IsExact, IsFirstEntry}
use Rattle.jump_index.specs.declared.bounds.Bounds.{Bounds}
use Rattle.jump_index.specs.declared.kept_hops.KeptHop.{KeptHop}
use Rattle.jump_index.specs.declared.kept_hops.Reached.{Reached}
use Rattle.jump_index.specs.declared.kept_hops.Tried.{Tried}
use Rattle.jump_index.specs.declared.looked.Here.{Here}
use Rattle.jump_index.specs.declared.looked.Here.TheVariants.{Ends, Beyond}
use Rattle.jump_index.specs.declared.looked.Looked.{Looked}
use Rattle.jump_index.specs.declared.looked.Looked.TheVariants.{Found, Nothing, NoKey}

-- A search for the key x may go on from the block that was reached.
pub record MaySearch (bounds : Bounds) (x : ℕ) (reached : Reached) (s : ViewState) : Type 0 where
  -- the device has the block
  pub inside : reached.block + BLOCK_CELLS ≤ s.cells
  -- and those to which pointers may lead
  pub edge : bounds.edge ≤ s.cells
  -- the key is one for which the block was reached
  pub from : reached.low ≤ x
  pub below : x < reached.bound
  -- these are no more than those of a pointer of the level
  pub narrow : reached.bound ≤ reached.low + 16 ^ reached.level
  pub level : reached.level ≤ 8

-- The pointers of a block behind a span's may be tried.
pub record MayTry (bounds : Bounds) (tried : Tried) (s : ViewState) : Type 0 where
  -- the device has the block
  pub inside : tried.block + BLOCK_CELLS ≤ s.cells
  -- and those to which pointers may lead
  pub edge : bounds.edge ≤ s.cells
  -- the span is one of a block with this greatest key
  pub span : IsSpan tried.greatest tried.span
  -- and the block is full, and has it
  pub full : IsTrue s.base.tells → HasFull s.image tried.block tried.greatest

-- A hop may be taken.
pub record MayFollow (bounds : Bounds) (hop : KeptHop) (s : ViewState) : Type 0 where
  -- the device has the block in which the pointer stands
  pub inside : hop.block + BLOCK_CELLS ≤ s.cells
  -- and those to which pointers may lead
  pub edge : bounds.edge ≤ s.cells
  -- the span is one of a block with this greatest key, and has a key
  pub span : IsSpan hop.greatest hop.span
  pub below : hop.span.low < 2 ^ 32
  -- the block is full, and its pointer leads to the target
  pub stands : IsTrue s.base.tells → IsHopKept s.image hop

-- no posting with a key from x up to the bound has a trail from the block
abbrev pub PassesNone : Bounds → ℕ → ℕ → ℕ → ViewState → Type 0
PassesNone bounds block x bound s =
    (at : ℕ) (p : PostingFields) → HasBoundedTrail bounds s block at p → x ≤ p.key → p.key < bound → ⊥

-- the entry is no greater than any posting with a trail from the block that has a key at or past this one
abbrev pub IsLeastEntry : Bounds → ℕ → ℕ → ViewState → Entry → Type 0
IsLeastEntry bounds block past s e =
    (at : ℕ) (p : PostingFields) → HasBoundedTrail bounds s block at p → past ≤ p.key → e.key ≤ p.key

-- A search from a block that a pointer led to, whose span is from low up to the bound: the first entry with a key of
-- the span at or past x, no such entry, or no key of the span at all.
abbrev pub SearchEnds : Bounds → ℕ → ℕ → ℕ → ℕ → ViewState → ViewState → Result Looked Fault → Type 0
SearchEnds bounds block x low bound old new (Ok (Found e)) =
    (x ≤ e.key) × (e.key < bound) × IsListEntry old.cells e
    × (IsTrue old.base.tells → IsEntryBehind bounds new.image block e × IsFirstEntry bounds block x old e
    × IsExact bounds block x new e × HasKeyIn new.image block low bound)
SearchEnds bounds block x low bound old new (Ok Nothing) = IsTrue old.base.tells → PassesNone bounds block x bound old
SearchEnds bounds block x low bound old new (Ok NoKey) = IsTrue old.base.tells → HasKeyIn new.image block low bound → ⊥
SearchEnds bounds block x low bound old new (Err fault) = FaultShows bounds block old new fault

pub record SearchesBlock (bounds : Bounds) (block x low bound level : ℕ) (old new : ViewState)
    (result : Result Looked Fault) : Type 0 where
  pub viewed : Viewed old new
  pub reads : new.base.reads ≤ old.base.reads + 400 * (level + 1)
  pub ends : SearchEnds bounds block x low bound old new result

-- the search of the block that was reached
abbrev pub SearchesFrom : Bounds → ℕ → Reached → ViewState → ViewState → Result Looked Fault → Type 0
SearchesFrom bounds x reached old new result =
    SearchesBlock bounds reached.block x reached.low reached.bound reached.level old new result

-- a look into one block, whatever the bounds
abbrev pub BlockLookEnds : ℕ → ℕ → ℕ → ℕ → ViewState → ViewState → Result Here Fault → Type 0
BlockLookEnds block x low bound old new (Ok (Ends looked)) =
    (bounds : Bounds) → SearchEnds bounds block x low bound old new (Ok looked)
BlockLookEnds block x low bound old new (Ok (Beyond l)) =
    (low ≤ l) × (l < x) × (IsTrue old.base.tells → HasFull new.image block l)
BlockLookEnds block x low bound old new (Err fault) = (bounds : Bounds) → FaultShows bounds block old new fault

pub record LooksAtBlock (block x low bound : ℕ) (old new : ViewState) (result : Result Here Fault) : Type 0 where
  pub viewed : Viewed old new
  pub reads : new.base.reads ≤ old.base.reads + 138
  pub ends : BlockLookEnds block x low bound old new result

-- whether the key before this place, where there is one, is at or past low
abbrev pub BeforeEnds : ℕ → ℕ → ℕ → ViewState → ViewState → Result Here Fault → Type 0
BeforeEnds block place low old new (Ok (Ends (Found e))) = ⊥
BeforeEnds block place low old new (Ok (Ends Nothing)) = ⊤
BeforeEnds block place low old new (Ok (Ends NoKey)) =
    IsTrue old.base.tells
    → (before : ℕ) (p : PostingFields) → place ≡ before + 1 → InFront new.image block before p → p.key < low
BeforeEnds block place low old new (Ok (Beyond l)) = ⊥
BeforeEnds block place low old new (Err Failed) = Rose old.base.faults new.base.faults
BeforeEnds block place low old new (Err (Tampered e)) =
    (e.rule ≡ BLOCK_OUT_OF_ORDER) × (before : ℕ) × (before < 128) × (e.cell ≡ block + before)
    × (IsTrue old.base.tells → IsNoPosting new.image (block + before) e.found)

pub record LooksBefore (block place low : ℕ) (old new : ViewState) (result : Result Here Fault) : Type 0 where
  pub viewed : Viewed old new
  pub reads : new.base.reads ≤ old.base.reads + 1
  pub ends : BeforeEnds block place low old new result

-- the keys of a front that ends with this one, as far as low
abbrev pub EndsBefore : Option ℕ → ℕ → Here → Type 0
EndsBefore greatest low (Ends (Found e)) = ⊥
EndsBefore greatest low (Ends Nothing) = ⊤
EndsBefore greatest low (Ends NoKey) = (key : ℕ) → greatest ≡ Some key → key < low
EndsBefore greatest low (Beyond l) = ⊥

-- a look behind one pointer
abbrev pub BehindEnds : Bounds → ℕ → Span → ViewState → ViewState → Result (Option Entry) Fault → Type 0
BehindEnds bounds block span old new (Ok (Some e)) =
    (span.low ≤ e.key) × (e.key < span.high) × IsListEntry old.cells e
    × (IsTrue old.base.tells → IsEntryBehind bounds new.image block e × IsLeastEntry bounds block span.low old e)
BehindEnds bounds block span old new (Ok None) = ⊥
BehindEnds bounds block span old new (Err fault) = FaultShows bounds block old new fault

pub record LooksBehind (bounds : Bounds) (block l : ℕ) (span : Span) (target : ℕ) (old new : ViewState)
    (result : Result (Option Entry) Fault) : Type 0 where
  pub viewed : Viewed old new
  pub reads : new.base.reads ≤ old.base.reads + 137
  pub ends : BehindEnds bounds block span old new result

-- a look behind the later pointers
abbrev pub LaterEnds : Bounds → ℕ → ℕ → ℕ → ViewState → ViewState → Result (Option Entry) Fault → Type 0
LaterEnds bounds block past bound old new (Ok (Some e)) =
    (past ≤ e.key) × IsListEntry old.cells e
    × (IsTrue old.base.tells → IsEntryBehind bounds new.image block e × IsLeastEntry bounds block past old e)
LaterEnds bounds block past bound old new (Ok None) = IsTrue old.base.tells → PassesNone bounds block past bound old
LaterEnds bounds block past bound old new (Err fault) = FaultShows bounds block old new fault

pub record LooksLater (bounds : Bounds) (block l past bound : ℕ) (old new : ViewState)
    (result : Result (Option Entry) Fault) : Type 0 where
  pub viewed : Viewed old new
  pub reads : new.base.reads ≤ old.base.reads + 257
  pub ends : LaterEnds bounds block past bound old new result

-- the same, for a key below the bound
abbrev pub OnEnds : Bounds → ℕ → ℕ → ℕ → ViewState → ViewState → Result Looked Fault → Type 0
OnEnds bounds block past bound old new (Ok (Found e)) =
    (past ≤ e.key) × (e.key < bound) × IsListEntry old.cells e
    × (IsTrue old.base.tells → IsEntryBehind bounds new.image block e × IsLeastEntry bounds block past old e)
OnEnds bounds block past bound old new (Ok Nothing) = IsTrue old.base.tells → PassesNone bounds block past bound old
OnEnds bounds block past bound old new (Ok NoKey) = ⊥
OnEnds bounds block past bound old new (Err fault) = FaultShows bounds block old new fault

pub record LooksOn (bounds : Bounds) (block past bound : ℕ) (old new : ViewState) (result : Result Looked Fault)
    : Type 0 where
  pub viewed : Viewed old new
  pub reads : new.base.reads ≤ old.base.reads + 257
  pub ends : OnEnds bounds block past bound old new result

-- where the pointer of a span leads, within the bounds
abbrev pub FirstPointerEnds : Bounds → ℕ → Span → ViewState → ViewState → Result (Option ℕ) Fault → Type 0
FirstPointerEnds bounds block s old new (Ok None) =
    IsTrue old.base.tells → new.image (pointer_at block s.level s.digit) ≡ None
FirstPointerEnds bounds block s old new (Ok (Some target)) =
    (bounds.pool ≤ target) × (target + 256 ≤ bounds.edge)
    × (IsTrue old.base.tells → HasPointer new.image block s.level s.digit target)
FirstPointerEnds bounds block s old new (Err fault) = FaultShows bounds block old new fault

pub record FirstPointer (bounds : Bounds) (block : ℕ) (s : Span) (old new : ViewState)
    (result : Result (Option ℕ) Fault) : Type 0 where
  pub viewed : Viewed old new
  pub reads : new.base.reads ≤ old.base.reads + 1
  pub ends : FirstPointerEnds bounds block s old new result

-- the entry, where its key is below the bound
abbrev pub IsEntryWithin : Entry → ℕ → Looked → Type 0
IsEntryWithin e bound (Found f) = (f ≡ e) × (e.key < bound)
IsEntryWithin e bound Nothing = bound ≤ e.key
IsEntryWithin e bound NoKey = ⊥
