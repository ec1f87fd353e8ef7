-- What one insertion adds to a list.
use Rattle.std.specs.Prelude.{◌≡◌, ◌<◌, ◌≤◌, ◌+◌, ℕ, None}
use Rattle.cell_types.specs.Image.{Image}
use Rattle.cell_types.specs.declared.record_cell.RecordCell.TheVariants.{Jump}
use Rattle.volume_meaning.specs.Volumes.{Holds}
use Rattle.volume_meaning.specs.Blocks.{PostingFields, posting_record, InFront, IsFull, InSpan, Trail, Leads, pointer_at}
use Rattle.ingest_laws.specs.ListShapes.{IsWellListed, AddsOneCell}
use Rattle.ingest_laws.specs.Needs.{TrailTo}
use Rattle.worm_device.specs.Views.{ViewState}
use Rattle.jump_insertion.specs.Evidence.{NothingBelowPlans}
use Rattle.jump_insertion.specs.Readiness.{IsOwnBlock}

-- a full block leads on for a key: the pointer of the key's span is a jump cell to the target
pub record LeadsOnBy (image : Image) (from to block key target : ℕ) : Type 0 where
  pub greatest : PostingFields
  pub full : IsFull image block greatest
  pub level : ℕ
  pub digit : ℕ
  pub span : InSpan greatest.key level digit key
  pub jump : Holds image (pointer_at block level digit) (Jump target)
  pub inside_from : from ≤ target
  pub inside_to : target + 256 ≤ to

-- the walk for a key, along the pointers of the key's spans, comes from a block to the last
pub data WalksBlocks (image : Image) (from to key last : ℕ) : ℕ → Type 0 where
  ends : (block : ℕ) → block ≡ last → WalksBlocks image from to key last block
  hops : (block target : ℕ) → LeadsOnBy image from to block key target → WalksBlocks image from to key last target
      → WalksBlocks image from to key last block

-- the place is the block's first, or behind one of its front with a smaller key
abbrev pub RisesInFront : Image → ℕ → ℕ → ℕ → Type 0
RisesInFront image block place key =
    (before : ℕ) → place ≡ before + 1 → (q : PostingFields) × InFront image block before q × (q.key < key)

-- A posting was put into a block, and then a pointer to that block into another, which is full and whose pointer of the
-- posting's span was blank.
pub record PutsTwo (old new : Image) (home target place : ℕ) (p : PostingFields) : Type 0 where
  pub mid : Image
  pub level : ℕ
  pub digit : ℕ
  pub greatest : PostingFields
  pub full : IsFull old home greatest
  pub span : InSpan greatest.key level digit p.key
  pub in_places : place < 128
  pub adds : AddsOneCell (target + place) old mid
  pub posting : Holds mid (target + place) (posting_record p)
  pub rises : RisesInFront old target place p.key
  pub adds_jump : AddsOneCell (pointer_at home level digit) mid new
  pub jump : Holds new (pointer_at home level digit) (Jump target)

-- the list is well shaped, and no key of its fronts is greater than this posting's
pub record IsTop (image : Image) (floor next head : ℕ) (q : PostingFields) : Type 0 where
  pub listed : IsWellListed image floor next head
  pub top : (b i : ℕ) (r : PostingFields) → Leads image floor next b head → i < 128 → InFront image b i r
      → r.key ≤ q.key

-- the trail of the posting in the cell at, from a block on, ends at the last one
pub record EndsTrailAt (image : Image) (from to at : ℕ) (q : PostingFields) (last block : ℕ) : Type 0 where
  pub place : ℕ
  pub is : at ≡ last + place
  pub trail : TrailTo image from to last place q block

-- the trail of the posting in the cell at, from a block on, ends at a full one
pub record EndsAtFull (image : Image) (from to at : ℕ) (q : PostingFields) (block : ℕ) : Type 0 where
  pub last : ℕ
  pub is : at ≡ last + 127
  pub trail : TrailTo image from to last 127 q block

-- the trail of the list's greatest key, from a block on, ends at this one
abbrev pub IsLastBlock : Image → ℕ → ℕ → ℕ → ℕ → ℕ → Type 0
IsLastBlock image floor next home key last =
    (head at : ℕ) (q : PostingFields) → IsTop image floor next head q → Leads image floor next home head
    → q.key < key → Trail image floor next at q home → EndsTrailAt image floor next at q last home

-- the trail of the list's greatest key, from a block on, ends at a full block
abbrev pub IsLastFull : Image → ℕ → ℕ → ℕ → ℕ → Type 0
IsLastFull image floor next home key =
    (head at : ℕ) (q : PostingFields) → IsTop image floor next head q → Leads image floor next home head
    → q.key < key → Trail image floor next at q home → EndsAtFull image floor next at q home

-- What an insertion that begins at a block adds, and what it costs: the cells that it plans, and those that the pool
-- gave for it. The walk for the key ends at a block with a blank entry; or at a blank pointer, and the posting goes
-- into the list's tail, where this has a blank entry, or else into a new block.
pub data Grows (old new : Image) (floor next to block : ℕ) (p : PostingFields) (cost : ℕ) : Type 0 where
  in_block : (last place : ℕ) → WalksBlocks old floor next p.key last block → place < 128
      → AddsOneCell (last + place) old new
      → Holds new (last + place) (posting_record p) → RisesInFront old last place p.key → to ≡ next → cost ≡ 1
      → Grows old new floor next to block p cost
  in_tail : (home target place : ℕ) → WalksBlocks old floor next p.key home block → PutsTwo old new home target place p
      → Leads old floor next target home → floor ≤ target → target + 256 ≤ next
      → IsLastBlock old floor next home p.key target
      → to ≡ next → cost ≡ 2 → Grows old new floor next to block p cost
  in_new_block : (home : ℕ) → WalksBlocks old floor next p.key home block → PutsTwo old new home next 0 p
      → ((cell : ℕ) → next ≤ cell → old cell ≡ None) → IsLastFull old floor next home p.key → to ≡ next + 256
      → cost ≡ 258 → Grows old new floor next to block p cost

-- The list as it stands below is well shaped, with keys below this one; nothing stands below what is planned before the
-- cells that are new; and what is planned in the list's blocks is for it.
pub record ListBelow (s : ViewState) (floor head key : ℕ) : Type 0 where
  pub roomy : floor ≤ s.fresh
  pub listed : IsWellListed s.lower floor s.fresh head
  pub untouched : NothingBelowPlans s
  pub own_blocks : (b : ℕ) → Leads s.lower floor s.fresh b head → IsOwnBlock s head b
  pub below : (block place : ℕ) (p : PostingFields) → Leads s.lower floor s.fresh block head → place < 128
      → Holds s.lower (block + place) (posting_record p) → p.key < key
