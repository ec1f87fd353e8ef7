-- Where a pointer leads, question by question: rule 10 in its parts.
use Rattle.std.specs.Prelude.{◌≡◌, ◌<◌, ◌≤◌, ◌+◌, ◌-◌, ℕ}
use Rattle.cell_types.specs.Image.{Image}
use Rattle.cell_types.specs.Layout.{Layout, pool_at}
use Rattle.volume_meaning.specs.Blocks.{PostingFields, posting_record, InFront, InSpan, pointer_at}
use Rattle.volume_meaning.specs.Volumes.{Holds, IsWritten}
use Rattle.volume_meaning.specs.declared.blocks.TheConstants.{BLOCK_CELLS, ENTRY_PLACES}
use Rattle.tamper_rules.specs.Journals.{LiesInBlocks}
use Rattle.tamper_rules.specs.Rules.{EndsFront, LeadsWell}

-- the target's cells lie in the pool, and before the edge
pub record IsBeforeEdge (g : Layout) (edge target : ℕ) : Type 0 where
  pub from : pool_at g ≤ target
  pub to : target + BLOCK_CELLS ≤ g.cells
  pub before : target + BLOCK_CELLS ≤ edge

-- they lie in the block part of one slot
pub record IsOwned (g : Layout) (image : Image) (target : ℕ) : Type 0 where
  pub owner : ℕ
  pub first : LiesInBlocks g image owner target
  pub last : LiesInBlocks g image owner (target + (BLOCK_CELLS - 1))

-- a posting with a key from low on and below high stands in an entry place of the block
pub record HasKeyBetween (image : Image) (block low high : ℕ) : Type 0 where
  pub place : ℕ
  pub inside : place < ENTRY_PLACES
  pub p : PostingFields
  pub holds : Holds image (block + place) (posting_record p)
  pub above : low ≤ p.key
  pub below : p.key < high

-- the block is full, and some key of the target's front lies in the pointer's span
pub record IsInSpan (image : Image) (block level digit target : ℕ) : Type 0 where
  pub full : (place : ℕ) → place < ENTRY_PLACES → IsWritten image (block + place)
  pub greatest : PostingFields
  pub ends : EndsFront image block greatest
  pub place : ℕ
  pub some : PostingFields
  pub in_places : place < ENTRY_PLACES
  pub in_front : InFront image target place some
  pub in_span : InSpan greatest.key level digit some.key

-- what rule 10 asks of a cell on account of a block of list l
abbrev pub PointerAsks : Layout → Image → ℕ → ℕ → ℕ → Type 0
PointerAsks g image l block cell = (level digit : ℕ) → level < 8 → 1 ≤ digit → digit ≤ 15
    → cell ≡ pointer_at block level digit → LeadsWell g image l block level digit
