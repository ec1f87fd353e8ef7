-- Posting blocks: 128 places for postings, whose keys rise, and behind them 120 places for pointers.
use Rattle.std.specs.Prelude.{◌≡◌, ◌<◌, ◌≤◌, ◌+◌, ◌*◌, ◌^◌, ℕ}
use Rattle.cell_types.specs.Image.{Image}
use Rattle.cell_types.specs.declared.record_cell.RecordCell.TheVariants.{Posting, Jump}
use Rattle.cell_types.specs.declared.record_cell.RecordCell.{RecordCell}
use Rattle.volume_meaning.specs.Volumes.{Holds}
use Rattle.volume_meaning.specs.declared.posting_fields.PostingFields.{PostingFields as Fields}

-- what a posting says: a key, a greatest ordinal and a tag
abbrev pub PostingFields : Type 0
PostingFields = Fields

-- and its record
abbrev pub posting_record : PostingFields → RecordCell
posting_record p = Posting p.key p.last p.tag

-- The place of the block is in its front and holds this posting: it is place 0, or the place before is in
-- the front and holds a smaller key. A front ends at place 127: whoever speaks of one asks for a place below 128.
pub data InFront (image : Image) (block : ℕ) : ℕ → PostingFields → Type 0 where
  at_the_start : (place : ℕ) (p : PostingFields) → place ≡ 0 → Holds image (block + place) (posting_record p)
      → InFront image block place p
  behind : (place before : ℕ) (p q : PostingFields) → place ≡ before + 1 → InFront image block before q
      → q.key < p.key
      → Holds image (block + place) (posting_record p) → InFront image block place p

-- the block is full: all its entry places are in its front, and this is the greatest posting
abbrev pub IsFull : Image → ℕ → PostingFields → Type 0
IsFull image block greatest = InFront image block 127 greatest

-- Key k lies in the span of this level and digit, counted from key l: its distance from l has this digit
-- first, to the base 16, and so many digits behind it.
pub record InSpan (l level digit k : ℕ) : Type 0 where
  pub levels : level < 8
  pub some : 1 ≤ digit
  pub digits : digit ≤ 15
  pub low : l + digit * 16 ^ level ≤ k
  pub high : k < l + digit * 16 ^ level + 16 ^ level

-- the cell of the pointer of a level and a digit
abbrev pub pointer_at : ℕ → ℕ → ℕ → ℕ
pointer_at block level digit = block + (127 + 15 * level + digit)

-- A full block leads on to the target for key k: the pointer of the key's span is a jump cell, the target's
-- cells lie in this range, and the target's front has some key of the span.
pub record Hop (image : Image) (from to block k target : ℕ) : Type 0 where
  pub greatest : PostingFields
  pub full : IsFull image block greatest
  pub level : ℕ
  pub digit : ℕ
  pub span : InSpan greatest.key level digit k
  pub jump : Holds image (pointer_at block level digit) (Jump target)
  pub inside_from : from ≤ target
  pub inside_to : target + 256 ≤ to
  pub place : ℕ
  pub some : PostingFields
  pub in_front : InFront image target place some
  pub in_places : place < 128
  pub in_span : InSpan greatest.key level digit some.key

-- The posting in the cell at has a trail from the block: it is in the block's front, or the block leads on, for
-- the posting's key, to a block from which it has one.
pub data Trail (image : Image) (from to at : ℕ) (p : PostingFields) : ℕ → Type 0 where
  here : (block place : ℕ) → at ≡ block + place → place < 128 → InFront image block place p
      → Trail image from to at p block
  on : (block target : ℕ) → Hop image from to block p.key target → Trail image from to at p target
      → Trail image from to at p block

-- The blocks of a list whose first block is head: it, and each target of a jump cell that stands at its
-- pointer place in a block of the list, where the target's cells lie in this range.
pub data Leads (image : Image) (from to last : ℕ) : ℕ → Type 0 where
  arrived : (block : ℕ) → block ≡ last → Leads image from to last block
  onwards : (block level digit target : ℕ) → level < 8 → 1 ≤ digit → digit ≤ 15
      → Holds image (pointer_at block level digit) (Jump target) → from ≤ target → target + 256 ≤ to
      → Leads image from to last target → Leads image from to last block
