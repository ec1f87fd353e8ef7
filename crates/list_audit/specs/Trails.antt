-- Where a posting's trail leads from a block.
use Rattle.std.specs.Prelude.{◌<◌, ◌≤◌, ◌+◌, ℕ}
use Rattle.cell_types.specs.Image.{Image}
use Rattle.cell_types.specs.Layout.{Layout, pool_at}
use Rattle.volume_meaning.specs.Blocks.{PostingFields, posting_record, InFront, IsFull, Trail}
use Rattle.volume_meaning.specs.Nodes.{IsBlockOf}
use Rattle.jump_block.specs.Spans.{IsSpan}
use Rattle.jump_block.specs.declared.spans.Span.{Span}
use Rattle.volume_meaning.specs.Volumes.{Holds, IsWritten}
use Rattle.list_audit.specs.declared.steps.Step.{Step}
use Rattle.list_audit.specs.declared.steps.Step.TheVariants.{Found, Missing, On}

-- the posting has a trail from the block
abbrev pub HasTrail : Layout → Image → PostingFields → ℕ → Type 0
HasTrail g image p block = (at : ℕ) × Trail image (pool_at g) g.cells at p block

-- each entry place of the block that is written is in its front
abbrev pub IsAllFront : Image → ℕ → Type 0
IsAllFront image block = (k : ℕ) → k < 128 → IsWritten image (block + k) → (p : PostingFields) × InFront image block k p

-- Places of the front before this one hold lower keys, and those from it on hold none.
pub record IsPlaceOfKey (image : Image) (block key place : ℕ) : Type 0 where
  pub most : place ≤ 128
  pub lower : (k : ℕ) → k < place → (p : PostingFields) × InFront image block k p × (p.key < key)
  pub upper : (k : ℕ) (p : PostingFields) → place ≤ k → k < 128 → InFront image block k p → key ≤ p.key

-- The block is full of lower keys, and leads on to the target, which is of the same list and has some key of the span in
-- which the posting's lies; the posting has a trail from the one just where it has one from the other.
pub record LeadsOnTo (g : Layout) (image : Image) (l : ℕ) (p : PostingFields) (block target : ℕ) : Type 0 where
  pub greatest : PostingFields
  pub full : IsFull image block greatest
  pub span : Span
  pub is : IsSpan greatest.key span
  pub low : span.low ≤ p.key
  pub high : p.key < span.high
  pub lands : IsBlockOf g image l target
  pub place : ℕ
  pub some : PostingFields
  pub in_places : place < 128
  pub in_front : InFront image target place some
  pub from : span.low ≤ some.key
  pub down : HasTrail g image p block → HasTrail g image p target
  pub up : HasTrail g image p target → HasTrail g image p block

-- what a step answers
abbrev pub StepAnswers : Layout → Image → ℕ → PostingFields → ℕ → Step → Type 0
StepAnswers g image l p block Found = HasTrail g image p block
StepAnswers g image l p block Missing = HasTrail g image p block → ⊥
StepAnswers g image l p block (On target) = LeadsOnTo g image l p block target

-- what a look at the place of a posting's key answers
abbrev pub PlaceAnswers : Image → ℕ → ℕ → PostingFields → Step → Type 0
PlaceAnswers image block place p Found = Holds image (block + place) (posting_record p)
PlaceAnswers image block place p Missing = Holds image (block + place) (posting_record p) → ⊥
PlaceAnswers image block place p (On target) = ⊥
