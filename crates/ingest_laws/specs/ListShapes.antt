-- The shape of one list: what its own blocks and pointers keep of the rules of blocks, and how it stays kept when a
-- posting or a pointer is added.
use Rattle.std.specs.Prelude.{◌≡◌, ◌≢◌, ◌<◌, ◌≤◌, ◌+◌, ◌⊎◌, ℕ, None}
use Rattle.cell_types.specs.Image.{Image, Extends}
use Rattle.cell_types.specs.declared.record_cell.RecordCell.TheVariants.{Jump}
use Rattle.volume_meaning.specs.Blocks.{PostingFields, posting_record, InFront, IsFull, InSpan, pointer_at, Leads}
use Rattle.volume_meaning.specs.Nodes.{AreApart}
use Rattle.tamper_rules.specs.Rules.{HoldsInOrder}
use Rattle.volume_meaning.specs.Volumes.{Holds, IsWritten}

-- The pointer of a level and a digit leads well within its list: the block is full, the target's cells lie in the
-- range, and its front has a key of the pointer's span.
pub record PointsWell (image : Image) (from to block level digit : ℕ) : Type 0 where
  pub target : ℕ
  pub jump : Holds image (pointer_at block level digit) (Jump target)
  pub greatest : PostingFields
  pub is_full : IsFull image block greatest
  pub inside_from : from ≤ target
  pub inside_to : target + 256 ≤ to
  pub place : ℕ
  pub some : PostingFields
  pub in_places : place < 128
  pub in_front : InFront image target place some
  pub in_span : InSpan greatest.key level digit some.key

-- In the blocks of the list that begins at head, with the range for its other blocks: postings are in order from
-- place 0 on, the places behind the pointers are blank, pointers lead well, and no two blocks meet.
pub record IsWellListed (image : Image) (from to head : ℕ) : Type 0 where
  pub before : head + 256 ≤ from
  pub entries : (block place : ℕ) → Leads image from to block head → place < 128
      → IsWritten image (block + place) → HoldsInOrder image block place
  pub blank : (block place : ℕ) → Leads image from to block head → 248 ≤ place → place < 256
      → image (block + place) ≡ None
  pub pointers : (block level digit : ℕ) → Leads image from to block head → level < 8 → 1 ≤ digit → digit ≤ 15
      → IsWritten image (pointer_at block level digit) → PointsWell image from to block level digit
  pub apart : (a b : ℕ) → Leads image from to a head → Leads image from to b head → (a ≡ b) ⊎ AreApart a 256 b 256

-- new is old but for one cell, which was blank in old
pub record AddsOneCell (at : ℕ) (old new : Image) : Type 0 where
  pub was : old at ≡ None
  pub others : (cell : ℕ) → cell ≢ at → new cell ≡ old cell

-- what is written outside its blocks leaves a list as it was
abbrev pub WellApart : Type 0
WellApart =
    (old new : Image) (from to head : ℕ) → IsWellListed old from to head → Extends old new
    → ((block place : ℕ) → Leads old from to block head → place < 256 → new (block + place) ≡ old (block + place))
    → IsWellListed new from to head

-- more room leaves a list as it was
abbrev pub WellWider : Type 0
WellWider = (image : Image) (from to wider head : ℕ) → to ≤ wider → IsWellListed image from to head
    → IsWellListed image from wider head

-- a posting is put at the first blank place of a block
abbrev pub WellWithEntry : Type 0
WellWithEntry =
    (old new : Image) (from to head block place : ℕ) (p : PostingFields)
    → IsWellListed old from to head → Leads old from to block head → place < 128
    → AddsOneCell (block + place) old new → Holds new (block + place) (posting_record p)
    → ((place ≡ 0) ⊎ ((before : ℕ) × (q : PostingFields) × (place ≡ before + 1)
    × Holds old (block + before) (posting_record q) × (q.key < p.key)))
    → IsWellListed new from to head

-- The cells at target may become a block of the list: they meet no block of it, what stands at their entry places is
-- in order, and their other places are blank.
pub record IsNewBlock (image : Image) (from to head target : ℕ) : Type 0 where
  pub apart : (b : ℕ) → Leads image from to b head → AreApart target 256 b 256
  pub entries : (place : ℕ) → place < 128 → IsWritten image (target + place) → HoldsInOrder image target place
  pub blank : (place : ℕ) → 128 ≤ place → place < 256 → image (target + place) ≡ None

-- a pointer is set in a full block, to a block whose front has a key of its span
abbrev pub WellWithJump : Type 0
WellWithJump =
    (old new : Image) (from to head block level digit target place : ℕ) (greatest some : PostingFields)
    → IsWellListed old from to head → Leads old from to block head → level < 8 → 1 ≤ digit → digit ≤ 15
    → AddsOneCell (pointer_at block level digit) old new → Holds new (pointer_at block level digit) (Jump target)
    → IsFull old block greatest → from ≤ target → target + 256 ≤ to
    → place < 128 → InFront old target place some → InSpan greatest.key level digit some.key
    → (Leads old from to target head ⊎ IsNewBlock old from to head target)
    → IsWellListed new from to head
