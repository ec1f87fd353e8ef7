-- Laws of posting blocks.
use Rattle.std.specs.Prelude.{◌≡◌, ◌<◌, ◌^◌, ℕ}
use Rattle.cell_types.specs.Image.{Image, Extends}
use Rattle.volume_meaning.specs.Blocks.{PostingFields, InFront, InSpan, Trail}

-- a trail stays a trail, whatever is written into blank cells
abbrev pub TrailHoldsOn : Type 0
TrailHoldsOn =
    (old new : Image) (from to at block : ℕ) (p : PostingFields)
    → Extends old new → Trail old from to at p block → Trail new from to at p block

-- a key lies in one span
abbrev pub SpansAreApart : Type 0
SpansAreApart =
    (l k i j m n : ℕ) → InSpan l i j k → InSpan l m n k → (i ≡ m) × (j ≡ n)

-- each key that is greater and below 2^32 lies in a span
abbrev pub SpansCover : Type 0
SpansCover = (l k : ℕ) → l < k → k < 2 ^ 32 → (i : ℕ) × (j : ℕ) × InSpan l i j k

-- one place of a front holds one posting, and keys rise along a front
abbrev pub FrontsRise : Type 0
FrontsRise =
    (image : Image) (block i j : ℕ) (p q : PostingFields) → InFront image block i p → InFront image block j q
    → ((i ≡ j → p ≡ q) × (i < j → p.key < q.key))

-- from a block at most one posting of a key has a trail
abbrev pub TrailsAreOne : Type 0
TrailsAreOne =
    (image : Image) (from to at at' block : ℕ) (p q : PostingFields)
    → Trail image from to at p block → Trail image from to at' q block → p.key ≡ q.key → (p ≡ q) × (at ≡ at')
