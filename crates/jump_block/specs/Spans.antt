-- Spans as the code holds them.
use Rattle.std.specs.Prelude.{◌≡◌, ◌<◌, ◌≤◌, ◌+◌, ◌*◌, ◌^◌, ℕ}
use Rattle.jump_block.specs.declared.spans.Span.{Span}

-- the span has the keys of its level and digit, counted from key l
pub record IsSpan (l : ℕ) (s : Span) : Type 0 where
  pub levels : s.level < 8
  pub some : 1 ≤ s.digit
  pub digits : s.digit ≤ 15
  pub low : s.low ≡ l + s.digit * 16 ^ s.level
  pub high : s.high ≡ s.low + 16 ^ s.level
