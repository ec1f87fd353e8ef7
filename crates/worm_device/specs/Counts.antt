-- Counts of 64 bits, which never fall and stand still at their greatest value.
use Rattle.std.specs.Prelude.{◌≡◌, ◌<◌, ◌≤◌, ◌^◌, ◌+◌, ◌-◌, min, ℕ}

-- one more, where a count can still rise
abbrev pub next_count : ℕ → ℕ
next_count n = min (n + 1) (2 ^ 64 - 1)

-- the count rose, or stands at its greatest value
abbrev pub Rose : ℕ → ℕ → Type 0
Rose old new = next_count old ≤ new

-- the count did not rise: it is the same, and could have risen
pub record IsStill (old new : ℕ) : Type 0 where
  pub same : new ≡ old
  pub below : old < 2 ^ 64 - 1
