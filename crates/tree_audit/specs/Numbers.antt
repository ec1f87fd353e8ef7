-- Numbers that are gathered, and those of which something holds, as they rise.
use Rattle.std.specs.Prelude.{◌↔◌, ◌⊎◌, ℕ, List, Contains}
use Rattle.std.specs.List.Sorted.{IsStrictlyIncreasing}

-- new has what old has, and the numbers of which this holds
pub record AddsNumbers (P : ℕ → Type 0) (old new : List ℕ) : Type 0 where
  pub each : (x : ℕ) → Contains new x ↔ (Contains old x ⊎ P x)

-- these are the numbers of which this holds, each once, and they rise
pub record AreAll (P : ℕ → Type 0) (numbers : List ℕ) : Type 0 where
  pub rising : IsStrictlyIncreasing numbers
  pub each : (x : ℕ) → Contains numbers x ↔ P x
