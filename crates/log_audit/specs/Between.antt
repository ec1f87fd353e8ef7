-- Numbers that are lower than another one, or lie between two others.
use Rattle.std.specs.Prelude.{◌<◌, ◌≤◌, ℕ, List, length, slice_index, Contains}

-- the numbers before this place are lower, and no other is
pub record AreLower (numbers : List ℕ) (number place : ℕ) : Type 0 where
  pub inside : place ≤ length numbers
  pub lower : (k : ℕ) → k < place → slice_index numbers k < number
  pub rest : (k : ℕ) → place ≤ k → k < length numbers → number ≤ slice_index numbers k

-- one of the numbers lies from low on and below high
pub record HasBetween (numbers : List ℕ) (low high : ℕ) : Type 0 where
  pub number : ℕ
  pub there : Contains numbers number
  pub from : low ≤ number
  pub below : number < high
