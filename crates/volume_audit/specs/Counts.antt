-- How many numbers below one have a property.
use Rattle.std.specs.Prelude.{◌≡◌, ◌+◌, ℕ}

-- of the numbers below n so many have it
pub data Counts (P : ℕ → Type 0) : ℕ → ℕ → Type 0 where
  none : (n count : ℕ) → n ≡ 0 → count ≡ 0 → Counts P n count
  one : (n m count fewer : ℕ) → n ≡ m + 1 → count ≡ fewer + 1 → P m → Counts P m fewer → Counts P n count
  other : (n m count : ℕ) → n ≡ m + 1 → (P m → ⊥) → Counts P m count → Counts P n count

-- of the numbers below one so many have a property, and no other number of them
abbrev pub CountsAreOne : Type 1
CountsAreOne = (P : ℕ → Type 0) (n count other : ℕ) → Counts P n count → Counts P n other → other ≡ count
