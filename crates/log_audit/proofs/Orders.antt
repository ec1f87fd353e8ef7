-- How two numbers lie to one another.
use Rattle.std.proofs.Common.{◌≡◌, ◌<◌, ◌≤◌, ◌+◌, ◌⊎◌, ℕ, nat_eq, nat_lt, arith}
use Rattle.std.specs.Prelude.{IsTrue}
use Rattle.std.proofs.lemmas.Bool.Decides.{nat_tests}

pub below_or_at : (k n : ℕ) → k < n + 1 → (k < n) ⊎ (k ≡ n)
below_or_at k n h = grind arith

pub below_or_not : (k n : ℕ) → (k < n) ⊎ (n ≤ k)
below_or_not k n = grind arith

-- and what the program tells of that
pub is_less : (a b : ℕ) → a < b → IsTrue (nat_lt a b)
is_less a b h = grind (arith, nat_tests)

pub less_is : (a b : ℕ) → IsTrue (nat_lt a b) → a < b
less_is a b h = grind (arith, nat_tests)

pub is_same : (a b : ℕ) → a ≡ b → IsTrue (nat_eq a b)
is_same a b h = grind arith

pub same_is : (a b : ℕ) → IsTrue (nat_eq a b) → a ≡ b
same_is a b h = grind arith
