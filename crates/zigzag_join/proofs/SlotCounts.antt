-- Of some slots: how many are at or past one, and those of them that lie between two.
use Rattle.std.proofs.Common.{◌≡◌, ◌<◌, ◌≤◌, ◌+◌, ◌*◌, ℕ, zero, suc, get_or, Bool, List, [], ◌∷◌, length, true, false, refl, ap, ⊎_elim, ◌⊎◌, inl, inr, cond, arith}
use Rattle.std.specs.List.{filter}
use Rattle.std.specs.Prelude.{Contains, nat_le}
use Rattle.std.proofs.lemmas.Nat.{mul-le}

-- how many of these are at or past one
abbrev pub one_if : Bool → ℕ
one_if true = 1
one_if false = 0

abbrev pub at_least : List ℕ → ℕ → ℕ
at_least [] from = 0
at_least (x ∷ xs) from = one_if (nat_le from x) + at_least xs from

pub fewer_one : (x a b : ℕ) → a ≤ b → one_if (nat_le b x) ≤ one_if (nat_le a x)
fewer_one x a b le = grind (arith, le)

pub fewer : (xs : List ℕ) (a b : ℕ) → a ≤ b → at_least xs b ≤ at_least xs a
fewer [] a b le = omega arith
fewer (x ∷ xs) a b le = omega (arith, fewer_one x a b le, fewer xs a b le)

most_one : (x a : ℕ) → one_if (nat_le a x) ≤ 1
most_one x a = grind arith

pub at_most : (xs : List ℕ) (a : ℕ) → at_least xs a ≤ length xs
at_most [] a = omega arith
at_most (x ∷ xs) a = omega (arith, most_one x a, at_most xs a)

-- passing one of the slots leaves one fewer
pub passes : (xs : List ℕ) (b n i : ℕ) → i < length xs → get_or xs i n ≡ n → b ≤ n
    → at_least xs (n + 1) + 1 ≤ at_least xs b
passes [] b n i less is le = absurd (omega (arith, less))
passes (x ∷ xs) b n zero less is le =
    let here : one_if (nat_le (n + 1) x) + 1 ≤ one_if (nat_le b x) = here_one x n b is le in
    omega (arith, here, fewer xs b (n + 1) (omega (arith, le)))
  where
    here_one : (x n b : ℕ) → x ≡ n → b ≤ n → one_if (nat_le (n + 1) x) + 1 ≤ one_if (nat_le b x)
    here_one x n b is le = grind (arith, is, le)
passes (x ∷ xs) b n (suc i) less is le =
    omega (arith, fewer_one x b (n + 1) (omega (arith, le)), passes xs b n i (omega (arith, less)) is le)

not_both : (p q : Bool) → p ≡ false → q ≡ true → p ≡ q → ⊥
not_both p q = by_cases p q where
  by_cases : (p q : Bool) → p ≡ false → q ≡ true → p ≡ q → ⊥
  by_cases p q none some same = cc

one_or_rest : (x y : ℕ) (ys : List ℕ) → Contains (y ∷ ys) x → (y ≡ x) ⊎ Contains ys x
one_or_rest x y ys c = by_place c.0 c.1 c.2 where
  by_place : (k : ℕ) → k < suc (length ys) → get_or (y ∷ ys) k x ≡ x → (y ≡ x) ⊎ Contains ys x
  by_place zero less is = inl is
  by_place (suc k) less is = inr (k, omega (arith, less), is)

-- one that passes the test is among those that do
pub picked : (p : ℕ → Bool) (xs : List ℕ) (x : ℕ) → Contains xs x → p x ≡ true → Contains (filter p xs) x
picked p [] x c passes_it = absurd (omega (arith, c.1))
picked p (y ∷ ys) x c passes_it = by_test (λ (rest : Contains ys x). picked p ys x rest passes_it) (p y) refl where
  by_test : (Contains ys x → Contains (filter p ys) x) → (b : Bool) → p y ≡ b
      → Contains (cond b (y ∷ filter p ys) (filter p ys)) x
  by_test of_rest true is = ⊎_elim
      (λ (same : y ≡ x). (zero, omega arith, same))
      (λ (rest : Contains ys x).
      let k = of_rest rest in
      (suc k.0, omega (arith, k.1), k.2))
      (one_or_rest x y ys c)
  by_test of_rest false is = ⊎_elim
      (λ (same : y ≡ x). absurd (not_both (p y) (p x) is passes_it (ap p same)))
      (λ (rest : Contains ys x). of_rest rest)
      (one_or_rest x y ys c)

-- those at or past one are so many
pub length_from : (xs : List ℕ) (a : ℕ) → length (filter (nat_le a) xs) ≡ at_least xs a
length_from [] a = refl
length_from (x ∷ xs) a = by_test (length_from xs a) (nat_le a x) where
  by_test : length (filter (nat_le a) xs) ≡ at_least xs a → (b : Bool)
      → length (cond b (x ∷ filter (nat_le a) xs) (filter (nat_le a) xs)) ≡ one_if b + at_least xs a
  by_test rest true = omega (arith, rest)
  by_test rest false = omega (arith, rest)

-- at or past one, and before another
abbrev pub is_within : ℕ → ℕ → ℕ → Bool
is_within a b x = cond (nat_le b x) false (nat_le a x)

pub within_it : (a b x : ℕ) → a ≤ x → x < b → is_within a b x ≡ true
within_it a b x from before = grind (arith, from, before)

pub from_it : (a x : ℕ) → a ≤ x → nat_le a x ≡ true
from_it a x from = grind (arith, from)

-- those between two, and those behind, are not more than those at or past the first
pub length_within : (xs : List ℕ) (a b : ℕ) → a ≤ b
    → length (filter (is_within a b) xs) + at_least xs b ≤ at_least xs a
length_within [] a b le = omega arith
length_within (x ∷ xs) a b le =
    by_test (length_within xs a b le) (nat_le b x) (nat_le a x) (fewer_one x a b le) where
      by_test : length (filter (is_within a b) xs) + at_least xs b ≤ at_least xs a → (p q : Bool) → one_if p ≤ one_if q
          → length (cond (cond p false q) (x ∷ filter (is_within a b) xs) (filter (is_within a b) xs))
          + (one_if p + at_least xs b) ≤ one_if q + at_least xs a
      by_test rest true true more = omega (arith, rest)
      by_test rest true false more = absurd (omega (arith, more))
      by_test rest false true more = omega (arith, rest)
      by_test rest false false more = omega (arith, rest)

-- products, opened
pub times_more : (a b : ℕ) → a * (b + 1) ≡ a * b + a
times_more a b = grind arith

pub times_both : (a b c : ℕ) → a * (b + c) ≡ a * b + a * c
times_both a b c = grind arith

pub times_on : (a b c : ℕ) → b ≤ c → a * b ≤ a * c
times_on a b c le = mul-le a b a c (omega arith) le
