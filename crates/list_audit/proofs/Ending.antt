-- How many numbers of a set lie in a range.
use Rattle.std.proofs.Common.{◌≡◌, ◌<◌, ◌≤◌, ◌↔◌, ℕ, Bool, true, false, List, [], ◌∷◌, ◌++◌, Option, Some, None, Bor, Less, sym, ◌∙◌, ap, subst, arith}
use Rattle.std.specs.Prelude.{All, IfSome, IsTrue, MatchOption, is_some, slice_get}
use Rattle.std.specs.Ordering.{is_gt, is_lt, nat_cmp}
use Rattle.std.specs.BTreeSet.{BTreeSet, contains, IsKeyInRange, IsKeyRangeOf}
use Rattle.std.specs.BTreeMap.Range.{IsInRange}
use Rattle.std.specs.List.Sorted.{IsStrictlySortedBy}
use Rattle.std.specs.declared.ops.Bound.TheVariants.{Included, Excluded}
use Rattle.std.proofs.lemmas.Bool.Decides.{nat_tests}
use Rattle.std.proofs.lemmas.Map.Keys.{below_from_sorted}
use Rattle.list_audit.specs.Numbers.{HasTwoBetween}

no_greater : (a b : ℕ) → is_gt (nat_cmp a b) ≡ false → a ≤ b
no_greater a b h = grind (arith, nat_tests)

no_less : (a b : ℕ) → is_lt (nat_cmp a b) ≡ false → b ≤ a
no_less a b h = grind (arith, nat_tests)

less_by : (a b : ℕ) → nat_cmp a b ≡ Less → a < b
less_by a b h = grind (arith, nat_tests)

-- what a look at the next number of a row tells
pub taken_tells : (P : Type 0) (b : Bool) (r : Option (Bor ℕ)) {row rest : List ℕ}
    → MatchOption r ((row ≡ []) × (rest ≡ [])) (λ x. row ≡ x.now ∷ rest) → b ≡ is_some r
    → (row ≡ [] → P → ⊥) → ((number : ℕ) → row ≡ number ∷ rest → P) → (IsTrue b ↔ P)
taken_tells P b None taken is none one = (
  λ has. let clash : true ≡ false = sym has ∙ is in absurd cc,
  λ p. absurd (none taken.0 p),
)
taken_tells P b (Some x) taken is none one = (λ _. one x.now taken, λ _. is)

module _ (numbers : BTreeSet ℕ) (from behind : ℕ) (row : List ℕ) (range : IsKeyRangeOf nat_cmp (Included from) (Excluded behind) numbers row) where
  inside : (other : ℕ) → from ≤ other → other < behind → IsInRange nat_cmp (Included from) (Excluded behind) other
  inside other low high = (grind (arith, nat_tests), grind (arith, nat_tests))

  -- no number does
  pub none_lies : row ≡ [] → HasTwoBetween numbers from behind → ⊥
  none_lies empty two =
      let none : contains nat_cmp numbers two.first ≡ false = range.5 empty two.first (inside two.first two.low (omega (arith, two.rises, two.high))) in
      let clash : true ≡ false = sym two.has_first ∙ none in
      cc

  -- one alone does
  pub one_lies : (number : ℕ) (rest : List ℕ) → row ≡ number ∷ rest → rest ≡ [] → HasTwoBetween numbers from behind → ⊥
  one_lies number rest is none two =
      let single : row ≡ [] ++ number ∷ [] = is ∙ ap (λ (xs : List ℕ). number ∷ xs) none in
      let first = range.2 two.first (inside two.first two.low (omega (arith, two.rises, two.high))) two.has_first in
      let least : number ≤ two.first =
      no_greater number two.first (subst (λ (xs : List ℕ). IfSome (slice_get xs 0) (λ k. is_gt (nat_cmp k two.first) ≡ false)) is first) in
      let greatest : two.last ≤ number =
      no_less number two.last (range.4 number [] single two.last (inside two.last (omega (arith, two.low, two.rises)) two.high) two.has_last) in
      omega (arith, least, greatest, two.rises)

  -- the first does
  pub first_lies : (number : ℕ) (rest : List ℕ) → row ≡ number ∷ rest → (from ≤ number) × (number < behind) × (contains nat_cmp numbers number ≡ true)
  first_lies number rest is =
      let each = subst (All (IsKeyInRange nat_cmp (Included from) (Excluded behind) numbers)) is range.0 in
      let first = each 0 0 (omega arith) in
      (no_greater from number first.0.0, less_by number behind first.0.1, first.1)

  -- two do
  pub two_lie : IsStrictlySortedBy nat_cmp row → (number next : ℕ) (rest : List ℕ) → row ≡ number ∷ next ∷ rest → HasTwoBetween numbers from behind
  two_lie sorted number next rest is =
      let each = subst (All (IsKeyInRange nat_cmp (Included from) (Excluded behind) numbers)) is range.0 in
      let first = each 0 0 (omega arith) in
      let last = each 1 0 (omega arith) in
      record {
        first = number;
        last = next;
        rises = below_from_sorted (number ∷ next ∷ rest) 0 1 0 (subst (IsStrictlySortedBy nat_cmp) is sorted) (omega arith) (omega arith);
        low = no_greater from number first.0.0;
        high = less_by next behind last.0.1;
        has_first = first.1;
        has_last = last.1;
      }
