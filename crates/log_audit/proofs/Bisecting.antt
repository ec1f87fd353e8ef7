-- Places among numbers that rise.
use Rattle.std.proofs.Common.{◌≡◌, ◌<◌, ◌≤◌, ⊎_elim, ℕ, List, length, get_or, sym, ◌∙◌, ap, arith}
use Rattle.std.specs.Prelude.{Result, Ok, Err, IfNone, nat_lt, true, false, slice_index, Contains}
use Rattle.std.specs.Result.{result_ok}
use Rattle.std.specs.List.Sorted.{IsBinarySearchResult, IsPartitionPoint, IsPartitionedBy, IsStrictlyIncreasing}
use Rattle.std.specs.Ordering.{nat_cmp}
use Rattle.std.proofs.lemmas.Bool.{cases_order, lt-ltb, ltb-false, ltb-true}
use Rattle.std.proofs.lemmas.Grind.{get_or_default_zero}
use Rattle.std.proofs.lemmas.List.Kept.{AllPairs-from_increasing}
use Rattle.std.proofs.lemmas.List.Sorted.{searched}
use Rattle.log_audit.specs.Between.{AreLower, HasBetween}
use Rattle.log_audit.proofs.Orders.{below_or_not}

pub rises : (numbers : List ℕ) → IsStrictlyIncreasing numbers → (a b : ℕ) → a < b → b < length numbers → slice_index numbers a < slice_index numbers b
rises numbers rising a b less inside = AllPairs-from_increasing numbers rising a b 0 less inside

-- numbers that rise never fall
rises_to : (numbers : List ℕ) → IsStrictlyIncreasing numbers → (a b : ℕ) → a ≤ b → b < length numbers → slice_index numbers a ≤ slice_index numbers b
rises_to numbers rising a b low inside = ⊎_elim
    (λ (same : a ≡ b). omega (arith, ap (slice_index numbers) same))
    (λ differ. ⊎_elim
    (λ (less : a < b). let e = rises numbers rising a b less inside in omega (arith, e))
    (λ (more : b < a). absurd (omega (arith, more, low)))
    differ)
    (cases_order a b)

-- a number that is there stands at a place
stands : (numbers : List ℕ) (number : ℕ) (has : Contains numbers number) → slice_index numbers has.0 ≡ number
stands numbers number has = sym (get_or_default_zero numbers has.0 number has.1) ∙ has.2

-- a number that a search of them does not find is not there
pub not_found : (numbers : List ℕ) (number : ℕ) → IsStrictlyIncreasing numbers → (r : Result ℕ ℕ)
    → IsBinarySearchResult (λ (y : ℕ). nat_cmp y number) numbers r → IfNone (result_ok r) (Contains numbers number → ⊥)
not_found numbers number rising (Ok place) position = tt
not_found numbers number rising (Err place) position = λ has.
    let none = searched numbers number (Err place) position (rises_to numbers rising) in
    let at = stands numbers number has in
    ⊎_elim
    (λ (less : has.0 < place). let e = none.1 has.0 less in omega (arith, e, at))
    (λ (rest : place ≤ has.0). let e = none.2 has.0 rest has.1 in omega (arith, e, at))
    (below_or_not has.0 place)

-- the lower ones stand before the others
pub are_partitioned : (numbers : List ℕ) (number : ℕ) → IsStrictlyIncreasing numbers → IsPartitionedBy (λ (y : ℕ). nat_lt y number) numbers
are_partitioned numbers number rising i j d low inside passes =
    let first : get_or numbers i d ≡ get_or numbers i 0 = get_or_default_zero numbers i d (omega (arith, low, inside)) in
    let second : get_or numbers j d ≡ get_or numbers j 0 = get_or_default_zero numbers j d inside in
    let e = rises_to numbers rising i j low inside in
    let less = ltb-true (get_or numbers j d) number passes in
    lt-ltb (get_or numbers i d) number (omega (arith, first, second, e, less))

-- up to the place where they end
pub lower_end : (numbers : List ℕ) (number place : ℕ) → place ≤ length numbers
    → IsPartitionPoint (λ (y : ℕ). nat_lt y number ≡ true) (λ (y : ℕ). nat_lt y number ≡ false) numbers place → AreLower numbers number place
lower_end numbers number place inside point = record {
  inside = inside;
  lower = λ k less. ltb-true (slice_index numbers k) number (point.0 k 0 (omega arith) less);
  rest = λ k from to. ltb-false (slice_index numbers k) number (point.1 k 0 from to);
}

-- of the numbers from low on the first is the least
module _ {numbers : List ℕ} {low high place : ℕ} (rising : IsStrictlyIncreasing numbers) (are : AreLower numbers low place) where
  pub first_between : place < length numbers → slice_index numbers place < high → HasBetween numbers low high
  first_between inside below = record {
    number = slice_index numbers place;
    there = (place, inside, get_or_default_zero numbers place (slice_index numbers place) inside);
    from = are.rest place (omega arith) inside;
    below = below;
  }

  pub first_is : HasBetween numbers low high → (place < length numbers) × (slice_index numbers place < high)
  first_is h =
      let at = stands numbers h.number h.there in
      let past : place ≤ h.there.0 = ⊎_elim
      (λ (before : h.there.0 < place). absurd (let e = are.lower h.there.0 before in omega (arith, e, at, h.from)))
      (λ (past : place ≤ h.there.0). past)
      (below_or_not h.there.0 place) in
      let e = rises_to numbers rising place h.there.0 past h.there.1 in
      (omega (arith, past, h.there.1), omega (arith, e, at, h.below))
