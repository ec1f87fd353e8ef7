-- What bisection in a row of numbers that don't fall did not find is not there.
use Rattle.std.proofs.Common.{◌<◌, ◌≤◌, ⊎_elim, ℕ, List, Err, arith}
use Rattle.std.specs.Prelude.{Contains}
use Rattle.std.specs.List.Sorted.{IsBinarySearchResult, IsNonDecreasing}
use Rattle.std.specs.Ordering.{nat_cmp}
use Rattle.std.proofs.lemmas.Grind.{get_or_default_zero}
use Rattle.std.proofs.lemmas.List.Sorted.{searched}
use Rattle.log_audit.proofs.Orders.{below_or_not}

pub not_found : (xs : List ℕ) (x place : ℕ) → IsBinarySearchResult (λ y. nat_cmp y x) xs (Err place) → IsNonDecreasing xs
    → Contains xs x → ⊥
not_found xs x place position ordered among =
    let s = searched xs x (Err place) position (λ i j from within. ordered i j 0 from within) in
    let same = get_or_default_zero xs among.0 x among.1 in
    ⊎_elim
    (λ (before : among.0 < place). let l = s.1 among.0 before in omega (arith, l, same, among.2))
    (λ (behind : place ≤ among.0). let l = s.2 among.0 behind among.1 in omega (arith, l, same, among.2))
    (below_or_not among.0 place)
