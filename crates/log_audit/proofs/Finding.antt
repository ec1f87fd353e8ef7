-- Which kept cell shows, and where none does.
use Rattle.std.proofs.Common.{◌≡◌, ◌≤◌, zero, suc, ℕ, List, [], ◌∷◌, Option, Some, None, refl, sym, ap, arith}
use Rattle.std.specs.Prelude.{slice_get}
use Rattle.std.proofs.lemmas.Bool.Decides.{nat_tests}
use Rattle.std.proofs.lemmas.Option.{none-some}
use Rattle.log_audit.specs.Cells.{shown_by, AreRising, AreOnlyBetween}
use Rattle.log_audit.specs.Viewing.{shown_one}
use Rattle.log_audit.specs.declared.written.WrittenCell.{WrittenCell}

-- a kept cell shows
pub shown_kept : (rows : List WrittenCell) (k : ℕ) (row : WrittenCell) → AreRising rows → slice_get rows k ≡ Some row
    → shown_by rows row.number ≡ Some row.cell
shown_kept [] k row rising stands = absurd (none-some row stands)
shown_kept (first ∷ rows) zero row rising stands =
    let same : first ≡ row = cc in
    let n : first.number ≡ row.number = ap (λ (r : WrittenCell). r.number) same in
    let c : first.cell ≡ row.cell = ap (λ (r : WrittenCell). r.cell) same in
    grind (arith, nat_tests)
shown_kept (first ∷ rows) (suc k) row rising stands =
    let less = rising 0 (suc k) first row refl stands (omega arith) in
    let rest = shown_kept rows k row (λ i j q r a b h. rising (suc i) (suc j) q r a b (omega (arith, h))) stands in
    grind (arith, nat_tests)

-- where no kept cell has the number, none shows
pub shown_none : (rows : List WrittenCell) (number : ℕ)
    → ((k : ℕ) (row : WrittenCell) → slice_get rows k ≡ Some row → row.number ≡ number → ⊥) → None ≡ shown_by rows number
shown_none rows number never = by (shown_by rows number) refl
  where
    by : (found : Option (List ℕ)) → shown_by rows number ≡ found → None ≡ shown_by rows number
    by None is = sym is
    by (Some value) is = let one = shown_one rows number value is in absurd (never one.place one.row one.stands one.number_is)

-- where the places have come together, no kept cell has the number
pub none_between : (rows : List WrittenCell) {low high number : ℕ} → AreOnlyBetween rows low high number → high ≤ low
    → None ≡ shown_by rows number
none_between rows {low} {high} {number} only closed = shown_none rows number (λ k row stands is.
    let w = only k row stands is in omega (arith, w.0, w.1, closed))
