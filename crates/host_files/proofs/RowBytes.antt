-- The first cells of a row among the bytes that are to be written.
use Rattle.std.specs.Prelude.{◌≡◌, ◌≢◌, ◌<◌, ◌+◌, ◌⊎◌, ℕ, List, length, slice_get, Some}
use Rattle.std.proofs.Common.{◌∙◌, ap, sym, subst, arith, ⊎_elim}
use Rattle.cell_types.specs.Bytes.{IsCell}
use Rattle.worm_device.specs.ReadBytes.{cell_bytes}
use Rattle.host_files.specs.Rows.{AreRow}

pub record AreFirst (count : ℕ) (values : List (List ℕ)) (bytes : List ℕ) : Type 0 where
  pub is : (k : ℕ) → k < count → slice_get values k ≡ Some (cell_bytes bytes k)
  pub cell : (k : ℕ) → k < count → IsCell (cell_bytes bytes k)

pub first_none : (values : List (List ℕ)) (bytes : List ℕ) → AreFirst 0 values bytes
first_none values bytes = record {
  is = λ k less. absurd (omega (arith, less));
  cell = λ k less. absurd (omega (arith, less));
}

below_or_at : (k n : ℕ) → k < n + 1 → (k < n) ⊎ (k ≡ n)
below_or_at k n h = grind arith

pub first_next : (n : ℕ) (values : List (List ℕ)) (value bytes bytes' : List ℕ) → slice_get values n ≡ Some value
    → IsCell value → cell_bytes bytes' n ≡ value
    → ((other : ℕ) → other ≢ n → cell_bytes bytes' other ≡ cell_bytes bytes other)
    → AreFirst n values bytes → AreFirst (n + 1) values bytes'
first_next n values value bytes bytes' got is here others first = record {
  is = λ k less. ⊎_elim
      (λ (before : k < n). first.is k before ∙ ap (λ (b : List ℕ). Some b)
      (sym (others k (λ same. omega (arith, same, before)))))
      (λ (at : k ≡ n). ap (slice_get values) at ∙ got ∙ ap (λ (b : List ℕ). Some b) (sym here)
      ∙ ap (λ (m : ℕ). Some (cell_bytes bytes' m)) (sym at))
      (below_or_at k n less);
  cell = λ k less. ⊎_elim
      (λ (before : k < n). subst IsCell (sym (others k (λ same. omega (arith, same, before)))) (first.cell k before))
      (λ (at : k ≡ n). subst IsCell (sym here ∙ ap (cell_bytes bytes') (sym at)) is)
      (below_or_at k n less);
}

pub first_all : (n : ℕ) (values : List (List ℕ)) (bytes : List ℕ) → n ≡ length values → AreFirst n values bytes
    → AreRow values bytes
first_all n values bytes all first = record {
  is = λ k less. first.is k (omega (arith, all, less));
  cell = λ k less. first.cell k (omega (arith, all, less));
}
