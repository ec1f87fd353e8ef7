-- The targets of a journal: they rise, from the first list on and up to the document.
use Rattle.std.proofs.Common.{◌≡◌, ◌≤◌, ◌<◌, ◌+◌, ◌⊎◌, ℕ, zero, suc, List, Some, sym, ap, ◌∙◌, ⊎_elim, arith}
use Rattle.cell_types.specs.Image.{Image}
use Rattle.volume_meaning.proofs.Holding.{some_is}
use Rattle.recovery_engine.specs.Entries.{AreEntries, target_of}
use Rattle.recovery_engine.proofs.Phasing.{below_or_at}

one_of_three : (k n : ℕ) → (k < n) ⊎ (n < k) ⊎ (k ≡ n)
one_of_three k n = grind arith

module _ (first : ℕ) (image : Image) (place below n : ℕ) (entries : AreEntries first image place below n) where
  -- each target but the first lies above that of the cell before it
  above_last : (k : ℕ) (cell : List ℕ) → suc k < n → image (place + suc k) ≡ Some cell
      → (before : List ℕ) × (image (place + k) ≡ Some before) × (target_of before < target_of cell)
  above_last k cell less stands =
      let h = entries (suc k) less in
      let value : h.cell ≡ cell = some_is h.cell cell (sym h.stands ∙ stands) in
      ⊎_elim
      (λ (a : (suc k ≡ 0) × (h.floor ≡ first)). absurd (omega (arith, a.0)))
      (λ (b : (m : ℕ) × (before : List ℕ) × (suc k ≡ m + 1) × (image (place + m) ≡ Some before)
      × (h.floor ≡ target_of before + 1)).
      let same : b.0 ≡ k = omega (arith, b.2) in (
        b.1,
        ap (λ (m : ℕ). image (place + m)) (sym same) ∙ b.3,
        omega (arith, b.4, h.fit.from, ap target_of value),
      ))
      h.floor_is

  -- each lies from the first list on
  pub entries_from : (k : ℕ) (cell : List ℕ) → k < n → image (place + k) ≡ Some cell → first ≤ target_of cell
  entries_from zero cell less stands =
      let h = entries 0 less in
      let value : h.cell ≡ cell = some_is h.cell cell (sym h.stands ∙ stands) in
      ⊎_elim
      (λ (a : (0 ≡ 0) × (h.floor ≡ first)). omega (arith, a.1, h.fit.from, ap target_of value))
      (λ (b : (m : ℕ) × (before : List ℕ) × (0 ≡ m + 1) × (image (place + m) ≡ Some before)
      × (h.floor ≡ target_of before + 1)). absurd (omega (arith, b.2)))
      h.floor_is
  entries_from (suc k) cell less stands =
      let last = above_last k cell less stands in
      omega (arith, entries_from k last.0 (omega (arith, less)) last.1, last.2)

  -- and below the document
  pub entries_below : (k : ℕ) (cell : List ℕ) → k < n → image (place + k) ≡ Some cell → target_of cell < below
  entries_below k cell less stands =
      let h = entries k less in
      omega (arith, h.fit.to, ap target_of (some_is h.cell cell (sym h.stands ∙ stands)))

  -- targets rise
  pub entries_rise : (k m : ℕ) (a b : List ℕ) → k < m → m < n → image (place + k) ≡ Some a
      → image (place + m) ≡ Some b → target_of a < target_of b
  entries_rise k zero a b less within at_k at_m = absurd (omega (arith, less))
  entries_rise k (suc m) a b less within at_k at_m =
      let last = above_last m b within at_m in
      ⊎_elim
      (λ (lower : k < m).
      omega (arith, entries_rise k m a last.0 lower (omega (arith, within)) at_k last.1, last.2))
      (λ (is : k ≡ m).
      let cell : a ≡ last.0 = some_is a last.0 (sym at_k ∙ ap (λ (p : ℕ). image (place + p)) is ∙ last.1) in
      omega (arith, ap target_of cell, last.2))
      (below_or_at k m (omega (arith, less)))

  -- so no two journal cells have one target
  pub entries_apart : (k m : ℕ) (a b : List ℕ) → k < n → m < n → image (place + k) ≡ Some a
      → image (place + m) ≡ Some b → target_of a ≡ target_of b → a ≡ b
  entries_apart k m a b in_k in_m at_k at_m same = ⊎_elim
      (λ (less : k < m). absurd (omega (arith, entries_rise k m a b less in_m at_k at_m, same)))
      (λ rest. ⊎_elim
      (λ (more : m < k). absurd (omega (arith, entries_rise m k b a more in_k at_m at_k, same)))
      (λ (is : k ≡ m). some_is a b (sym at_k ∙ ap (λ (p : ℕ). image (place + p)) is ∙ at_m))
      rest)
      (one_of_three k m)
