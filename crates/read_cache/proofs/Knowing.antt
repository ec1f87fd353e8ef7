-- Which cells are kept after a look-up and after a put, and what is known of them.
use Rattle.std.specs.Result.{OnErr, OnOk}
use Rattle.std.proofs.Common.{◌≡◌, ℕ, List, Option, Some, Result, Ok, Err, IsTrue, nat_eq, ap, subst, sym, inl, inr, ⊎_elim, ◌∙◌}
use Rattle.std.proofs.lemmas.Bool.{eqb-true}
use Rattle.lru.specs.LruCache.{LruCache, lru_cache, promoted, put_entries}
use Rattle.lru.proofs.CallerLemmas.{Contains-promoted, Contains-put_entries}
use Rattle.worm_device.specs.Views.{ViewState, Viewed}
use Rattle.read_cache.specs.Keeping.{HasNoOther, HasNoOtherEntry, KeepsOneMore, KeepsCells, PutsEntry, kept_in}
use Rattle.read_cache.specs.declared.cell_cache.CellCache.{CellCache}
use Rattle.read_cache.proofs.Recently.{kept_has}

-- a look-up changes the order alone
pub no_other : (kept : List (ℕ × List ℕ)) (at : ℕ) → HasNoOtherEntry kept (promoted (nat_eq at) kept)
no_other kept at cell value there = Contains-promoted (nat_eq at) kept (cell, value) there

-- a put may push others out
pub one_more : (c : LruCache ℕ (List ℕ)) (at : ℕ) (value : List ℕ) → PutsEntry at value c.entries (put_entries nat_eq c at value)
one_more c at value cell found there = ⊎_elim
    (λ was. inl was)
    (λ put. inr (⊎_elim
    (λ (same : cell ≡ at). (same, put.0))
    (λ known. (sym (eqb-true at cell known.2), put.0))
    put.1))
    (Contains-put_entries nat_eq c at value (cell, found) there)

module _ (s t : ViewState) (old new : CellCache) where
  -- what is shown goes on, and so what is known of kept cells
  pub keeps_on : Viewed s t → KeepsCells s old → HasNoOther old new → KeepsCells t new
  keeps_on viewed kept others tells at cell there =
      viewed.image.keeps at cell (kept (subst IsTrue viewed.called.tells tells) at cell (others at cell there))

  -- a cell that was read is shown
  pub keeps_more : (at : ℕ) (value : List ℕ) → Viewed s t → KeepsCells s old
      → (IsTrue s.base.tells → Some value ≡ t.image at) → KeepsOneMore at value old new → KeepsCells t new
  keeps_more at value viewed kept read more tells cell found there = ⊎_elim
      (λ was. viewed.image.keeps cell found (kept (subst IsTrue viewed.called.tells tells) cell found was))
      (λ (is : (cell ≡ at) × (found ≡ value)).
      let shown : Some value ≡ t.image at = read (subst IsTrue viewed.called.tells tells) in
      ap t.image is.0 ∙ sym shown ∙ ap (λ (v : List ℕ). Some v) (sym is.1))
      (more cell found there)

-- a kept cell that was looked up is shown
pub kept_stands : (s : ViewState) (cache : CellCache) (at : ℕ) (cell : List ℕ) → KeepsCells s cache
    → Some cell ≡ kept_in cache at → IsTrue s.base.tells → Some cell ≡ s.image at
kept_stands s cache at cell known found tells = sym (known tells at cell (kept_has cache at cell (sym found)))

-- a put, with memory or without
pub after_put : {E : Type 0} (c now : LruCache ℕ (List ℕ)) (at : ℕ) (value : List ℕ) (result : Result (Option (List ℕ)) E)
    → OnOk result (now ≡ lru_cache (put_entries nat_eq c at value) c.cap) → OnErr result (now ≡ c)
    → PutsEntry at value c.entries now.entries
after_put c now at value (Ok was) put none =
    subst (λ (d : LruCache ℕ (List ℕ)). PutsEntry at value c.entries d.entries) (sym put) (one_more c at value)
after_put c now at value (Err failed) put none =
    subst (λ (d : LruCache ℕ (List ℕ)). PutsEntry at value c.entries d.entries) (sym none) (λ cell found there. inl there)
