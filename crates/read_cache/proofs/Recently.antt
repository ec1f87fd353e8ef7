-- Which cells are at places that cells of late have.
use Rattle.std.proofs.Common.{◌≡◌, ◌∙◌, ℕ, Bool, true, false, zero, suc, List, [], ◌∷◌, Option, Some, None, nat_eq, ap, subst, sym, refl, inl, inr, ◌⊎◌, ⊎_elim, slice_set, arith, replicate, if◌then◌else◌}
use Rattle.std.proofs.lemmas.Bool.{eqb-true}
use Rattle.std.specs.Prelude.{slice_get, Contains}
use Rattle.std.specs.Map.{lookup}
use Rattle.lru.proofs.CallerLemmas.{Contains-lookup}
use Rattle.lru.specs.LruCache.{LruCache}
use Rattle.worm_device.specs.Views.{ViewState}
use Rattle.read_cache.specs.Keeping.{HasKept, HasNoOther, HasRecent, KeepsCells, KeepsOneMore, PutsEntry, cell_at, forgotten, held_cell, kept_in, no_cell, or_else, place_of, recent_in}
use Rattle.read_cache.specs.declared.cell_cache.CellCache.{CellCache}
use Rattle.read_cache.specs.declared.recent.Recent.{Recent}

-- what is found at its place is there
pub recent_has : (recent : List Recent) (at : ℕ) (cell : List ℕ) → recent_in recent at ≡ Some cell → HasRecent recent at cell
recent_has recent at cell found = of_place (slice_get recent (place_of at)) refl found where
  of_held : (held : Recent) → slice_get recent (place_of at) ≡ Some held → (b : Bool) → nat_eq held.at at ≡ b
      → (if b then held.cell else None) ≡ Some cell → HasRecent recent at cell
  of_held held there true same is = record {
    place = place_of at;
    held = held;
    there = there;
    number_is = eqb-true held.at at same;
    cell_is = is;
  }
  of_held held there false same is = absurd (none_some is) where
    none_some : None ≡ Some cell → ⊥
    none_some e = cc

  of_place : (o : Option Recent) → slice_get recent (place_of at) ≡ o → cell_at at o ≡ Some cell
      → HasRecent recent at cell
  of_place None there is = absurd (none_some is) where
    none_some : None ≡ Some cell → ⊥
    none_some e = cc
  of_place (Some held) there is = of_held held there (nat_eq held.at at) refl is

-- what is looked up is kept
pub kept_has : (cache : CellCache) (at : ℕ) (cell : List ℕ) → kept_in cache at ≡ Some cell → HasKept cache at cell
kept_has cache at cell found = of (recent_in cache.recent at) refl found where
  of : (o : Option (List ℕ)) → recent_in cache.recent at ≡ o
      → or_else o (lookup (nat_eq at) cache.cells.entries) ≡ Some cell → HasKept cache at cell
  of (Some one) is found = inl (recent_has cache.recent at cell (is ∙ found))
  of None is found =
      let there = Contains-lookup (nat_eq at) cache.cells.entries cell found in
      let same : at ≡ there.0 = eqb-true at there.0 there.2 in
      inr (subst (λ (n : ℕ). Contains cache.cells.entries (n, cell)) (sym same) there.1)

-- where one of some is put anew, each is as it was or this one
each_set : {P : Recent → Type 0} (all : List Recent) (k : ℕ) (now : Recent)
    → ((i : ℕ) (f : Recent) → slice_get all i ≡ Some f → P f) → P now
    → (i : ℕ) (f : Recent) → slice_get (slice_set all k now) i ≡ Some f → P f
each_set [] k now was is i f e = absurd (none_some f e) where
  none_some : (f : Recent) → None ≡ Some f → ⊥
  none_some f e = cc
each_set {P} (x ∷ xs) zero now was is zero f e = subst P (some_recent now f e) is where
  some_recent : (a b : Recent) → Some a ≡ Some b → a ≡ b
  some_recent a b e = cc
each_set (x ∷ xs) zero now was is (suc i) f e = was (suc i) f e
each_set (x ∷ xs) (suc k) now was is zero f e = was zero f e
each_set {P} (x ∷ xs) (suc k) now was is (suc i) f e = each_set {P = P} xs k now (λ j. was (suc j)) is i f e

-- what is there once a place got another cell was there, or is this one
pub set_has : (recent : List Recent) (k : ℕ) (now : Recent) (at : ℕ) (cell : List ℕ)
    → HasRecent (slice_set recent k now) at cell
    → HasRecent recent at cell ⊎ ((now.at ≡ at) × (now.cell ≡ Some cell))
set_has recent k now at cell has = each_set {P = λ f. f.at ≡ at → f.cell ≡ Some cell
    → HasRecent recent at cell ⊎ ((now.at ≡ at) × (now.cell ≡ Some cell))} recent k now
    (λ i f there number is. inl (record { place = i; held = f; there = there; number_is = number; cell_is = is }))
    (λ number is. inr (number, is)) has.place has.held has.there has.number_is has.cell_is

-- where no cell was put yet, none is there
pub none_recent : (n : ℕ) (at : ℕ) (cell : List ℕ)
    → HasRecent (replicate n no_cell) at cell → ⊥
none_recent n at cell has = at_place n has.place has.held has.there has.cell_is where
  some_recent : (a b : Recent) → Some a ≡ Some b → a ≡ b
  some_recent a b e = cc

  none_some : None ≡ Some cell → ⊥
  none_some e = cc

  at_place : (n i : ℕ) (f : Recent) → slice_get (replicate n no_cell) i ≡ Some f → f.cell ≡ Some cell → ⊥
  at_place zero i f there is = cc
  at_place (suc n) zero f there is =
      let same : no_cell ≡ f = some_recent no_cell f there in
      none_some (ap (λ (r : Recent). r.cell) same ∙ is)
  at_place (suc n) (suc i) f there is = at_place n i f there is

-- a cell is put at a place, and what is behind the places stays
pub places_one : (places : ℕ) (c : CellCache) (k at : ℕ) (value : List ℕ) (now : Recent) → now.at ≡ at
    → now.cell ≡ Some value → KeepsOneMore at value c (record { places = places; recent = slice_set c.recent k now; cells = c.cells })
places_one places c k at value now number is cell found has = ⊎_elim
    (λ recent. ⊎_elim
    (λ was. inl (inl was))
    (λ (put : (now.at ≡ cell) × (now.cell ≡ Some found)).
    inr (sym put.0 ∙ number, some_is (sym put.1 ∙ is)))
    (set_has c.recent k now cell found recent))
    (λ entry. inl (inr entry)) has where
      some_is : Some found ≡ Some value → found ≡ value
      some_is e = cc

-- what a place has under a number is its cell, and that its number
held_is : (at : ℕ) (held : Recent) (value : List ℕ) → held_cell at held ≡ Some value
    → (held.at ≡ at) × (held.cell ≡ Some value)
held_is at held value is = of (nat_eq held.at at) refl is where
  of : (b : Bool) → nat_eq held.at at ≡ b → (if b then held.cell else None) ≡ Some value
      → (held.at ≡ at) × (held.cell ≡ Some value)
  of true same is = (eqb-true held.at at same, is)
  of false same is = absurd (none_some is) where
    none_some : None ≡ Some value → ⊥
    none_some e = cc

-- what its place has is what is kept of it
pub found_recent : (cache : CellCache) (at place : ℕ) (held : Recent) (value : List ℕ) → place ≡ place_of at
    → slice_get cache.recent place ≡ Some held → held_cell at held ≡ Some value → Some value ≡ kept_in cache at
found_recent cache at place held value is there found =
    let behind = lookup (nat_eq at) cache.cells.entries in
    subst (λ (o : Option Recent). Some value ≡ or_else (cell_at at o) behind)
    (sym there ∙ ap (λ (k : ℕ). slice_get cache.recent k) is)
    (subst (λ (o : Option (List ℕ)). Some value ≡ or_else o behind) (sym found) refl)

-- A cell that is at its place is counted there, and may be put behind the places: nothing is kept that was not.
pub asks_one : (places : ℕ) (c : CellCache) (k at : ℕ) (held now : Recent) (value : List ℕ)
    (cells : LruCache ℕ (List ℕ)) → slice_get c.recent k ≡ Some held → held_cell at held ≡ Some value → now.at ≡ at
    → now.cell ≡ held.cell → PutsEntry at value c.cells.entries cells.entries
    → HasNoOther c (record { places = places; recent = slice_set c.recent k now; cells = cells })
asks_one places c k at held now value cells there found number same puts n cell has =
    let is = held_is at held value found in
    ⊎_elim
    (λ recent. ⊎_elim (λ was. inl was)
    (λ (put : (now.at ≡ n) × (now.cell ≡ Some cell)). inl (record {
      place = k;
      held = held;
      there = there;
      number_is = is.0 ∙ sym number ∙ put.0;
      cell_is = sym same ∙ put.1;
    }))
    (set_has c.recent k now n cell recent))
    (λ entry. ⊎_elim (λ was. inr was)
    (λ (put : (n ≡ at) × (cell ≡ value)). inl (record {
      place = k;
      held = held;
      there = there;
      number_is = is.0 ∙ sym put.0;
      cell_is = is.1 ∙ ap (λ (v : List ℕ). Some v) (sym put.1);
    }))
    (puts n cell entry)) has

-- memory with no cell keeps none that is not shown
pub keeps_none : (s : ViewState) (cache : CellCache) → KeepsCells s (forgotten cache)
keeps_none s cache tells at cell has = ⊎_elim (λ recent. absurd (none_recent 128 at cell recent))
    (λ entry. absurd (none_there entry)) has where
      none_there : Contains {X = ℕ × List ℕ} [] (at, cell) → ⊥
      none_there there = omega (arith, there.1)
