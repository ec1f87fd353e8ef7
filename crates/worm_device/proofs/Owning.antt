-- The maps of an overlay, with one cell more and as they were.
use Rattle.std.proofs.Common.{◌≡◌, ◌≢◌, ◌<◌, ⊎_elim, ℕ, true, false, List, Option, Some, None, Result, Ok, Err, sym, subst, arith, ◌∙◌}
use Rattle.std.proofs.lemmas.Bool.{cases_eq}
use Rattle.std.proofs.lemmas.Grind.{common_steps}
use Rattle.std.proofs.lemmas.Option.{none-some}
use Rattle.std.specs.Ordering.{nat_cmp}
use Rattle.std.specs.BTreeMap.{BTreeMap, get, Updates}
use Rattle.std.specs.Result.{OnOk, OnErr, is_err}
use Rattle.cell_types.specs.Bytes.{IsCell}
use Rattle.worm_device.specs.Owned.{AreOwned}
use Rattle.worm_device.specs.declared.overlay.TheConstants.{OVERLAY_CELLS}
use Rattle.worm_device.specs.declared.owner.Owner.{Owner}

pub at_ok : {X E P : Type 0} (r : Result X E) → is_err r ≡ false → OnOk r P → P
at_ok (Ok x) is p = p
at_ok (Err e) is p = cc

pub at_err : {X E P : Type 0} (r : Result X E) → is_err r ≡ true → OnErr r P → P
at_err (Ok x) is p = cc
at_err (Err e) is p = p

-- the other keys
other_key : {X : Type 0} (m n : BTreeMap ℕ X) (k q : ℕ) (w : Option X) → Updates nat_cmp m n k w → q ≢ k
    → get nat_cmp n q ≡ get nat_cmp m q
other_key m n k q w u differs = grind (arith, common_steps, u.2 q)

-- one cell more
module _ (planned new_planned : BTreeMap ℕ (List ℕ)) (owners new_owners : BTreeMap ℕ Owner) (at : ℕ) (value : List ℕ)
    (owner : Owner) (owned : AreOwned planned owners) (below : at < OVERLAY_CELLS) (is_cell : IsCell value)
    (plans : Updates nat_cmp planned new_planned at (Some value)) (gives : Updates nat_cmp owners new_owners at (Some owner)) where
  pub owned_with : AreOwned new_planned new_owners
  owned_with = record {
    inside = λ cell held h. ⊎_elim
        (λ (same : cell ≡ at).
        let there : get nat_cmp new_planned cell ≡ Some value = subst (λ (n : ℕ). get nat_cmp new_planned n ≡ Some value) (sym same) plans.1 in
        let is : value ≡ held = (let e : Some value ≡ Some held = sym there ∙ h in cc) in
        (omega (arith, same, below), subst IsCell is is_cell))
        (λ differs. owned.inside cell held (sym (other_key planned new_planned at cell (Some value) plans differs) ∙ h))
        (cases_eq cell at);
    unowned = λ cell h. ⊎_elim
        (λ (same : cell ≡ at). absurd (none-some value
        (sym h ∙ subst (λ (n : ℕ). get nat_cmp new_planned n ≡ Some value) (sym same) plans.1)))
        (λ differs. other_key owners new_owners at cell (Some owner) gives differs
        ∙ owned.unowned cell (sym (other_key planned new_planned at cell (Some value) plans differs) ∙ h))
        (cases_eq cell at);
    unplanned = λ cell h. ⊎_elim
        (λ (same : cell ≡ at). absurd (none-some owner
        (sym h ∙ subst (λ (n : ℕ). get nat_cmp new_owners n ≡ Some owner) (sym same) gives.1)))
        (λ differs. other_key planned new_planned at cell (Some value) plans differs
        ∙ owned.unplanned cell (sym (other_key owners new_owners at cell (Some owner) gives differs) ∙ h))
        (cases_eq cell at);
  }

-- the same cells, by maps that say the same
pub owned_same : (planned new_planned : BTreeMap ℕ (List ℕ)) (owners new_owners : BTreeMap ℕ Owner) → AreOwned planned owners
    → ((cell : ℕ) → get nat_cmp new_planned cell ≡ get nat_cmp planned cell)
    → ((cell : ℕ) → get nat_cmp new_owners cell ≡ get nat_cmp owners cell) → AreOwned new_planned new_owners
owned_same planned new_planned owners new_owners owned cells names = record {
  inside = λ cell held h. owned.inside cell held (sym (cells cell) ∙ h);
  unowned = λ cell h. names cell ∙ owned.unowned cell (sym (cells cell) ∙ h);
  unplanned = λ cell h. cells cell ∙ owned.unplanned cell (sym (names cell) ∙ h);
}

-- an owner that was put in and taken out again
pub put_and_taken : (m n o : BTreeMap ℕ Owner) (at : ℕ) (owner : Owner) → get nat_cmp m at ≡ None
    → Updates nat_cmp m n at (Some owner) → Updates nat_cmp n o at None → (cell : ℕ) → get nat_cmp o cell ≡ get nat_cmp m cell
put_and_taken m n o at owner free puts takes cell = ⊎_elim
    (λ (same : cell ≡ at). subst (λ (k : ℕ). get nat_cmp o k ≡ get nat_cmp m k) (sym same) (takes.1 ∙ sym free))
    (λ differs. other_key n o at cell None takes differs ∙ other_key m n at cell (Some owner) puts differs)
    (cases_eq cell at)
