-- The targets of a journal that keeps rule 5 rise, so each of them is found by bisection.
use Rattle.std.proofs.Common.{◌≡◌, ◌<◌, ◌≤◌, ◌+◌, ◌⊎◌, ⊎_elim, zero, suc, ℕ, refl, subst, arith}
use Rattle.std.proofs.lemmas.Bool.{cases_order}
use Rattle.cell_types.specs.Image.{Image}
use Rattle.cell_types.specs.Layout.{Layout, outcome_at}
use Rattle.tamper_rules.specs.Rules.{Journals}
use Rattle.log_audit.specs.Findings.{IsMetAll}
use Rattle.log_audit.specs.Stored.{IsStored}
use Rattle.log_audit.specs.declared.stored.StoredSlot.{StoredSlot}
use Rattle.log_audit.proofs.Deciding.{held_written}
use Rattle.log_audit.proofs.Storing.{stores_it}
use Rattle.slot_audit.specs.Copying.{HasTarget}
use Rattle.slot_audit.specs.Journals.{IsOrdered, journal_cell}
use Rattle.slot_audit.specs.Places.{IsPlaceTo}
use Rattle.slot_audit.proofs.Ordering.{has_target, one_target}

-- a journal cell with the target can stand at these places alone
pub record IsOnlyAt (image : Image) (s : StoredSlot) (cell low high : ℕ) : Type 0 where
  pub most : high ≤ s.journal
  pub only : (k : ℕ) → k < s.journal → HasTarget image (journal_cell s k) cell → (low ≤ k) × (k < high)

module _ {g : Layout} {image : Image} {s : StoredSlot} (stored : IsStored g image s) (met : IsMetAll g image Journals) where
  -- each place of its journal is in order
  pub each_ordered : (k : ℕ) → k < s.journal → IsOrdered g image s k
  each_ordered k less =
      let written = (met (outcome_at s.slot) (held_written stored.done.commits.outcome)).commit s.slot s.start s.length s.bytes s.journal k
      (stores_it stored) less refl in
      (met (journal_cell s k) written).copy s.slot s.start s.length s.bytes s.journal k (stores_it stored) less refl

  -- a later place has a greater target
  pub targets_rise : (i k a b : ℕ) → i < k → k < s.journal → HasTarget image (journal_cell s i) a → HasTarget image (journal_cell s k) b → a < b
  targets_rise i zero a b before less one other = absurd (omega (arith, before))
  targets_rise i (suc m) a b before less one other =
      let o = each_ordered (suc m) less in
      let top : o.target ≡ b = one_target (has_target o.copies) other in
      ⊎_elim
      (λ first. absurd (omega (arith, first)))
      (λ w.
      let at : w.0 ≡ m = omega (arith, w.3) in
      let lower : HasTarget image (journal_cell s m) w.1 = subst (λ (k : ℕ). HasTarget image (journal_cell s k) w.1) at (has_target w.4) in
      ⊎_elim
      (λ (same : i ≡ m).
      let eq : a ≡ w.1 = one_target (subst (λ (k : ℕ). HasTarget image (journal_cell s k) a) same one) lower in
      omega (arith, eq, w.5, top))
      (λ (earlier : i < m).
      let below = targets_rise i m a w.1 earlier (omega (arith, less)) one lower in
      omega (arith, below, w.5, top))
      (last_or_earlier i m before))
      o.rises
    where
      last_or_earlier : (j n : ℕ) → j < suc n → (j ≡ n) ⊎ (j < n)
      last_or_earlier j n h = grind arith

  module _ {cell low high middle target : ℕ} (there : IsOnlyAt image s cell low high) (less : middle < high)
      (seen : HasTarget image (journal_cell s middle) target) where
    pub seek_higher : target < cell → IsOnlyAt image s cell (middle + 1) high
    seek_higher small = record {
      most = there.most;
      only = λ k inside has. ⊎_elim
          (λ same. absurd (omega (arith, small, one_target (subst (λ (n : ℕ). HasTarget image (journal_cell s n) cell) same has) seen)))
          (λ differ. ⊎_elim
          (λ before. absurd (let e = targets_rise k middle cell target before (omega (arith, less, there.most)) has seen in omega (arith, e, small)))
          (λ behind. (omega (arith, behind), (there.only k inside has).1))
          differ)
          (cases_order k middle);
    }

    pub seek_lower : cell < target → IsOnlyAt image s cell low middle
    seek_lower great = record {
      most = omega (arith, less, there.most);
      only = λ k inside has. ⊎_elim
          (λ same. absurd (omega (arith, great, one_target (subst (λ (n : ℕ). HasTarget image (journal_cell s n) cell) same has) seen)))
          (λ differ. ⊎_elim
          (λ before. ((there.only k inside has).0, before))
          (λ behind. absurd (let e = targets_rise middle k target cell behind inside seen has in omega (arith, e, great)))
          differ)
          (cases_order k middle);
    }

    -- it is the one
    pub is_place : target ≡ cell → IsPlaceTo image s cell middle
    is_place same = record {
      inside = omega (arith, less, there.most);
      target = subst (HasTarget image (journal_cell s middle)) same seen;
      one = λ other inside has. ⊎_elim
          (λ at. at)
          (λ differ. ⊎_elim
          (λ before. absurd (let e = targets_rise other middle cell target before (omega (arith, less, there.most)) has seen in omega (arith, e, same)))
          (λ behind. absurd (let e = targets_rise middle other target cell behind inside seen has in omega (arith, e, same)))
          differ)
          (cases_order other middle);
    }

  -- each place copies some cell
  pub has_some : (place : ℕ) → place < s.journal → ((target : ℕ) → HasTarget image (journal_cell s place) target → ⊥) → ⊥
  has_some place less none = none _ (has_target (each_ordered place less).copies)
