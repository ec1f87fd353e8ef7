-- What rule 2 asks of a commit cell.
use Rattle.std.proofs.Common.{◌≤◌, ◌+◌, ◌↔◌, ⊎_elim, inr, ℕ, Bool, subst}
use Rattle.std.specs.Prelude.{IsTrue}
use Rattle.cell_types.specs.Image.{Image}
use Rattle.cell_types.specs.Layout.{Layout, TakesStamps, reserve_at, outcome_at, done_at}
use Rattle.cell_types.specs.declared.record_cell.RecordCell.TheVariants.{Abandon, Commit, Done, Reserve}
use Rattle.volume_meaning.specs.Slots.{cells_for, Reserves, IsStamped, IsAbandonedSlot, IsDone, IsDoneSlot, HasEnded}
use Rattle.volume_meaning.specs.Volumes.{Holds, IsWritten}
use Rattle.volume_meaning.proofs.Holding.{one_record_holds}
use Rattle.volume_meaning.proofs.OneDocument.{commits}
use Rattle.tamper_rules.specs.Rules.{OutcomeRule}

module _ (g : Layout) (image : Image) (n bytes journal : ℕ) (held : Holds image (outcome_at n) (Commit bytes journal)) where
  no_abandon : Holds image (outcome_at n) Abandon → ⊥
  no_abandon a = let clash = one_record_holds image (outcome_at n) Abandon (Commit bytes journal) a held in cc

  -- that it fits into the cells that the reserve cell states
  pub outcome_fits : OutcomeRule g image n → (start reserved : ℕ) → Holds image (reserve_at n) (Reserve start reserved)
      → cells_for bytes + journal ≤ reserved
  outcome_fits rule start reserved r = ⊎_elim
      (λ (a : Holds image (outcome_at n) Abandon). absurd (no_abandon a))
      (λ d. let one = commits d.0 d.1 bytes journal (one_record_holds image (outcome_at n) (Commit d.0 d.1) (Commit bytes journal) d.2 held) in
      let fits : cells_for d.0 + d.1 ≤ reserved = d.3 start reserved r in
      subst (λ (j : ℕ). cells_for bytes + j ≤ reserved) one.1 (subst (λ (b : ℕ). cells_for b + d.1 ≤ reserved) one.0 fits))
      rule.outcome

  -- and that the slot has a stamp, where the volume has stamps
  pub outcome_stamped : OutcomeRule g image n → TakesStamps g → IsStamped image n
  outcome_stamped rule version = ⊎_elim
      (λ (a : Holds image (outcome_at n) Abandon). absurd (no_abandon a))
      (λ d. d.4 version)
      rule.outcome

  -- a slot that has ended with this commit cell is done
  pub ended_with : HasEnded g image image n → IsDoneSlot g image n
  ended_with ended = ⊎_elim
      (λ (a : IsAbandonedSlot g image image n). absurd (no_abandon a.abandoned.abandons.outcome))
      (λ done. done)
      ended

  -- and one is done with this commit cell
  pub done_with : {start reserved : ℕ} → Reserves g image n start reserved → cells_for bytes + journal ≤ reserved
      → (TakesStamps g → IsStamped image n) → Holds image (done_at n) (Done n)
      → IsDone g image n start reserved bytes journal
  done_with reserves fits stamped done = record {
    commits = record { reserves = reserves; outcome = held; fits = fits; stamped = stamped };
    done = done;
  }

  -- and nothing else, where the reserve cell is written
  pub outcome_of_commit : (b : Bool) → IsWritten image (reserve_at n)
      → ((start reserved : ℕ) → Holds image (reserve_at n) (Reserve start reserved) → cells_for bytes + journal ≤ reserved)
      → (IsTrue b ↔ (TakesStamps g → IsStamped image n)) → (IsTrue b ↔ OutcomeRule g image n)
  outcome_of_commit b reserve fits stamped = (
    λ yes. record { reserve = reserve; outcome = inr (bytes, journal, held, fits, stamped.0 yes) },
    λ rule. stamped.1 (outcome_stamped rule),
  )
