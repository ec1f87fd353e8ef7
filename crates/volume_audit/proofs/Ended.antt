-- A volume that was settled has no slot that has not ended, where rules 1 to 3 are kept.
use Rattle.std.proofs.Common.{◌≡◌, ◌<◌, ◌≤◌, ◌+◌, ◌⊎◌, ⊎_elim, inl, inr, zero, suc, ℕ, None, refl, sym, ◌∙◌, subst, ap, arith}
use Rattle.std.proofs.lemmas.Option.{none-some}
use Rattle.cell_types.specs.Image.{Image}
use Rattle.cell_types.specs.Layout.{Layout, reserve_at, outcome_at, done_at}
use Rattle.cell_types.specs.declared.refusal.Evidence.{Evidence}
use Rattle.cell_types.specs.declared.record_cell.RecordCell.TheVariants as records
use Rattle.volume_meaning.specs.Slots.{Abandons, IsAbandonedSlot, HasEnded}
use Rattle.volume_meaning.specs.Volumes.{IsWritten}
use Rattle.volume_meaning.proofs.Extending.{abandons_on, done_on}
use Rattle.volume_meaning.proofs.Holding.{one_record_holds}
use Rattle.tamper_rules.specs.Rules.{ReserveCells, DoneCells, ReserveRule, DoneRule}
use Rattle.tamper_rules.proofs.Images.{look}
use Rattle.tamper_rules.proofs.Settled.{ended_reserves}
use Rattle.worm_device.specs.Counts.{IsStill}
use Rattle.worm_device.specs.State.{DeviceState, IsDevice}
use Rattle.recovery_engine.specs.Settling.{IsReady, StepMakes}
use Rattle.recovery_engine.specs.declared.settling.Ready.{Ready}
use Rattle.recovery_engine.specs.declared.settling.Step.{Step}
use Rattle.recovery_engine.specs.declared.settling.Step.TheVariants as steps
use Rattle.log_audit.specs.Findings.{AreMetBelow}
use Rattle.log_audit.specs.Logs.{IsUnended}
use Rattle.log_audit.proofs.LogSoFar.{free_from}

module _ (g : Layout) (image : Image) (met : AreMetBelow g image 4) where
  -- an abandoned slot has no done cell
  no_done : (n start size : ℕ) → Abandons g image n start size → image (done_at n) ≡ None
  no_done n start size abandons = ⊎_elim
      (λ blank. blank)
      (λ w. let rule : DoneRule image n = met DoneCells (omega arith) (done_at n) (record { found = w.0; stands = w.1 })
      n abandons.reserves.slot refl in
      absurd (let clash : records.Abandon ≡ records.Commit rule.bytes rule.journal = one_record_holds image (outcome_at n)
      records.Abandon (records.Commit rule.bytes rule.journal) abandons.outcome rule.commit in cc))
      (look image (done_at n))

  given_up : (n start size : ℕ) → Abandons g image n start size → HasEnded g image image n
  given_up n start size abandons = inl (record {
    start = start;
    length = size;
    abandoned = record { abandons = abandons; done = no_done n start size abandons };
  })

  -- of the slots up to one whose reserve cell is written each but the last has ended
  ended_below : (last m : ℕ) → IsWritten image (reserve_at last) → last < g.slots → m < last → HasEnded g image image m
  ended_below zero m written inside less = absurd (omega (arith, less))
  ended_below (suc k) m written inside less =
      let rule : ReserveRule g image (suc k) = met ReserveCells (omega arith) (reserve_at (suc k)) written (suc k) inside refl in
      let before : HasEnded g image image k = rule.before k (omega arith) in
      ⊎_elim
      (λ (earlier : m < k). let r = ended_reserves before in
      ended_below k m (record { found = r.2.reserve.cell; stands = r.2.reserve.stands }) r.2.slot earlier)
      (λ (same : m ≡ k). subst (HasEnded g image image) (sym same) before)
      (below_or_at m k less)
    where
      below_or_at : (a b : ℕ) → a < suc b → (a < b) ⊎ (a ≡ b)
      below_or_at a b h = grind arith

module _ {old mid : DeviceState} (r : Ready) (ready : IsReady old mid r) (device : IsDevice mid)
    (met : AreMetBelow r.volume.geometry mid.image 4) where
  -- the slot below the horizon has ended
  last_ended : (m : ℕ) → r.horizon ≡ m + 1 → HasEnded r.volume.geometry mid.image mid.image m
  last_ended m last = at r.step ready.step
    where
      at : (step : Step) → StepMakes r.volume.geometry old mid r.horizon step → HasEnded r.volume.geometry mid.image mid.image m
      at steps.Nothing made = ⊎_elim
          (λ (is : IsAbandonedSlot r.volume.geometry old.image mid.image m).
          given_up r.volume.geometry mid.image met m is.start is.length is.abandoned.abandons)
          (λ is. inr is)
          (made m last)
      at (steps.Abandoned n) made =
          let same : n ≡ m = omega (arith, made.0, last) in
          subst (HasEnded r.volume.geometry mid.image mid.image) same
          (given_up r.volume.geometry mid.image met n made.1 made.2 (abandons_on device.sure made.4.abandons))
      at (steps.Completed n) made =
          let same : n ≡ m = omega (arith, made.0, last) in
          subst (HasEnded r.volume.geometry mid.image mid.image) same (inr (record {
            start = made.1;
            length = made.2;
            bytes = made.3;
            journal = made.4;
            done = done_on device.sure made.6;
          }))

  -- so each slot with a reserve cell has
  each_ended : (n : ℕ) → n < r.volume.geometry.slots → IsWritten mid.image (reserve_at n)
      → (r.horizon < r.volume.geometry.slots → mid.image (reserve_at r.horizon) ≡ None)
      → HasEnded r.volume.geometry mid.image mid.image n
  each_ended n inside written free = at r.horizon refl
    where
      order : (a b : ℕ) → (a < b) ⊎ (b ≤ a)
      order a b = grind arith

      taken : n < r.horizon
      taken = ⊎_elim (λ less. less)
          (λ past. absurd (none-some written.found (sym (free_from r.volume.geometry mid.image r.horizon met
          (free (omega (arith, past, inside))) n past inside) ∙ written.stands)))
          (order n r.horizon)

      at : (u : ℕ) → r.horizon ≡ u → HasEnded r.volume.geometry mid.image mid.image n
      at zero none = absurd (omega (arith, taken, none))
      at (suc k) is = ⊎_elim
          (λ (earlier : n < k). ended_below r.volume.geometry mid.image met k n (ready.horizon.below k (omega (arith, is)))
          (omega (arith, ready.horizon.most, is)) earlier)
          (λ (behind : k ≤ n). let same : k ≡ n = omega (arith, behind, taken, is) in
          subst (HasEnded r.volume.geometry mid.image mid.image) same (last_ended k (omega (arith, is))))
          (order n k)

-- where nobody else wrote, settling leaves no slot that has not ended
pub no_unended : {old mid : DeviceState} (r : Ready) (e : Evidence) → IsReady old mid r → IsDevice mid
    → IsStill old.foreign_writes mid.foreign_writes → IsUnended r.volume.geometry mid.image e → ⊥
no_unended {old} {mid} r e ready device still unended = unended.unended (each_ended r ready device unended.lower unended.slot
    unended.inside (record { found = e.found; stands = sym (ap mid.image unended.cell) ∙ unended.stands })
    (λ less. ready.free still less))
