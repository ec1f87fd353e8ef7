-- The look at the free slot was refused.
use Rattle.std.proofs.Common.{◌≡◌, ◌<◌, ℕ, Some, Err, refl, sym, ◌∙◌, inl, inr, subst, arith}
use Rattle.std.specs.Prelude.{IsTrue}
use Rattle.cell_types.specs.Image.{Image, IsUnchanged}
use Rattle.cell_types.specs.Layout.{Layout}
use Rattle.cell_types.specs.declared.refusal.Evidence.{Evidence}
use Rattle.cell_types.specs.declared.refusal.Fault.{Fault}
use Rattle.cell_types.specs.declared.refusal.Fault.TheVariants.{Tampered, Failed}
use Rattle.commit_record.specs.declared.reservation.Reservation.{Reservation}
use Rattle.recovery_engine.specs.Settling.{HasSettled}
use Rattle.recovery_engine.specs.declared.settling.Ready.{Ready}
use Rattle.volume_meaning.specs.Slots.{EndsBelow}
use Rattle.volume_meaning.specs.Volumes.{IsVolume}
use Rattle.volume_meaning.proofs.Extending.{blank_before, ends_on, volume_on}
use Rattle.tamper_rules.specs.Rules.{IsBroken}
use Rattle.worm_device.specs.Counts.{IsStill}
use Rattle.worm_device.specs.State.{DeviceState}
use Rattle.worm_device.proofs.Counting.{still_first, still_second}
use Rattle.worm_device.proofs.Images.{extends_self}
use Rattle.plan_writer.specs.Blank.{IsFirstWritten, IsOfNewSlot, LooksForSlot, done, outcome, reserved, spare}
use Rattle.plan_writer.specs.Planned.{Suits, reserved_by}
use Rattle.plan_writer.specs.PuttingPlans.{IsFoundByPlan, IsPlanRule, PutPlanEnds}
use Rattle.plan_writer.specs.declared.plan.Plan.{Plan}
use Rattle.plan_writer.proofs.FirstWritten.{first_breaks, first_place, first_where}
use Rattle.plan_writer.proofs.PutFrom.{ahead_0, called, ends_0, ends_2, free_0, free_2, tells_2, volume_0, volume_2}
use Rattle.plan_writer.proofs.SettledBefore.{IsAhead}

-- it is named by a rule of its cell
first_rule : {image : Image} {n : ℕ} {cells : Reservation} {e : Evidence} → IsFirstWritten image n cells e
    → IsPlanRule e.rule
first_rule (outcome r c) = inr (inl r)
first_rule (done r c a) = inr (inr (inl r))
first_rule (spare r c a b) = inr (inr (inr (inr r)))
first_rule (reserved r w a b c before) = inr (inr (inr (inr r)))

-- it is the slot's own, or one that it is to reserve
first_own : {image : Image} {n : ℕ} {cells : Reservation} {e : Evidence} → IsFirstWritten image n cells e
    → IsOfNewSlot n cells e.cell
first_own (outcome r c) = inl (omega (arith, c), omega (arith, c))
first_own (done r c a) = inl (omega (arith, c), omega (arith, c))
first_own (spare r c a b) = inl (omega (arith, c), omega (arith, c))
first_own (reserved r w a b c before) = inr w

-- it lies ahead of the log
first_ahead : (g : Layout) (n : ℕ) (cells : Reservation) (image : Image) (e : Evidence) → n < g.slots
    → IsFirstWritten image n cells e → IsAhead g n cells.start e.cell
first_ahead g n cells image e less (outcome r c) = inl (omega (arith, c), omega (arith, c, less))
first_ahead g n cells image e less (done r c a) = inl (omega (arith, c), omega (arith, c, less))
first_ahead g n cells image e less (spare r c a b) = inl (omega (arith, c), omega (arith, c, less))
first_ahead g n cells image e less (reserved r w a b c before) = inr w.from

module _ (p : Plan) {s0 s2 s3 : DeviceState} (r : Ready) (has : HasSettled s0 s2 r)
    (less : r.horizon < r.volume.geometry.slots) (starts : p.start ≡ r.edge) (suits : Suits r.volume.geometry p)
    (fault : Fault) (looks : LooksForSlot r.horizon (reserved_by p) s2 s3 (Err fault)) where
  module _ (tells : IsTrue s0.tells) (e : Evidence) (first : IsFirstWritten s2.image r.horizon (reserved_by p) e)
      (stands : s3.image e.cell ≡ Some e.found) where
    volume_3 : IsVolume s3.cells s3.image r.volume.geometry
    volume_3 = subst (λ (k : ℕ). IsVolume k s3.image r.volume.geometry) (sym looks.called.cells)
        (volume_on looks.called.image (volume_2 r has tells))

    ends_3 : EndsBelow r.volume.geometry s3.image r.horizon p.start
    ends_3 = subst (EndsBelow r.volume.geometry s3.image r.horizon) (sym starts)
        (ends_on {before = s2.image} {before' = s2.image} (extends_self s2.image) looks.called.image
        (ends_2 r has tells))

    module _ (still : IsStill s0.foreign_writes s3.foreign_writes) where
      still_2 : IsStill s0.foreign_writes s2.foreign_writes
      still_2 = still_first (called r has).foreign_writes looks.called.foreign_writes still

      same : IsUnchanged s2.image s3.image
      same = looks.quiet (still_second (called r has).foreign_writes looks.called.foreign_writes still)

      broken_3 : IsBroken s3.cells s3.image e.rule e.cell
      broken_3 = subst (λ (k : ℕ). IsBroken k s3.image e.rule e.cell) volume_3.size
          (first_breaks r.volume.geometry r.horizon (reserved_by p) less suits.from suits.to s3.image e
          (record { volume = volume_3.volume; size = refl })
          (same _ ∙ free_2 r has tells less still_2) ends_3 (record { found = e.found; stands = stands })
          (first_where s2.image s3.image r.horizon (reserved_by p) e (λ cell none. same cell ∙ none) first))

      broken_2 : IsBroken s2.cells s2.image e.rule e.cell
      broken_2 =
          let volume = volume_2 r has tells in
          subst (λ (k : ℕ). IsBroken k s2.image e.rule e.cell) volume.size
          (first_breaks r.volume.geometry r.horizon (reserved_by p) less suits.from suits.to s2.image e
          (record { volume = volume.volume; size = refl }) (free_2 r has tells less still_2)
          (subst (EndsBelow r.volume.geometry s2.image r.horizon) (sym starts) (ends_2 r has tells))
          (record { found = e.found; stands = sym (same e.cell) ∙ stands }) first)

      broken_0 : IsBroken s0.cells s0.image e.rule e.cell
      broken_0 =
          let volume = volume_0 r has tells less still_2 in
          let ahead = first_ahead r.volume.geometry r.horizon (reserved_by p) s2.image e less first in
          subst (λ (k : ℕ). IsBroken k s0.image e.rule e.cell) volume.size
          (first_breaks r.volume.geometry r.horizon (reserved_by p) less suits.from suits.to s0.image e
          (record { volume = volume.volume; size = refl })
          (free_0 r has tells less)
          (subst (EndsBelow r.volume.geometry s0.image r.horizon) (sym starts) (ends_0 r has tells less still_2))
          (record {
            found = e.found;
            stands = ahead_0 r has tells less still_2 e.cell e.found
                (subst (λ (a : ℕ). IsAhead r.volume.geometry r.horizon a e.cell) starts ahead)
                (sym (same e.cell) ∙ stands);
          })
          (first_where s2.image s0.image r.horizon (reserved_by p) e
          (λ cell none. blank_before (called r has).image none) first))

    found : IsFoundByPlan r.horizon p s0 s2 s3 e
    found = record {
      rule = first_rule first;
      own = first_own first;
      licensed = record {
        stands = stands;
        layout = r.volume.geometry;
        volume = volume_3;
        place = first_place r.volume.geometry r.horizon (reserved_by p) less suits.from suits.to s2.image e first;
        broken = broken_3;
      };
      at_entry = λ still asks. broken_2 still;
      before = λ still asks. broken_0 still;
      unput = λ still asks. same still;
    }

-- a read failed, or a written cell is named
pub blank_refused : (p : Plan) {s0 s2 s3 : DeviceState} (r : Ready) (has : HasSettled s0 s2 r)
    → r.horizon < r.volume.geometry.slots → p.start ≡ r.edge → Suits r.volume.geometry p → (fault : Fault)
    → LooksForSlot r.horizon (reserved_by p) s2 s3 (Err fault)
    → PutPlanEnds r.volume.geometry p r.horizon s0 s2 s3 (Err fault)
blank_refused p r has less starts suits Failed looks = omega (arith, looks.ends, (called r has).faults)
blank_refused p r has less starts suits (Tampered e) looks = λ tells.
    let ends = looks.ends (tells_2 r has tells) in
    found p r has less starts suits (Tampered e) looks tells e ends.0 ends.1
