-- What settling ends with: what it makes of a sound image.
use Rattle.std.proofs.Common.{◌≡◌, ◌≤◌, ◌+◌, ℕ, List, Some, Ok, refl, sym, ap, ◌∙◌, inl, inr, ⊎_elim, subst, arith}
use Rattle.std.specs.Prelude.{IsTrue}
use Rattle.std.proofs.lemmas.Option.{none-some}
use Rattle.cell_types.specs.Image.{Image, Extends}
use Rattle.cell_types.specs.Layout.{Layout, outcome_at, done_at}
use Rattle.cell_types.specs.declared.record_cell.RecordCell.TheVariants as records
use Rattle.volume_meaning.specs.Slots.{IsAbandonedSlot, IsDoneSlot, HasEnded, IsHorizon}
use Rattle.volume_meaning.specs.Volumes.{IsVolume}
use Rattle.volume_meaning.proofs.Holding.{one_record_holds}
use Rattle.tamper_rules.specs.Settling.{Settled, IsOneHorizon, After, nothing, abandoned, completed, Sound}
use Rattle.tamper_rules.proofs.GivenUp.{no_abandon, one_layout}
use Rattle.tamper_rules.proofs.Images.{same_image, same_both}
use Rattle.worm_device.specs.Counts.{IsStill}
use Rattle.worm_device.specs.State.{DeviceState, IsDevice}
use Rattle.worm_device.proofs.Images.{extends_self, extends_then}
use Rattle.recovery_engine.specs.Putting.{AreStanding, IsInFirst, ChangesBy}
use Rattle.commit_record.specs.declared.slot.SlotState.{SlotState}
use Rattle.commit_record.specs.declared.slot.SlotState.TheVariants.{Unused, Reserved, Abandoned, Committed, Done}
use Rattle.recovery_engine.specs.Ending.{abandon_put, done_put, end_phases, step_of}
use Rattle.recovery_engine.specs.Settling.{Settles, IsEnding, IsReady, StepMakes, settle_plan}
use Rattle.recovery_engine.specs.declared.settling.Ready.{Ready}
use Rattle.recovery_engine.specs.declared.settling.Step.{Step}
use Rattle.recovery_engine.specs.declared.settling.Step.TheVariants as steps
use Rattle.crash_laws.specs.SettlingSteadiness.{EndsAs, IsStepTo, IsSteady}
use Rattle.crash_laws.proofs.LeftWhole.{by_none, ends_none, sound_written}
use Rattle.crash_laws.proofs.PutCells.{ends_committed, ends_reserved, reserved_whole, committed_whole}

-- where nothing was put, the slot below the horizon had ended
step_ended : (g : Layout) (old new : DeviceState) (u : ℕ) (step : Step) → StepMakes g old new u step
    → new.sure ≡ old.image → (m : ℕ) → u ≡ m + 1 → HasEnded g old.image new.image m
step_ended g old new u steps.Nothing makes same m is = makes m is
step_ended g old new u (steps.Abandoned n) makes same m is = absurd
    (none-some _ (sym makes.3.outcome ∙ sym (ap (λ (i : Image). i (outcome_at n)) same)
    ∙ makes.4.abandons.outcome.stands))
step_ended g old new u (steps.Completed n) makes same m is = absurd
    (none-some _ (sym makes.5.done ∙ sym (ap (λ (i : Image). i (done_at n)) same) ∙ makes.6.done.stands))

-- settling that ends well
module _ (old new : DeviceState) (ready : Ready) (after : Image) (lies : Extends new.sure new.image)
    (is_ready : IsReady old new ready)
    (a : After old.cells old.image after) (settled : Settled old.cells after) (n : ℕ) where
  -- where nothing was put, settling makes the same image
  module _ (same_now : new.image ≡ old.image) (same_sure : new.sure ≡ old.image) where
    horizon_ended : (g : Layout) (m : ℕ) → IsVolume old.cells old.image g → IsOneHorizon g old.image (m + 1)
        → HasEnded g old.image old.image m
    horizon_ended g m v one =
        let r = ready.volume.geometry in
        let volume : IsVolume new.cells old.image r = subst
        (λ (i : Image). IsVolume new.cells i r) same_now is_ready.volume in
        let horizon : IsHorizon r old.image old.image ready.horizon = subst
        (λ (i : Image). IsHorizon r old.image i ready.horizon) same_now is_ready.horizon in
        let layout : r ≡ g = one_layout r g volume v in
        let u : ready.horizon ≡ m + 1 = one.one ready.horizon
        (subst (λ (k : Layout). IsHorizon k old.image old.image ready.horizon) layout horizon) in
        let ended : HasEnded r old.image old.image m = subst (λ (i : Image). HasEnded r old.image i m) same_now
        (step_ended r old new ready.horizon ready.step is_ready.step same_sure m u) in
        subst (λ (k : Layout). HasEnded k old.image old.image m) layout ended

    nothing_made : (x : Image) → After old.cells old.image x → old.image ≡ x
    nothing_made x (nothing s same) = sym (same_image same)
    nothing_made x (abandoned g m start reserved v one r rows) = absurd (⊎_elim
        (λ (z : IsAbandonedSlot g old.image old.image m). none-some _
        (sym r.outcome ∙ z.abandoned.abandons.outcome.stands))
        (λ (z : IsDoneSlot g old.image m). none-some _ (sym r.outcome ∙ z.done.commits.outcome.stands))
        (horizon_ended g m v one))
    nothing_made x (completed g m start reserved bytes journal v one c more rows) = absurd (⊎_elim
        (λ (z : IsAbandonedSlot g old.image old.image m). no_abandon bytes journal
        (one_record_holds old.image (outcome_at m)
        (records.Commit bytes journal) records.Abandon c.commits.outcome z.abandoned.abandons.outcome))
        (λ (z : IsDoneSlot g old.image m). none-some _ (sym c.done ∙ z.done.done.stands))
        (horizon_ended g m v one))

  both_same : (state : SlotState) → end_phases state ≡ 0 → Extends old.image new.sure → ChangesBy
      (IsInFirst (settle_plan old.image n state) 3) old.image new.image → EndsAs old new after steps.Nothing
  both_same state e keeps only =
      let back : Extends new.image old.image = by_none (λ put h. ends_none old.image n state e h.0 put h.2) only in
      let now : new.image ≡ old.image = same_both (extends_then keeps lies) back in
      let sure : new.sure ≡ old.image = same_both keeps (extends_then lies back) in
      let made = nothing_made now sure after a in
      record {
        image = now ∙ made;
        sure = sure ∙ made;
        step_is = (subst (Settled old.cells) (sym made) settled, λ cell. sym (ap (λ (i : Image). i cell) made));
      }

  whole_of : (state : SlotState) → (1 ≤ end_phases state → IsEnding old.cells old.image old.image n state)
      → 1 ≤ end_phases state → (image : Image) → Extends old.image image
      → AreStanding (IsInFirst (settle_plan old.image n state) 3) image → ChangesBy
      (IsInFirst (settle_plan old.image n state) 3) old.image image → image ≡ after
  whole_of Unused ending some image keeps all only = absurd (omega (arith, some))
  whole_of (Abandoned s r) ending some image keeps all only = absurd (omega (arith, some))
  whole_of (Done s r b j) ending some image keeps all only = absurd (omega (arith, some))
  whole_of (Reserved s r) ending some image keeps all only =
      let e = ending some in
      reserved_whole e.layout e.volume n e.horizon after a settled image keeps 2 s r e.is only
      (all (abandon_put n) (1, omega arith, inl (refl, refl)))
  whole_of (Committed s r b j) ending some image keeps all only =
      let e = ending some in
      committed_whole e.layout e.volume n e.horizon after a settled image keeps 2 s r b j e.is only
      (λ put h. all put (h.0, omega (arith, h.1), h.2)) (omega arith)
      (all (done_put n) (2, omega arith, inr (refl, refl)))

  both_whole : (state : SlotState) → (1 ≤ end_phases state → IsEnding old.cells old.image old.image n state)
      → 1 ≤ end_phases state
      → AreStanding (IsInFirst (settle_plan old.image n state) 3) new.sure → Extends old.image new.sure → ChangesBy
      (IsInFirst (settle_plan old.image n state) 3) old.image new.image → IsStepTo old.cells old.image after
      (step_of n state) → EndsAs old new after (step_of n state)
  both_whole state ending some all keeps only step = record {
    image = whole_of state ending some new.image (extends_then keeps lies)
        (λ put h. lies.keeps put.at put.value (all put h)) only;
    sure = whole_of state ending some new.sure keeps all (λ at value is. only at value (lies.keeps at value is));
    step_is = step;
  }

  both : (state : SlotState) → (1 ≤ end_phases state → IsEnding old.cells old.image old.image n state)
      → AreStanding (IsInFirst (settle_plan old.image n state) 3) new.sure → Extends old.image new.sure → ChangesBy
      (IsInFirst (settle_plan old.image n state) 3) old.image new.image → EndsAs old new after (step_of n state)
  both Unused ending all keeps only = both_same Unused refl keeps only
  both (Abandoned s r) ending all keeps only = both_same (Abandoned s r) refl keeps only
  both (Done s r b j) ending all keeps only = both_same (Done s r b j) refl keeps only
  both (Reserved s r) ending all keeps only =
      let e = ending (omega arith) in
      let made = ends_reserved e.layout e.volume n e.horizon after s r e.is a in
      both_whole (Reserved s r) ending (omega arith) all keeps only
      (e.layout, s, r, e.volume, made.one, e.is, made.rows)
  both (Committed s r b j) ending all keeps only =
      let e = ending (omega arith) in
      let made = ends_committed e.layout e.volume n e.horizon after s r b j e.is a in
      both_whole (Committed s r b j) ending (omega arith) all keeps only
      (e.layout, s, r, b, j, e.volume, made.one, e.is, made.rows)

-- settling that ends well ends as it makes of the image
pub settling_ends : (old new : DeviceState) (ready : Ready) (after : Image) → Extends new.sure new.image
    → IsTrue old.tells → Settles old new (Ok ready)
    → IsStill old.foreign_writes new.foreign_writes → After old.cells old.image after → Settled old.cells after
    → EndsAs old new after ready.step
settling_ends old new ready after lies tells settles still a settled =
    let w = settles.writes tells in
    let same : w.between ≡ old.image = same_image (w.quiet still) in
    let sure = w.sure refl in
    subst (EndsAs old new after) (sym w.step) (both old new ready after lies
    (settles.ends.1 tells) a settled w.slot w.state
    (λ some. subst (λ (i : Image). IsEnding old.cells old.image i w.slot w.state) same (w.ending some))
    (subst (λ (i : Image). AreStanding (IsInFirst (settle_plan i w.slot w.state) 3) new.sure) same sure.0) sure.1
    (subst (λ (i : Image). ChangesBy (IsInFirst (settle_plan i w.slot w.state) 3) old.image new.image) same
    (w.only still)))

-- where settling ends well from a steady state, the image was sound
pub settled_sound : (old new : DeviceState) (ready : Ready) → IsDevice old → IsTrue old.tells → Settles old new
    (Ok ready)
    → IsStill old.foreign_writes new.foreign_writes → IsSteady old → Sound old.cells old.image
settled_sound old new ready device tells settles still steady =
    let w = settles.writes tells in
    let same : w.between ≡ old.image = same_image (w.quiet still) in
    let start = zero_by w.state w.slot
    (λ some. subst (λ (i : Image). IsEnding old.cells old.image i w.slot w.state) same (w.ending some))
    (subst (λ (i : Image). ChangesBy (IsInFirst (settle_plan i w.slot w.state) 3) old.image new.image) same
    (w.only still)) in
    sound_written start.0 start.1 (steady.each old.image
    (record { above = device.sure; below = extends_self old.image }))
  where
    stood : Extends new.image old.image → (value : List ℕ) × (old.image 0 ≡ Some value)
    stood back = let v = (settles.ends.1 tells).volume in (v.volume.cell, back.keeps 0 v.volume.cell v.volume.stands)

    ends_at : {n : ℕ} {state : SlotState} → IsEnding old.cells old.image old.image n state → (value : List ℕ) ×
        (old.image 0 ≡ Some value)
    ends_at e = (e.volume.volume.cell, e.volume.volume.stands)

    zero_by : (state : SlotState) (n : ℕ) → (1 ≤ end_phases state → IsEnding old.cells old.image old.image n state)
        → ChangesBy (IsInFirst (settle_plan old.image n state) 3) old.image new.image
        → (value : List ℕ) × (old.image 0 ≡ Some value)
    zero_by Unused n ending only = stood (by_none (λ put h. ends_none old.image n Unused refl h.0 put h.2) only)
    zero_by (Abandoned s r) n ending only = stood (by_none
        (λ put h. ends_none old.image n (Abandoned s r) refl h.0 put h.2) only)
    zero_by (Done s r b j) n ending only = stood (by_none
        (λ put h. ends_none old.image n (Done s r b j) refl h.0 put h.2) only)
    zero_by (Reserved s r) n ending only = ends_at (ending (omega arith))
    zero_by (Committed s r b j) n ending only = ends_at (ending (omega arith))
