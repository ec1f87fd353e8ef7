-- In a settled image no slot is half done.
use Rattle.std.proofs.Common.{◌≡◌, ◌+◌, ℕ, None, refl, sym, ◌∙◌, subst, ⊎_elim, arith}
use Rattle.std.proofs.lemmas.Option.{none-some}
use Rattle.cell_types.specs.Image.{Image}
use Rattle.cell_types.specs.Layout.{Layout, outcome_at}
use Rattle.cell_types.specs.declared.record_cell.RecordCell.{RecordCell}
use Rattle.cell_types.specs.declared.record_cell.RecordCell.TheVariants as records
use Rattle.volume_meaning.specs.Slots.{HasEnded, IsAbandonedSlot, IsDoneSlot, IsHorizon}
use Rattle.volume_meaning.specs.Volumes.{Holds, IsVolume}
use Rattle.volume_meaning.proofs.Holding.{one_record_holds}
use Rattle.tamper_rules.specs.Settling.{Settled}
use Rattle.tamper_rules.proofs.GivenUp.{one_layout}
use Rattle.commit_record.specs.States.{IsState}
use Rattle.commit_record.specs.declared.slot.SlotState.{SlotState}
use Rattle.commit_record.specs.declared.slot.SlotState.TheVariants.{Unused, Reserved, Abandoned, Committed, Done}
use Rattle.recovery_engine.specs.Ending.{end_phases}

blank_holds : {image : Image} {at : ℕ} {r : RecordCell} → image at ≡ None → Holds image at r → ⊥
blank_holds blank held = none-some _ (sym blank ∙ held.stands)

commit_abandon : (bytes journal : ℕ) → records.Commit bytes journal ≡ records.Abandon → ⊥
commit_abandon bytes journal e = cc

-- a slot that has ended is in a state in which nothing is left to be ended
ended_is_whole : (g : Layout) (image : Image) (n : ℕ) (state : SlotState) → HasEnded g image image n
    → IsState g image image n state → end_phases state ≡ 0
ended_is_whole g image n Unused ended is = refl
ended_is_whole g image n (Reserved start length) ended is = absurd (⊎_elim
    (λ (a : IsAbandonedSlot g image image n). blank_holds is.outcome a.abandoned.abandons.outcome)
    (λ (d : IsDoneSlot g image n). blank_holds is.outcome d.done.commits.outcome)
    ended)
ended_is_whole g image n (Abandoned start length) ended is = refl
ended_is_whole g image n (Committed start length bytes journal) ended is = absurd (⊎_elim
    (λ (a : IsAbandonedSlot g image image n). commit_abandon bytes journal
    (one_record_holds image (outcome_at n) _ _ is.commits.outcome a.abandoned.abandons.outcome))
    (λ (d : IsDoneSlot g image n). blank_holds is.done d.done.done)
    ended)
ended_is_whole g image n (Done start length bytes journal) ended is = refl

-- so is the slot below the horizon of a settled image
pub settled_is_whole : {cells more : ℕ} {image : Image} (g : Layout) (n : ℕ) (state : SlotState) → Settled cells image
    → IsVolume more image g → IsHorizon g image image (n + 1) → IsState g image image n state → end_phases state ≡ 0
settled_is_whole {cells} {more} {image} g n state settled volume horizon is =
    ended_is_whole g image n state
    (subst (λ (h : Layout). HasEnded h image image n) same
    (settled.settled.ended (n + 1) n
    (subst (λ (h : Layout). IsHorizon h image image (n + 1)) (sym same) horizon) (omega arith)))
    is
  where
    same : settled.layout ≡ g
    same = one_layout {cells = cells} {more = more} settled.layout g settled.volume volume
