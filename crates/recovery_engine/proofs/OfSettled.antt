-- Settling a settled volume, where nobody else writes, leaves it as it is.
use Rattle.std.proofs.Common.{◌≡◌, ◌≤◌, ⊎_elim, ℕ, Result, Some, refl, subst, arith}
use Rattle.std.specs.Prelude.{IsTrue}
use Rattle.cell_types.specs.Image.{Image}
use Rattle.cell_types.specs.declared.refusal.Refusal.{Refusal}
use Rattle.tamper_rules.specs.Settling.{Settled}
use Rattle.tamper_rules.proofs.Images.{same_both, same_image}
use Rattle.worm_device.specs.Counts.{IsStill}
use Rattle.worm_device.specs.State.{DeviceState}
use Rattle.recovery_engine.specs.Putting.{IsInFirst, IsPut}
use Rattle.recovery_engine.specs.declared.put.Put.{Put}
use Rattle.commit_record.specs.declared.slot.SlotState.{SlotState}
use Rattle.commit_record.specs.declared.slot.SlotState.TheVariants.{Unused, Reserved, Abandoned, Committed, Done}
use Rattle.recovery_engine.specs.Ending.{end_phases}
use Rattle.recovery_engine.specs.Settling.{EndsByPhases, IsEnding, Settles, settle_plan}
use Rattle.recovery_engine.specs.declared.settling.Ready.{Ready}
use Rattle.recovery_engine.proofs.HalfDone.{settled_is_whole}

-- a slot with nothing left to be ended has no phase
none_or_some : (state : SlotState) → (1 ≤ end_phases state → end_phases state ≡ 0) → end_phases state ≡ 0
none_or_some Unused none = refl
none_or_some (Reserved start length) none = absurd (omega (arith, none (omega arith)))
none_or_some (Abandoned start length) none = refl
none_or_some (Committed start length bytes journal) none = absurd (omega (arith, none (omega arith)))
none_or_some (Done start length bytes journal) none = refl

-- and nothing is put
none_put : (image : Image) (n : ℕ) (state : SlotState) (j : ℕ) (put : Put) → end_phases state ≡ 0
    → settle_plan image n state j put → ⊥
none_put image n Unused j put none h = ⊎_elim (λ (a : (j ≡ 1) × ⊥). a.1) (λ (b : (j ≡ 2) × ⊥). b.1) h
none_put image n (Reserved start length) j put none h = absurd (omega (arith, none))
none_put image n (Abandoned start length) j put none h =
    ⊎_elim (λ (a : (j ≡ 1) × ⊥). a.1) (λ (b : (j ≡ 2) × ⊥). b.1) h
none_put image n (Committed start length bytes journal) j put none h = absurd (omega (arith, none))
none_put image n (Done start length bytes journal) j put none h =
    ⊎_elim (λ (a : (j ≡ 1) × ⊥). a.1) (λ (b : (j ≡ 2) × ⊥). b.1) h

module _ (old new : DeviceState) (tells : IsTrue old.tells) (still : IsStill old.foreign_writes new.foreign_writes)
    (entry : Settled old.cells old.image) where
  none_to_end : (result : Result Ready Refusal) → (w : EndsByPhases old new result) → end_phases w.state ≡ 0
  none_to_end result w = none_or_some w.state (λ some.
      let e : IsEnding old.cells old.image old.image w.slot w.state =
      subst (λ (i : Image). IsEnding old.cells old.image i w.slot w.state) (same_image (w.quiet still)) (w.ending some) in
      settled_is_whole {cells = old.cells} {more = old.cells} e.layout w.slot w.state entry e.volume e.horizon e.is)

  -- so the image is the one at entry
  pub settled_same : (result : Result Ready Refusal) → Settles old new result → new.image ≡ old.image
  settled_same result s =
      let w = s.writes tells in
      let none = none_to_end result w in
      same_both s.called.image (record {
        keeps = λ cell value is. ⊎_elim
            (λ (was : old.image cell ≡ Some value). was)
            (λ (put : IsPut (IsInFirst (settle_plan w.between w.slot w.state) 3) old.image cell value).
            absurd (none_put w.between w.slot w.state put.planned.0 put.put none put.planned.2))
            (w.only still cell value is);
      })
