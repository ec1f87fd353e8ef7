-- On a whole log no settling is refused, and no evidence is found.
use Rattle.std.proofs.Common.{◌≡◌, ℕ, List, Some, None, Err, refl, sym, ap, ◌∙◌, subst}
use Rattle.std.proofs.lemmas.Option.{none-some}
use Rattle.cell_types.specs.Image.{Image}
use Rattle.cell_types.specs.Layout.{Layout}
use Rattle.cell_types.specs.declared.refusal.Evidence.{Evidence}
use Rattle.cell_types.specs.declared.refusal.Refusal.{Refusal}
use Rattle.cell_types.specs.declared.refusal.Refusal.TheVariants as refusals
use Rattle.cell_types.specs.Records.{IsRecordCell}
use Rattle.volume_meaning.specs.Volumes.{Holds, IsVolume, volume_record}
use Rattle.volume_meaning.proofs.Extending.{volume_on}
use Rattle.tamper_rules.proofs.GivenUp.{one_layout}
use Rattle.worm_device.specs.Calls.{Called}
use Rattle.worm_device.specs.State.{DeviceState}
use Rattle.worm_device.proofs.Counting.{rose_or_still}
use Rattle.commit_record.specs.Opening.{IsNoVolumeCell}
use Rattle.recovery_engine.specs.Settling.{IsFoundBroken, IsSettlingRule, SettleEnds}
use Rattle.crash_laws.specs.SettlingSteadiness.{IsSteady}
use Rattle.command_laws.specs.WholeLogs.{HasSteadyVolume, HasWholeLog, IsUntampered, steady, unbroken}

some_is : (a b : List ℕ) → Some a ≡ Some b → a ≡ b
some_is a b e = cc

-- cell 0 of a volume is not blank
pub no_blank_cell : {g : Layout} {cells : ℕ} {image : Image} → IsVolume cells image g → image 0 ≡ None → ⊥
no_blank_cell volume blank = none-some volume.volume.cell (sym blank ∙ volume.volume.stands)

-- it is no cell of another kind
pub no_other_cell : {g : Layout} {cells : ℕ} {image : Image} → IsVolume cells image g → (found : List ℕ)
    → image 0 ≡ Some found → IsNoVolumeCell found → ⊥
no_other_cell {g} volume found stands none = none g
    (subst (λ (cell : List ℕ). IsRecordCell (volume_record g) 0 cell)
    (some_is volume.volume.cell found (sym volume.volume.stands ∙ stands)) volume.volume.is)

-- and states the device's own size
pub no_other_size : {g : Layout} {cells : ℕ} {image : Image} → IsVolume cells image g → (h : Layout) (stated : ℕ)
    → Holds image 0 (volume_record h) → h.cells ≡ stated → stated ≡ cells
no_other_size {g} {cells} volume h stated holds states =
    let same : h ≡ g =
    one_layout {cells = h.cells} {more = cells} h g (record { volume = holds; size = refl }) volume in
    sym states ∙ ap (λ (l : Layout). l.cells) same ∙ volume.size

-- a whole log hinders nothing that looks at these rules
module _ {IsLookedAt : ℕ → Type 0} {g : Layout} {old new : DeviceState} (whole : HasWholeLog IsLookedAt g old new)
    (called : Called old new) where
  volume_now : IsVolume new.cells new.image g
  volume_now =
      subst (λ (cells : ℕ). IsVolume cells new.image g) (sym called.cells) (volume_on called.image whole.volume)

  -- what is named of a steady device nobody names, and no rule that is looked at is broken
  pub none_found : (e : Evidence) → (IsSteady old → ⊥) → IsFoundBroken IsLookedAt old new e → ⊥
  none_found e alarm found = by_cause whole.untampered
    where
      by_cause : IsUntampered IsLookedAt old → ⊥
      by_cause (steady is) = alarm is
      by_cause (unbroken none) = none e.rule e.cell found.rule (found.before whole.alone)

-- settling ends with no refusal
pub settles_whole : {g : Layout} {old new : DeviceState} (whole : HasWholeLog IsSettlingRule g old new)
    (called : Called old new) (refusal : Refusal)
    → ((e : Evidence) → refusal ≡ refusals.Tampered e → IsSteady old → ⊥) → SettleEnds old new (Err refusal) → ⊥
settles_whole whole called refusals.DeviceFault alarm ends = rose_or_still _ _ ends whole.no_fault
settles_whole whole called refusals.NotFormatted alarm ends = no_blank_cell whole.volume (ends whole.tells)
settles_whole whole called (refusals.NotAVolume found) alarm ends =
    let is = ends whole.tells in no_other_cell (volume_now whole called) found is.0 is.1
settles_whole whole called (refusals.WrongSize stated real) alarm ends =
    let is = ends.2 whole.tells in ends.1 (no_other_size (volume_now whole called) is.0 stated is.1 is.2 ∙ sym ends.0)
settles_whole whole called (refusals.Tampered e) alarm ends =
    none_found whole called e (alarm e refl) (ends whole.tells)
settles_whole whole called refusal alarm ends = ends

-- nothing hinders settling of a steady volume
pub settling_steady : {g : Layout} {old new : DeviceState} → HasSteadyVolume g old new
    → HasWholeLog IsSettlingRule g old new
settling_steady whole = record {
  tells = whole.tells;
  volume = whole.volume;
  untampered = steady whole.is;
  alone = whole.alone;
  no_fault = whole.no_fault;
}
