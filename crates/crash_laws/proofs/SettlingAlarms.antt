-- What is named as evidence of tampering was broken in the image at entry, and no steady image is broken so.
use Rattle.std.proofs.Common.{◌≡◌, ◌⊎◌, Err, inl, inr, ⊎_elim, ℕ, None, sym, ◌∙◌, subst}
use Rattle.std.specs.Prelude.{IsTrue}
use Rattle.std.proofs.lemmas.Option.{none-some}
use Rattle.cell_types.specs.declared.refusal.Evidence.{Evidence}
use Rattle.cell_types.specs.declared.refusal.Refusal.TheVariants.{Tampered}
use Rattle.tamper_rules.specs.Rules.{IsBroken}
use Rattle.tamper_rules.specs.Settling.{Sound}
use Rattle.tamper_rules.specs.declared.numbers.TheConstants.{BROKEN_JOURNAL, OTHER_TARGET}
use Rattle.worm_device.specs.Counts.{IsStill}
use Rattle.worm_device.specs.State.{DeviceState, IsDevice}
use Rattle.worm_device.proofs.Images.{extends_self}
use Rattle.tamper_rules.proofs.SettledLaws.{unbroken}
use Rattle.cell_types.specs.Image.{Image}
use Rattle.recovery_engine.specs.LastSlot.{IsSlotRule}
use Rattle.recovery_engine.specs.Settling.{HasSettled, IsFoundBroken, IsSettlingRule, Settles}
use Rattle.recovery_engine.specs.declared.settling.Ready.{Ready}
use Rattle.crash_laws.specs.SettlingSteadiness.{IsSteady}
use Rattle.crash_laws.proofs.LookedAt.{looked_ends, looked_sound}
use Rattle.crash_laws.proofs.SoundRules.{sound_targets, sound_unbroken}

-- where a rule is broken, the image of a steady device is sound
pub sound_broken : (s : DeviceState) (number cell : ℕ) → IsDevice s → IsSteady s → IsBroken s.cells s.image number cell
    → Sound s.cells s.image
sound_broken s number cell device steady broken = ⊎_elim
    (λ (blank : (at : ℕ) → s.image at ≡ None). absurd (none-some _ (sym (blank 0) ∙ broken.volume.volume.stands)))
    (λ (sound : Sound s.cells s.image). sound)
    (steady.each s.image (record { above = device.sure; below = extends_self s.image }))

pub settling_named : (old new : DeviceState) (e : Evidence) → IsDevice old → IsTrue old.tells
    → Settles old new (Err (Tampered e)) → IsStill old.foreign_writes new.foreign_writes → IsSteady old → ⊥
settling_named old new e device tells settles still steady = ⊎_elim
    (λ (a : IsSlotRule e.rule). sound_unbroken old.cells old.image e.rule e.cell sound (inl a) broken)
    (λ (b : (e.rule ≡ BROKEN_JOURNAL) ⊎ (e.rule ≡ OTHER_TARGET)). ⊎_elim
    (λ (c : e.rule ≡ BROKEN_JOURNAL).
    sound_unbroken old.cells old.image e.rule e.cell sound (inr (inr c)) broken)
    (λ (c : e.rule ≡ OTHER_TARGET). sound_targets old.cells old.image e.cell sound
    (subst (λ (number : ℕ). IsBroken old.cells old.image number e.cell) c broken)
    (settles.targets tells c still))
    b)
    found.rule
  where
    found : IsFoundBroken IsSettlingRule old new e
    found = settles.ends tells

    broken : IsBroken old.cells old.image e.rule e.cell
    broken = found.before still

    sound : Sound old.cells old.image
    sound = sound_broken old e.rule e.cell device steady broken

-- and where a volume was settled and looked at since, no rule is broken in what stands
pub looked_unbroken : (old new : DeviceState) (r : Ready) (number cell : ℕ) → IsDevice old → IsDevice new
    → IsTrue old.tells → HasSettled old new r → IsStill old.foreign_writes new.foreign_writes → IsSteady old
    → IsBroken new.cells new.image number cell → ⊥
looked_unbroken old new r number cell device device_new tells h still steady broken =
    let sound : Sound old.cells old.image = looked_sound old new r tells h still device device_new steady in
    let ends = looked_ends old new r tells h still device_new.sure sound in
    let cells : new.cells ≡ old.cells = h.looked.cells ∙ h.settles.called.cells in
    unbroken old.cells sound.after number cell sound.settled
    (subst (λ (i : Image). IsBroken old.cells i number cell) ends.image
    (subst (λ (n : ℕ). IsBroken n new.image number cell) cells broken))
