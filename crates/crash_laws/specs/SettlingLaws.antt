-- Laws of steady devices.
use Rattle.std.specs.Prelude.{ℕ, Result, Ok, Err, IsTrue}
use Rattle.cell_types.specs.Image.{Image, IsUnchanged}
use Rattle.cell_types.specs.declared.refusal.Evidence.{Evidence}
use Rattle.cell_types.specs.declared.refusal.Refusal.{Refusal}
use Rattle.cell_types.specs.declared.refusal.Refusal.TheVariants.{Tampered}
use Rattle.tamper_rules.specs.Rules.{IsBroken}
use Rattle.tamper_rules.specs.Settling.{IsBlankOrSound, Sound}
use Rattle.tamper_rules.specs.declared.numbers.TheConstants.{OTHER_TARGET}
use Rattle.worm_device.specs.Counts.{IsStill}
use Rattle.worm_device.specs.State.{DeviceState, IsDevice, LeftSince}
use Rattle.recovery_engine.specs.Settling.{HasOtherTarget, HasSettled, Settles}
use Rattle.recovery_engine.specs.declared.settling.Ready.{Ready}
use Rattle.crash_laws.specs.SettlingSteadiness.{CrashesLeaveWhole, EndsAs, IsLeftWhole, IsSoundRule, IsSteady, StaysSteady}

-- where all that stands is sure, as it is behind a crash, a device is steady if that is blank or sound
abbrev pub SureIsSteady : Type 0
SureIsSteady = (s : DeviceState) → IsUnchanged s.image s.sure → IsBlankOrSound s.cells s.image → IsSteady s

-- settling leaves whole volumes at every moment, and a steady device, whatever it answers
abbrev pub SettlingStaysSteady : Type 0
SettlingStaysSteady =
    (old new : DeviceState) (result : Result Ready Refusal) → IsDevice old → IsTrue old.tells → Settles old new result
    → IsStill old.foreign_writes new.foreign_writes → IsSteady old → StaysSteady old new

-- so does a volume that is settled and then only looked at
abbrev pub LookingStaysSteady : Type 0
LookingStaysSteady =
    (old new : DeviceState) (r : Ready) → IsDevice old → IsDevice new → IsTrue old.tells → HasSettled old new r
    → IsStill old.foreign_writes new.foreign_writes → IsSteady old → StaysSteady old new

-- settling that ends well ends as it makes of a sound image
abbrev pub SettlingEndsAs : Type 0
SettlingEndsAs =
    (old new : DeviceState) (r : Ready) → IsDevice new → IsTrue old.tells → Settles old new (Ok r)
    → IsStill old.foreign_writes new.foreign_writes → (sound : Sound old.cells old.image)
    → EndsAs old new sound.after r.step

-- and so it stands behind looks at it
abbrev pub LookingEndsAs : Type 0
LookingEndsAs =
    (old new : DeviceState) (r : Ready) → IsDevice new → IsTrue old.tells → HasSettled old new r
    → IsStill old.foreign_writes new.foreign_writes → (sound : Sound old.cells old.image)
    → EndsAs old new sound.after r.step

-- where settling ends well from a steady state, the image was sound: no blank device is settled
abbrev pub SettledWasSound : Type 0
SettledWasSound =
    (old new : DeviceState) (r : Ready) → IsDevice old → IsTrue old.tells → Settles old new (Ok r)
    → IsStill old.foreign_writes new.foreign_writes → IsSteady old → Sound old.cells old.image

-- from a steady state settling names no tampering
abbrev pub SettlingNamesNone : Type 0
SettlingNamesNone =
    (old new : DeviceState) (e : Evidence) → IsDevice old → IsTrue old.tells → Settles old new (Err (Tampered e))
    → IsStill old.foreign_writes new.foreign_writes → IsSteady old → ⊥

-- and behind it no rule is broken in what stands, so that looks name none either
abbrev pub LookingFindsNone : Type 0
LookingFindsNone =
    (old new : DeviceState) (r : Ready) (number cell : ℕ) → IsDevice old → IsDevice new → IsTrue old.tells
    → HasSettled old new r → IsStill old.foreign_writes new.foreign_writes → IsSteady old
    → IsBroken new.cells new.image number cell → ⊥

-- A sound image breaks none of these rules; and where it breaks the one of targets, the target is blank. (That it may:
-- a done slot's journal names a cell that is blank, and so does the journal of the committed slot behind it.)
pub record SoundIsUnbroken : Type 0 where
  pub rules : (cells : ℕ) (image : Image) (number cell : ℕ) → Sound cells image → IsSoundRule number
      → IsBroken cells image number cell → ⊥
  pub targets : (cells : ℕ) (image : Image) (cell : ℕ) → Sound cells image → IsBroken cells image OTHER_TARGET cell
      → HasOtherTarget image cell → ⊥

-- what a crash could leave from a steady state on is whole
abbrev pub WholeFromTheStart : Type 0
WholeFromTheStart =
    (old new : DeviceState) (image : Image) → IsDevice old → IsSteady old → CrashesLeaveWhole old new
    → LeftSince new old.moment image → IsLeftWhole old image
