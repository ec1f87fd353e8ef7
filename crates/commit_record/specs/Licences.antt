-- When evidence of tampering may be named.
use Rattle.std.specs.Prelude.{◌≡◌, Some}
use Rattle.cell_types.specs.Layout.{Layout}
use Rattle.cell_types.specs.declared.refusal.Evidence.{Evidence}
use Rattle.volume_meaning.specs.Volumes.{IsVolume}
use Rattle.tamper_rules.specs.Rules.{IsPlaceOf, IsBroken}
use Rattle.worm_device.specs.Counts.{IsStill}
use Rattle.worm_device.specs.State.{DeviceState}

-- The evidence stands on the device, in a place of its rule by the layout that cell 0 states; and where nobody else
-- wrote in the call, the rule is broken there.
pub record IsLicensed (old new : DeviceState) (e : Evidence) : Type 0 where
  pub stands : new.image e.cell ≡ Some e.found
  pub layout : Layout
  pub volume : IsVolume new.cells new.image layout
  pub place : IsPlaceOf layout e.rule e.cell
  pub broken : IsStill old.foreign_writes new.foreign_writes → IsBroken new.cells new.image e.rule e.cell
