-- What a look at a settled volume knows of settling.
use Rattle.std.specs.Prelude.{Ok}
use Rattle.cell_types.specs.Image.{IsUnchanged}
use Rattle.worm_device.specs.Calls.{Called}
use Rattle.worm_device.specs.Counts.{IsStill}
use Rattle.worm_device.specs.State.{DeviceState}
use Rattle.recovery_engine.specs.Settling.{Settles}
use Rattle.recovery_engine.specs.declared.settling.Ready.{Ready}

-- The volume was settled, from old on, and has only been looked at from then on, up to new.
pub record HasLooked (r : Ready) (old settled new : DeviceState) : Type 0 where
  pub settles : Settles old settled (Ok r)
  pub looked : Called settled new
  pub quiet : IsStill settled.foreign_writes new.foreign_writes → IsUnchanged settled.image new.image
