-- How a command begins from which every moment is to be whole.
use Rattle.std.specs.Prelude.{IsTrue}
use Rattle.worm_device.specs.Counts.{IsStill}
use Rattle.worm_device.specs.State.{DeviceState}
use Rattle.crash_laws.specs.SettlingSteadiness.{IsSteady}

-- the device tells, whatever a crash leaves of it at entry is blank or sound, and nobody else writes
pub record BeginsSteady (old new : DeviceState) : Type 0 where
  pub tells : IsTrue old.tells
  pub steady : IsSteady old
  pub alone : IsStill old.foreign_writes new.foreign_writes
