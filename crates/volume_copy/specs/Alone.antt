-- That nothing else happens to two devices while one is copied to the other.
use Rattle.std.specs.Prelude.{IsTrue}
use Rattle.worm_device.specs.Counts.{IsStill}
use Rattle.worm_device.specs.State.{DeviceState}

-- both devices tell what stands in their cells, and nobody else writes on either
pub record AreAlone (from from' to to' : DeviceState) : Type 0 where
  pub from_tells : IsTrue from.tells
  pub to_tells : IsTrue to.tells
  pub from_alone : IsStill from.foreign_writes from'.foreign_writes
  pub to_alone : IsStill to.foreign_writes to'.foreign_writes

-- no call of either device fails
pub record AreUnfailed (from from' to to' : DeviceState) : Type 0 where
  pub from_unfailed : IsStill from.faults from'.faults
  pub to_unfailed : IsStill to.faults to'.faults
