-- What a look for written cells knows when the cells before one were blank.
use Rattle.std.proofs.Common.{◌≡◌, ◌≤◌, ℕ}
use Rattle.std.specs.Prelude.{IsTrue}
use Rattle.cell_types.specs.Image.{IsUnchanged}
use Rattle.worm_device.specs.Calls.{Called}
use Rattle.worm_device.specs.Counts.{IsStill, Rose}
use Rattle.worm_device.specs.State.{DeviceState}
use Rattle.ingest_engine.specs.Formats.{IsBlankBelow}

-- the first n cells were read and were blank, nothing has changed, and no call has failed
pub record SeenBlank (n : ℕ) (old now : DeviceState) : Type 0 where
  pub called : Called old now
  pub only : IsStill old.foreign_writes now.foreign_writes → IsUnchanged old.image now.image
  pub blank : IsTrue old.tells → IsBlankBelow n old.image
  pub faults : now.faults ≡ old.faults
  pub read : 1 ≤ n → Rose old.reads now.reads
