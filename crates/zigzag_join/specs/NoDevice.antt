-- A device that tells nothing, for lists that stand over none.
use Rattle.std.specs.Prelude.{false, []}
use Rattle.worm_device.specs.State.{DeviceState}
use Rattle.worm_device.specs.Views.{no_cells}

abbrev pub no_device : DeviceState
no_device = record {
  cells = 0;
  tells = false;
  image = no_cells;
  sure = no_cells;
  faults = 0;
  foreign_writes = 0;
  reads = 0;
  begun = [];
  moment = 0;
  past = λ m. record { image = no_cells; sure = no_cells };
  steps = 0;
  steps_at = λ m. 0;
}
