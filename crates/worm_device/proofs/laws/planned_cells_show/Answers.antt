-- Cell by cell, by whether it is planned, and if not, whether it is asked for below.
use Rattle.worm_device.proofs.Covering.{planned_show}
use Rattle.worm_device.proofs.laws.planned_cells_show.Goals as goal

pub returns : goal.returns
returns c = λ s image is lower planned. planned_show s image is lower planned
