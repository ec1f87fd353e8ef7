-- Slot 0's cells are 580 to 583.
use Rattle.small_volume.proofs.Small.{horizon_1, edge_584}
use Rattle.small_volume.proofs.volume_laws.slot_1_is_a_horizon_and_cell_584_an_edge.Goals as goal

pub returns-clause-horizon : goal.returns-clause-horizon
returns-clause-horizon c = horizon_1

pub returns-clause-edge : goal.returns-clause-edge
returns-clause-edge c = edge_584
