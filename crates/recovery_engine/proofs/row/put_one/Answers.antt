-- The sync behind the cell.
use Rattle.recovery_engine.proofs.Phasing.{phase_synced}
use Rattle.recovery_engine.proofs.row.put_one.Goals as goal

pub returns : goal.returns
returns g c = phase_synced tt tt tt c.in_ok-put_cell.ensures c.in_ok-sync.ensures
