-- The cells are looked at, cell 0 is written, and all is made sure.
use Rattle.ingest_engine.proofs.OneWritten.{synced_called, synced_only, wrote_called, wrote_only}
use Rattle.ingest_engine.proofs.format.write_volume_cell.Goals as goal

pub returns-in_err-written-clause-called : goal.returns-in_err-written-clause-called
returns-in_err-written-clause-called g c = wrote_called c.look_for_written_cells.ensures c.write.ensures

pub returns-in_err-written-clause-only : goal.returns-in_err-written-clause-only
returns-in_err-written-clause-only g c = wrote_only c.look_for_written_cells.ensures c.write.ensures

pub returns-in_default-clause-called : goal.returns-in_default-clause-called
returns-in_default-clause-called g c = wrote_called c.look_for_written_cells.ensures c.write.ensures

pub returns-in_default-clause-only : goal.returns-in_default-clause-only
returns-in_default-clause-only g c = wrote_only c.look_for_written_cells.ensures c.write.ensures

pub returns-in_err-sync-clause-called : goal.returns-in_err-sync-clause-called
returns-in_err-sync-clause-called g c = synced_called c.look_for_written_cells.ensures c.write.ensures c.sync.ensures

pub returns-in_err-sync-clause-only : goal.returns-in_err-sync-clause-only
returns-in_err-sync-clause-only g c = synced_only c.look_for_written_cells.ensures c.write.ensures c.sync.ensures

pub returns-clause-called : goal.returns-clause-called
returns-clause-called g c = synced_called c.look_for_written_cells.ensures c.write.ensures c.sync.ensures

pub returns-clause-only : goal.returns-clause-only
returns-clause-only g c = synced_only c.look_for_written_cells.ensures c.write.ensures c.sync.ensures
