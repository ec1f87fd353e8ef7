-- The cells before this turn's were blank.
use Rattle.ingest_engine.proofs.SeenBlank.{SeenBlank}
use Rattle.ingest_engine.proofs.format.look_for_written_cells.Given as goal

abbrev pub invariant-loop-at : goal.invariant-loop-at
invariant-loop-at g l = SeenBlank l.at (g.D.Device.state l.fn.device) (g.D.Device.state l.device)
