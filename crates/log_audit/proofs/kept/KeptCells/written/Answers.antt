-- The row that is kept.
use Rattle.log_audit.proofs.Rowed.{are_rows}
use Rattle.log_audit.proofs.kept.KeptCells.written.Goals as goal

pub returns-clause-rows : goal.returns-clause-rows
returns-clause-rows c = are_rows c.args.self.now.kept
