-- Nothing is kept.
use Rattle.log_audit.specs.AllRows.{all_rows}
use Rattle.log_audit.proofs.OneMore.{shown_empty}
use Rattle.log_audit.proofs.kept.KeptCells.none.Goals as goal

pub returns-clause-blank : goal.returns-clause-blank
returns-clause-blank c = shown_empty (all_rows c.none.result) c.none.ensures
