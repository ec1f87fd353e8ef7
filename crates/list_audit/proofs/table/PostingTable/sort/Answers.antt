-- Sorting moves rows.
use Rattle.list_audit.proofs.Tabling.{same_rows}
use Rattle.list_audit.proofs.table.PostingTable.sort.Goals as goal

pub returns-clause-same : goal.returns-clause-same
returns-clause-same c = same_rows _ _ c.sort_unstable.ensures.permutation
