-- The bytes of the cells before this turn's stand at the front, and the cells from there on are as they were.
use Rattle.std.proofs.Common.{◌*◌}
use Rattle.append_file.proofs.RowsOn.{RowSoFar}
use Rattle.append_file.proofs.row.gather.Given as goal

abbrev pub invariant-loop-k : goal.invariant-loop-k
invariant-loop-k l = RowSoFar l.bytes l.place l.k (15 * l.k) l.row l.initial.row
