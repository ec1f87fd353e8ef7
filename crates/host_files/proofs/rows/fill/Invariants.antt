-- The cells before this turn's are there.
use Rattle.host_files.proofs.RowBytes.{AreFirst}
use Rattle.host_files.proofs.rows.fill.Given as goal

abbrev pub invariant-loop-place : goal.invariant-loop-place
invariant-loop-place l = AreFirst l.place l.values l.bytes
