-- The postings before this turn's were added.
use Rattle.std.proofs.Common.{take}
use Rattle.list_audit.specs.Tables.{AddsRows}
use Rattle.list_audit.proofs.table.PostingTable.add_all.Given as goal

abbrev pub invariant-loop-row : goal.invariant-loop-row
invariant-loop-row l = AddsRows (take l.row-index l.rows) l.fn.self.rows.items l.self.rows.items
