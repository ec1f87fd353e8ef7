-- All rows of written cells in chunks.
use Rattle.std.specs.Prelude.{List}
use Rattle.log_audit.specs.Chunks.{rows_over}
use Rattle.log_audit.specs.declared.chunked.ChunkedRows.{ChunkedRows}
use Rattle.log_audit.specs.declared.written.WrittenCell.{WrittenCell}

-- one after another
abbrev pub all_rows : ChunkedRows → List WrittenCell
all_rows rows = rows_over rows.full.items rows.last.items
