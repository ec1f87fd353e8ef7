-- Kept cells as a row.
use Rattle.std.proofs.Common.{ℕ, List}
use Rattle.log_audit.specs.Cells.{AreCellsKept}
use Rattle.log_audit.specs.Rows.{AreRows}
use Rattle.log_audit.specs.Viewing.{shown_one}
use Rattle.log_audit.specs.declared.written.WrittenCell.{WrittenCell}
use Rattle.log_audit.proofs.Finding.{shown_kept}

pub are_rows : {count : ℕ} {rows : List WrittenCell} {starts : List ℕ} → AreCellsKept count rows starts → AreRows count rows
are_rows {count} {rows} kept = record {
  rising = kept.rising;
  inside = λ k row stands. (kept.each k row stands).0;
  each = λ k row stands. shown_kept rows k row kept.rising stands;
  all = λ number value shows. let one = shown_one rows number value shows in (one.place, one.row, one.stands, one.number_is);
}
