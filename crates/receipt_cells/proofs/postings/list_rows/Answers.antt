-- One posting after another.
use Rattle.std.proofs.Common.{Some, ap, arith, sym, ◌∙◌}
use Rattle.std.proofs.lemmas.Option.{slice_get-get_or}
use Rattle.receipt_cells.proofs.Rowing.{all_listed, none_before, one_more, row_fails}
use Rattle.receipt_cells.proofs.postings.list_rows.Goals as goal

pub loop-row-init : goal.loop-row-init
loop-row-init g c = none_before c.args.geometry.now c.args.rows.now _ _

-- the cells of one trail could not be listed
pub returns-in-Err : goal.returns-in-Err
returns-in-Err g c =
    row_fails c.args.geometry.now c.args.rows.now c.loop-row.row-index _ _ _ _ _ _ c.loop-row.invariant _
    (slice_get-get_or c.args.rows.now c.loop-row.row-index c.row-item.result c.loop-row-test.true
    ∙ ap Some (sym c.row-item.is))
    c.in-Err.why (rw c.in-Err.is at c.list_row.ensures)

-- they were
pub loop-row-preserved : goal.loop-row-preserved
loop-row-preserved g c =
    one_more c.args.geometry.now c.args.rows.now c.loop-row.row-index _ _ _ _ _ _ c.loop-row.invariant _
    (slice_get-get_or c.args.rows.now c.loop-row.row-index c.row-item.result c.loop-row-test.true
    ∙ ap Some (sym c.row-item.is))
    (rw c.in_default.is at c.list_row.ensures)

-- those of each were
pub returns : goal.returns
returns g c =
    all_listed c.args.geometry.now c.args.rows.now c.loop-row.row-index _ _ _ _ c.loop-row.invariant
    (omega (arith, c.loop-row-test.false))
