-- One posting after another.
use Rattle.std.proofs.Common.{Some, ap, arith, sym, ◌∙◌}
use Rattle.std.proofs.lemmas.Option.{slice_get-get_or}
use Rattle.kept_documents.proofs.AskingRows.{all_asked, none_there, one_more}
use Rattle.kept_documents.proofs.rows.are_trailed.Goals as goal

-- the posting has no trail
pub returns-then-not-trailed : goal.returns-then-not-trailed
returns-then-not-trailed g c =
    none_there c.args.geometry.now c.args.rows.now c.loop-row.row-index _ _ _ c.loop-row.invariant _
    (slice_get-get_or c.args.rows.now c.loop-row.row-index c.row-item.result c.loop-row-test.true
    ∙ ap Some (sym c.row-item.is))
    (rw c.if-not-trailed.true at c.in-Ok.ensures)

-- it has one
pub loop-row-preserved : goal.loop-row-preserved
loop-row-preserved g c =
    one_more c.args.geometry.now c.args.rows.now c.loop-row.row-index _ _ _ c.loop-row.invariant _
    (slice_get-get_or c.args.rows.now c.loop-row.row-index c.row-item.result c.loop-row-test.true
    ∙ ap Some (sym c.row-item.is))
    (rw c.if-not-trailed.false at c.in-Ok.ensures)

-- each was asked
pub returns : goal.returns
returns g c =
    all_asked c.args.geometry.now c.args.rows.now c.loop-row.row-index _ _ c.loop-row.invariant
    (omega (arith, c.loop-row-test.false))
