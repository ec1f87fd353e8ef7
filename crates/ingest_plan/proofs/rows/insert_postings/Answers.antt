-- One posting after another.
use Rattle.std.proofs.Common.{◌≡◌, ◌<◌, ◌∙◌, ℕ, List, Some, ap, sym, subst, arith}
use Rattle.std.specs.Prelude.{IsTrue, length, slice_get, slice_index_or}
use Rattle.std.proofs.lemmas.Option.{slice_get-get_or}
use Rattle.volume_meaning.specs.Postings.{ListedPosting}
use Rattle.cell_types.proofs.Passed.{handed}
use Rattle.worm_device.specs.Overlaying.{overlay_shows}
use Rattle.worm_device.specs.Overlays.{of_overlay}
use Rattle.ingest_plan.proofs.RowSteps.{row_begins, row_next, row_refused}
use Rattle.ingest_plan.proofs.rows.insert_postings.Goals as goal

-- the posting that comes next stands in the row
here : (rows : List ListedPosting) (i : ℕ) (p : ListedPosting) → i < length rows → p ≡ slice_index_or rows i p
    → slice_get rows i ≡ Some p
here rows i p less is = slice_get-get_or rows i p less ∙ ap (λ (q : ListedPosting). Some q) (sym is)

pub loop-row-init : goal.loop-row-init
loop-row-init g c = row_begins c.args.geometry.now c.args.rows.now c.args.pool.now
    (of_overlay g.V.View.seen c.args.overlay.now) c.requires.free c.requires.untouched

pub loop-row-preserved : goal.loop-row-preserved
loop-row-preserved g c =
    row_next c.args.geometry.now c.args.rows.now c.loop-row.row-index c.args.pool.now c.loop-row.pool c.insert_one.new.pool
    (of_overlay g.V.View.seen c.args.overlay.now) (of_overlay g.V.View.seen c.loop-row.overlay) (of_overlay g.V.View.seen c.insert_one.new.overlay) _
    c.in_ok-insert_one.field-0 c.requires.order (here c.args.rows.now c.loop-row.row-index c.row-item.result c.loop-row-test.true c.row-item.is)
    (omega (arith, c.requires.floor, c.requires.fresh)) c.loop-row.invariant
    c.loop-row.overlay.own.now.owned.unowned c.insert_one.ensures.pool c.in_ok-insert_one.ensures.inserts

pub returns-in_err-insert_one-clause-inserts : goal.returns-in_err-insert_one-clause-inserts
returns-in_err-insert_one-clause-inserts g c =
    rw (handed c.from_residual.result c.in_err-insert_one.field-0.0 c.from_residual.ensures.1)
    (row_refused c.args.geometry.now c.args.rows.now c.loop-row.row-index c.args.pool.now c.loop-row.pool c.insert_one.new.pool
    (of_overlay g.V.View.seen c.args.overlay.now) (of_overlay g.V.View.seen c.loop-row.overlay) (of_overlay g.V.View.seen c.insert_one.new.overlay) _
    c.in_err-insert_one.field-0.0 (overlay_shows g.V.View.seen g.met.V.View.proper c.args.overlay.now)
    (here c.args.rows.now c.loop-row.row-index c.row-item.result c.loop-row-test.true c.row-item.is) c.loop-row.invariant
    c.in_err-insert_one.ensures.inserts)

pub insert_one-requires : goal.insert_one-requires
insert_one-requires g c =
    let so_far = c.loop-row.invariant in
    let row : ListedPosting = c.row-item.result in
    let is_here = here c.args.rows.now c.loop-row.row-index row c.loop-row-test.true c.row-item.is in
    record {
      list = c.requires.order.lists_are c.loop-row.row-index row is_here;
      key = c.requires.order.keys_fit c.loop-row.row-index row is_here;
      floor = omega (arith, c.requires.floor, so_far.fresh);
      fresh = omega (arith, c.requires.fresh, so_far.fresh, so_far.from);
      room = omega (arith, c.requires.room, so_far.to, so_far.end, c.loop-row-test.true);
      free = so_far.inserted.free;
      ready = λ tells. so_far.ready (subst IsTrue so_far.called.tells tells) row
          (c.requires.order.lists_are c.loop-row.row-index row is_here)
          (λ i p less is. c.requires.order.order i c.loop-row.row-index p row less is is_here);
    }
