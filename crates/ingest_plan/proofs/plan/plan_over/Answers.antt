-- The journal of what was planned.
use Rattle.std.proofs.Common.{◌-◌, arith}
use Rattle.cell_types.proofs.Passed.{handed}
use Rattle.cell_pool.specs.Faults.{refusal_of_growth}
use Rattle.worm_device.specs.Overlaying.{overlay_shows}
use Rattle.worm_device.specs.Overlays.{of_overlay}
use Rattle.ingest_plan.proofs.Deriving.{plan_refused, planned_over}
use Rattle.ingest_plan.proofs.plan.plan_over.Goals as goal

pub returns-in_err-insert_document : goal.returns-in_err-insert_document
returns-in_err-insert_document g c =
    rw (handed c.from_residual.result (refusal_of_growth c.in_err-insert_document.field-0.0) c.from_residual.ensures.1)
    (plan_refused c.args.volume.now.geometry c.args.index.now c.over-pool.result.next c.insert_document.new.pool.next
    c.args.rows.now (of_overlay g.V.View.seen c.args.overlay.now)
    (of_overlay g.V.View.seen c.insert_document.new.overlay) c.in_err-insert_document.field-0.0
    (overlay_shows g.V.View.seen g.met.V.View.proper c.insert_document.new.overlay) c.requires.ready.fresh
    c.in_err-insert_document.ensures.indexes)

pub returns : goal.returns
returns g c =
    let indexes = c.in_ok-insert_document.ensures.indexes in
    record {
      called = indexes.called;
      quiet = indexes.quiet;
      fresh = indexes.fresh;
      loans = indexes.loans;
      ends = planned_over c.args.volume.now.geometry c.args.index.now.slot c.args.index.now.edge c.over-pool.result.next c.insert_document.new.pool.next c.args.rows.now c.args.index.now.end.level c.args.index.now.end.place
          (record { block_length = c.next.result - c.args.index.now.edge; journal = c.in_ok-journal.journal })
          (of_overlay g.V.View.seen c.args.overlay.now) (of_overlay g.V.View.seen c.insert_document.new.overlay) _
          c.over-pool.ensures.next (omega (arith, c.next.ensures, c.insert_document.ensures.from, c.over-pool.ensures.next)) c.insert_document.ensures.to indexes.ends c.planned.ensures c.in_ok-journal.ensures;
    }
