-- The stamp is not past the others, the path has no end, or the index was not planned.
use Rattle.cell_types.proofs.Passed.{handed}
use Rattle.std.proofs.Common.{Err, Ok}
use Rattle.ingest_engine.proofs.Walked.{not_past, path_refused, path_since, planned, unplanned}
use Rattle.ingest_engine.proofs.indexing.plan_for.Goals as goal

pub returns-in_err-check_later : goal.returns-in_err-check_later
returns-in_err-check_later g c =
    let refusal = c.in_err-check_later.field-0.0 in
    rw (handed c.from_residual.result refusal c.from_residual.ensures.1)
    (not_past c.args.ready.now c.args.id.now c.args.stamp c.args.body.now (g.D.Device.state c.args.device.now)
    (g.D.Device.state c.check_later.new.device) refusal c.in_err-check_later.ensures)

pub returns-in_err-end : goal.returns-in_err-end
returns-in_err-end g c =
    let refusal = c.in_err-end.field-0.0 in
    let looks = c.in_ok-check_later.ensures in
    rw (handed c.from_residual-in_err-end.result refusal c.from_residual-in_err-end.ensures.1)
    (path_refused c.args.ready.now c.args.id.now c.args.stamp c.args.body.now (g.D.Device.state c.args.device.now)
    (g.D.Device.state c.path_end.new.device) refusal looks.ends.1
    (path_since c.args.ready.now c.args.id.now _ (g.D.Device.state c.check_later.new.device) _ looks.called looks.quiet
    looks.ends.0 (Err refusal) c.in_err-end.ensures))

pub returns-in_err-index : goal.returns-in_err-index
returns-in_err-index g c =
    let refusal = c.in_err-index.field-0.0 in
    let looks = c.in_ok-check_later.ensures in
    rw (handed c.from_residual-in_err-index.result refusal c.from_residual-in_err-index.ensures.1)
    (unplanned c.args.ready.now c.args.id.now c.args.stamp c.args.body.now (g.D.Device.state c.args.device.now)
    (g.D.Device.state c.path_end.new.device) (g.D.Device.state c.plan_index.new.device) c.in_ok-end.end
    looks.ends.1
    (path_since c.args.ready.now c.args.id.now _ (g.D.Device.state c.check_later.new.device) _ looks.called looks.quiet
    looks.ends.0 (Ok c.in_ok-end.end) c.in_ok-end.ensures) refusal c.in_err-index.ensures)

pub returns : goal.returns
returns g c =
    let looks = c.in_ok-check_later.ensures in
    planned c.args.ready.now c.args.id.now c.args.stamp c.args.body.now (g.D.Device.state c.args.device.now)
    (g.D.Device.state c.path_end.new.device) (g.D.Device.state c.plan_index.new.device) c.in_ok-end.end
    looks.ends.1
    (path_since c.args.ready.now c.args.id.now _ (g.D.Device.state c.check_later.new.device) _ looks.called looks.quiet
    looks.ends.0 (Ok c.in_ok-end.end) c.in_ok-end.ensures) c.in_ok-index.index c.in_ok-index.ensures
