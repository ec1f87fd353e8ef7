-- The walk was ended.
use Rattle.cell_types.proofs.Passed.{handed}
use Rattle.cell_types.specs.Refusals.{refusal_of_fault}
use Rattle.ingest_engine.proofs.Walked.{walk_failed}
use Rattle.ingest_engine.proofs.indexing.path_end.Goals as goal

pub returns-in_err-part : goal.returns-in_err-part
returns-in_err-part g c =
    let fault = c.in_err-part.field-0.0 in
    rw (handed c.from_residual.result (refusal_of_fault fault) c.from_residual.ensures.1)
    (walk_failed c.args.ready.now c.args.id.now (g.D.Device.state c.args.device.now)
    (g.D.Device.state c.walk_on_device.new.device) fault c.in_err-part.ensures)
