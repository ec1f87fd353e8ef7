-- The last stamp is known, or was not to be read.
use Rattle.cell_types.proofs.Passed.{handed}
use Rattle.cell_types.specs.Refusals.{refusal_of_fault}
use Rattle.ingest_engine.proofs.ReadStamps.{compared, not_read}
use Rattle.ingest_engine.proofs.stamps.check_later.Goals as goal

pub returns-in_err-last : goal.returns-in_err-last
returns-in_err-last g c =
    let fault = c.in_err-last.field-0.0 in
    rw (handed c.from_residual.result (refusal_of_fault fault) c.from_residual.ensures.1)
    (rw c.in-Some.is (not_read c.args.ready.now c.in-Some.given fault c.in_err-last.ensures))

pub returns : goal.returns
returns g c =
    rw c.in-Some.is (compared c.args.ready.now c.in-Some.given c.in_ok-last.last c.past_last.result c.in_ok-last.ensures
    c.past_last.ensures)
