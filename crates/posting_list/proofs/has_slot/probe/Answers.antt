-- A fault of the search.
use Rattle.cell_types.proofs.Passed.{handed}
use Rattle.posting_list.proofs.Bisecting.{probe_fault}
use Rattle.posting_list.proofs.has_slot.probe.Goals as goal

pub returns-in_err-found-clause-probes : goal.returns-in_err-found-clause-probes
returns-in_err-found-clause-probes g c =
    rw (handed c.from_residual.result c.in_err-found.field-0.0 c.from_residual.ensures.1)
    (probe_fault c.args.reach.now c.args.list c.args.key _ _ c.in_err-found.field-0.0 c.requires.list
    c.in_err-found.ensures.finds)
