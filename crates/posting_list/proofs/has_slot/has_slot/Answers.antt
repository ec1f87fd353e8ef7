-- What the search for the term's posting says.
use Rattle.cell_types.proofs.Passed.{handed}
use Rattle.posting_list.proofs.Landing.{has_of}
use Rattle.posting_list.proofs.has_slot.has_slot.Goals as goal

pub returns-in_err-found-clause-has : goal.returns-in_err-found-clause-has
returns-in_err-found-clause-has g c =
    rw (handed c.from_residual.result c.in_err-found.field-0.0 c.from_residual.ensures.1)
    (record { viewed = c.in_err-found.ensures.finds.viewed; ends = c.in_err-found.ensures.finds.ends })

pub returns-clause-has : goal.returns-clause-has
returns-clause-has g c =
    rw c.is_some.ensures
    (has_of c.args.reach.now c.args.term.now c.args.slot _ _ c.in_ok-found.found c.in_ok-found.ensures.finds)
