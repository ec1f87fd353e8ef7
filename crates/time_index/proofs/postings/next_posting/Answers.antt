-- By the first search, and by the second.
use Rattle.std.proofs.Common.{arith}
use Rattle.cell_types.proofs.Passed.{handed}
use Rattle.time_index.proofs.NextPostings.{first_fails, found_next, second_fails}
use Rattle.time_index.proofs.postings.next_posting.Goals as goal

-- the first gives no answer
pub returns-in_err-found-clause-next : goal.returns-in_err-found-clause-next
returns-in_err-found-clause-next g c =
    rw (handed c.from_residual.result c.in_err-found.field-0.0 c.from_residual.ensures.1)
    (first_fails c.args.reach.now c.args.from c.args.to c.requires.stamped c.in_err-found.field-0.0
    c.in_err-found.ensures.finds)

-- the second gives none
pub returns-in_err-again-clause-next : goal.returns-in_err-again-clause-next
returns-in_err-again-clause-next g c =
    rw (handed c.from_residual-in_err-again.result c.in_err-again.field-0.0 c.from_residual-in_err-again.ensures.1)
    (second_fails c.args.reach.now c.args.from c.args.to c.requires.stamped c.in-Some.first
    (rw c.in-Some.is at c.in_ok-found.ensures.finds) c.in_err-again.field-0.0 c.in_err-again.ensures.finds)

-- or they find one
pub returns-clause-next : goal.returns-clause-next
returns-clause-next g c =
    found_next c.args.reach.now c.args.from c.args.to c.requires.stamped c.in-Some.first
    (rw c.in-Some.is at c.in_ok-found.ensures.finds) (omega (arith, c.if-first-to.false)) c.in_ok-again.again
    c.in_ok-again.ensures.finds c.of_key.result c.of_key.ensures
