-- By the state of the posting's slot.
use Rattle.cell_types.proofs.Passed.{handed}
use Rattle.posting_list.proofs.Landing.{part_fault, part_none, part_some}
use Rattle.posting_list.proofs.live.part_of_posting.Goals as goal

-- the slot's cells give no answer
pub returns-in_err-part-clause-part : goal.returns-in_err-part-clause-part
returns-in_err-part-clause-part g c =
    rw (handed c.from_residual.result c.in_err-part.field-0.0 c.from_residual.ensures.1)
    (part_fault c.args.reach.now c.args.entry.now _ _ c.in_err-part.field-0.0 c.in_err-part.ensures.live)

-- the slot is not live
pub returns-in_default-clause-part : goal.returns-in_default-clause-part
returns-in_default-clause-part g c =
    part_none c.args.reach.now c.args.entry.now _ _ c.false_posting.result c.requires.stands
    (rw c.in_default.is at c.in_ok-part.ensures.live) c.false_posting.ensures

-- it is
pub returns-clause-part : goal.returns-clause-part
returns-clause-part g c =
    part_some c.args.reach.now c.args.entry.now _ _ c.in-Some.part (rw c.in-Some.is at c.in_ok-part.ensures.live)
