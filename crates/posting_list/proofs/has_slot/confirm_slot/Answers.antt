-- What the search for the term's posting says, and the look at its slot.
use Rattle.cell_types.proofs.Passed.{handed}
use Rattle.posting_list.proofs.Landing.{confirms_fault, confirms_some, keeps_on, posting_stands}
use Rattle.posting_list.proofs.has_slot.confirm_slot.Goals as goal

-- the search gives no answer
pub returns-in_err-found-clause-confirms : goal.returns-in_err-found-clause-confirms
returns-in_err-found-clause-confirms g c =
    rw (handed c.from_residual.result c.in_err-found.field-0.0 c.from_residual.ensures.1)
    (record { viewed = c.in_err-found.ensures.finds.viewed; ends = c.in_err-found.ensures.finds.ends })

-- the list does not have the slot
pub returns-in_default-clause-confirms : goal.returns-in_default-clause-confirms
returns-in_default-clause-confirms g c =
    let finds = rw c.in_default.is at c.in_ok-found.ensures.finds in
    record { viewed = finds.viewed; ends = finds.ends }

-- its posting is there
pub part_of_posting-requires-clause-stands : goal.part_of_posting-requires-clause-stands
part_of_posting-requires-clause-stands g c =
    posting_stands c.args.reach.now c.args.term.now c.args.slot (g.V.View.seen c.args.view.now)
    (g.V.View.seen c.find_posting.new.view) (g.V.View.seen c.find_posting.new.view) c.requires.list c.in-Some.entry
    (rw c.in-Some.is at c.in_ok-found.ensures.finds)

-- the look at its slot gives no answer
pub returns-in_err-part-clause-kept : goal.returns-in_err-part-clause-kept
returns-in_err-part-clause-kept g c =
    keeps_on c.find_posting.new.kept _ _ c.part_of_posting.ensures.part.viewed c.find_posting.ensures.kept

pub returns-in_err-part-clause-confirms : goal.returns-in_err-part-clause-confirms
returns-in_err-part-clause-confirms g c =
    rw (handed c.from_residual-in_err-part.result c.in_err-part.field-0.0 c.from_residual-in_err-part.ensures.1)
    (confirms_fault c.args.reach.now c.args.term.now c.args.slot (g.V.View.seen c.args.view.now)
    (g.V.View.seen c.find_posting.new.view) (g.V.View.seen c.part_of_posting.new.view) c.requires.list c.in-Some.entry
    (rw c.in-Some.is at c.in_ok-found.ensures.finds) c.in_err-part.field-0.0 c.in_err-part.ensures.part)

-- the slot is live
pub returns-clause-kept : goal.returns-clause-kept
returns-clause-kept g c =
    keeps_on c.find_posting.new.kept _ _ c.part_of_posting.ensures.part.viewed c.find_posting.ensures.kept

pub returns-clause-confirms : goal.returns-clause-confirms
returns-clause-confirms g c =
    confirms_some c.args.reach.now c.args.term.now c.args.slot (g.V.View.seen c.args.view.now)
    (g.V.View.seen c.find_posting.new.view) (g.V.View.seen c.part_of_posting.new.view) c.requires.list c.in-Some.entry
    (rw c.in-Some.is at c.in_ok-found.ensures.finds) c.in_ok-part.part c.in_ok-part.ensures.part
