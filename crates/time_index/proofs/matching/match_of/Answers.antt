-- The posting's slot, its place behind the one before, and its document.
use Rattle.cell_types.proofs.Passed.{handed}
use Rattle.cell_types.specs.Refusals.{refusal_of_fault}
use Rattle.time_index.proofs.Matched.{is_false, not_later, part_read}
use Rattle.time_index.proofs.matching.match_of.Goals as goal

-- the posting is false
pub returns-in_default : goal.returns-in_default
returns-in_default g c =
    rw c.from.ensures
    (is_false c.args.reach.now c.args.entry.now c.args.before c.requires.stamped c.stamped_part.ensures.viewed
    c.requires.behind (rw c.in_default.is at c.in_ok-part.ensures.ends) c.false_posting.result c.false_posting.ensures)

-- the stamp before it is late
pub returns-in_err-check_order : goal.returns-in_err-check_order
returns-in_err-check_order g c =
    rw (handed c.from_residual-in_err-check_order.result (refusal_of_fault c.in_err-check_order.field-0.0)
    c.from_residual-in_err-check_order.ensures.1)
    (not_later c.args.reach.now c.args.entry.now c.args.before c.stamped_part.ensures.viewed c.in-Some.part
    (rw c.in-Some.is at c.in_ok-part.ensures.ends) c.requires.before c.in_err-check_order.field-0.0
    c.in_err-check_order.ensures)

-- the document is read
pub returns : goal.returns
returns g c =
    part_read c.args.reach.now c.args.entry.now c.args.before c.stamped_part.ensures.viewed c.in-Some.part
    (rw c.in-Some.is at c.in_ok-part.ensures.ends) c.requires.before c.in_ok-check_order.ensures
    c.stamped_part.ensures.reads c.read_match.result c.read_match.ensures
