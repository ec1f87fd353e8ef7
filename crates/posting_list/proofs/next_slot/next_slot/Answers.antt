-- By what the search finds, and by the state of its slot.
use Rattle.std.proofs.Common.{None, rules, sym, ◌∙◌}
use Rattle.cell_types.proofs.Passed.{handed}
use Rattle.worm_device.proofs.Resting.{viewed_self}
use Rattle.posting_list.proofs.Evidence.{false_never}
use Rattle.posting_list.proofs.Landing.{found_stands, keeps_on, next_fault, next_looked, next_none, next_part_fault, next_some}
use Rattle.posting_list.proofs.next_slot.next_slot.Goals as goal

-- the search gives no answer
pub returns-in_err-found-clause-next : goal.returns-in_err-found-clause-next
returns-in_err-found-clause-next g c =
    rw (handed c.from_residual.result c.in_err-found.field-0.0 c.from_residual.ensures.1)
    (let s = g.V.View.seen c.find_in_list.new.view in
    next_fault c.args.reach.now c.args.term.now c.args.from c.args.always _ s s c.requires.list
    c.in_err-found.field-0.0 c.in_err-found.ensures.finds)

-- it finds no posting
pub returns-in_default-clause-next : goal.returns-in_default-clause-next
returns-in_default-clause-next g c =
    let s = g.V.View.seen c.find_in_list.new.view in
    next_none c.args.reach.now c.args.term.now c.args.from c.args.always _ s s c.requires.list
    (rw c.in_default.is at c.in_ok-found.ensures.finds)

-- it is not looked at
pub returns-then-not-always-clause-next : goal.returns-then-not-always-clause-next
returns-then-not-always-clause-next g c =
    let s = g.V.View.seen c.find_in_list.new.view in
    next_some c.args.reach.now c.args.term.now c.args.from c.args.always (g.V.View.seen c.args.view.now) s s
    c.requires.list c.in-Some.entry (rw c.in-Some.is at c.in_ok-found.ensures.finds) None c.is_same-vouched.result
    (viewed_self s) c.is_same-vouched.ensures.0 (search rules) (
      λ said. false_never (sym c.if-not-vouched.true ∙ said),
      λ said. false_never (sym c.if-not-always.true ∙ said),
    )

-- the posting stands in the list
pub part_of_posting-requires-clause-stands : goal.part_of_posting-requires-clause-stands
part_of_posting-requires-clause-stands g c =
    let s = g.V.View.seen c.find_in_list.new.view in
    found_stands c.args.reach.now c.args.term.now c.args.from c.args.always (g.V.View.seen c.args.view.now) s s
    c.requires.list c.in-Some.entry (rw c.in-Some.is at c.in_ok-found.ensures.finds)

-- the look at its slot gives no answer
pub returns-in_err-part-clause-kept : goal.returns-in_err-part-clause-kept
returns-in_err-part-clause-kept g c =
    keeps_on c.find_in_list.new.kept _ _ c.part_of_posting.ensures.part.viewed c.find_in_list.ensures.kept

pub returns-in_err-part-clause-next : goal.returns-in_err-part-clause-next
returns-in_err-part-clause-next g c =
    rw (handed c.from_residual-in_err-part.result c.in_err-part.field-0.0 c.from_residual-in_err-part.ensures.1)
    (next_part_fault c.args.reach.now c.args.term.now c.args.from c.args.always (g.V.View.seen c.args.view.now)
    (g.V.View.seen c.find_in_list.new.view) (g.V.View.seen c.part_of_posting.new.view) c.requires.list c.in-Some.entry
    (rw c.in-Some.is at c.in_ok-found.ensures.finds) c.in_err-part.field-0.0 c.in_err-part.ensures.part)

-- the slot is live
pub returns-clause-kept : goal.returns-clause-kept
returns-clause-kept g c =
    keeps_on c.find_in_list.new.kept _ _ c.part_of_posting.ensures.part.viewed c.find_in_list.ensures.kept

pub returns-clause-next : goal.returns-clause-next
returns-clause-next g c =
    next_looked c.args.reach.now c.args.term.now c.args.from c.args.always (g.V.View.seen c.args.view.now)
    (g.V.View.seen c.find_in_list.new.view) (g.V.View.seen c.part_of_posting.new.view) c.requires.list c.in-Some.entry
    (rw c.in-Some.is at c.in_ok-found.ensures.finds) c.in_ok-part.part c.is_same-vouched.result c.is_same-vouched.ensures.0
    (search rules) c.in_ok-part.ensures.part
