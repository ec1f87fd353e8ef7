-- What the search for the next slot says, of the lists.
use Rattle.std.proofs.Common.{arith, refl, rules}
use Rattle.cell_types.proofs.Passed.{handed}
use Rattle.worm_device.proofs.Resting.{viewed_self}
use Rattle.posting_list.proofs.Joining.{keeps_next, knows_always, knows_landed, land_fails, land_none, land_some, none_owed}
use Rattle.posting_list.proofs.Owed.{owed_small}
use Rattle.posting_list.proofs.term_lists.TermLists.come_to.Goals as goal

-- the list can't be asked
pub returns-in_default-clause-ends : goal.returns-in_default-clause-ends
returns-in_default-clause-ends g c = λ slot owed past.
    none_owed c.args.self.now.reach c.args.self.now.sought.now.terms.items c.args.which
    (g.V.View.seen c.args.self.now.view.now) c.in_default.ensures slot owed

-- no slot is as great
pub returns-then-from-ge-MAX_SLOTS-clause-ends : goal.returns-then-from-ge-MAX_SLOTS-clause-ends
returns-then-from-ge-MAX_SLOTS-clause-ends g c = λ slot owes past.
    let small = owed_small c.args.self.now.reach owes.term (g.V.View.seen c.args.self.now.view.now) slot owes.owed in
    omega (arith, small, past, c.if-from-ge-MAX_SLOTS.true)

pub returns-then-from-ge-MAX_SLOTS-clause-kept : goal.returns-then-from-ge-MAX_SLOTS-clause-kept
returns-then-from-ge-MAX_SLOTS-clause-kept g c =
    let seen = g.V.View.seen c.args.self.now.view.now in
    keeps_next c.args.self.now.reach c.args.self.now.sought.now.terms.items c.args.self.now.view.ghost_name seen seen
    _ _ _ _ (viewed_self seen) (search rules) refl (search rules) (omega arith)

pub returns-in_default-clause-kept : goal.returns-in_default-clause-kept
returns-in_default-clause-kept g c =
    let seen = g.V.View.seen c.args.self.now.view.now in
    keeps_next c.args.self.now.reach c.args.self.now.sought.now.terms.items c.args.self.now.view.ghost_name seen seen
    _ _ _ _ (viewed_self seen) (search rules) refl (search rules) (omega arith)

-- the search gives no answer
pub returns-in_err-found-clause-kept : goal.returns-in_err-found-clause-kept
returns-in_err-found-clause-kept g c =
    keeps_next c.args.self.now.reach c.args.self.now.sought.now.terms.items c.args.self.now.view.ghost_name
    (g.V.View.seen c.args.self.now.view.now)
    (g.V.View.seen c.next_of_own.new.view) _ _ _ _ c.next_of_own.ensures.next.viewed (search rules) refl (search rules)
    c.next_of_own.ensures.reads

pub returns-in_err-found-clause-ends : goal.returns-in_err-found-clause-ends
returns-in_err-found-clause-ends g c =
    rw (handed c.from_residual.result c.in_err-found.field-0.0 c.from_residual.ensures.1)
    (land_fails c.args.self.now.reach c.args.self.now.sought.now.terms.items c.args.self.now.view.ghost_name
    (g.V.View.seen c.args.self.now.view.now)
    (g.V.View.seen c.next_of_own.new.view) 0 0 0 0 c.args.which c.in-Some.term c.in-Some.ensures.there c.args.from c.args.always
    c.in_err-found.field-0.0 c.in_err-found.ensures.next)

-- there is no slot
pub returns-in_default-found-clause-kept : goal.returns-in_default-found-clause-kept
returns-in_default-found-clause-kept g c =
    keeps_next c.args.self.now.reach c.args.self.now.sought.now.terms.items c.args.self.now.view.ghost_name
    (g.V.View.seen c.args.self.now.view.now)
    (g.V.View.seen c.next_of_own.new.view) _ _ _ _ c.next_of_own.ensures.next.viewed (search rules) refl (search rules)
    c.next_of_own.ensures.reads

pub returns-in_default-found-clause-ends : goal.returns-in_default-found-clause-ends
returns-in_default-found-clause-ends g c =
    land_none c.args.self.now.reach c.args.self.now.sought.now.terms.items c.args.self.now.view.ghost_name
    (g.V.View.seen c.args.self.now.view.now)
    (g.V.View.seen c.next_of_own.new.view) 0 0 0 0 c.args.which c.in-Some.term c.in-Some.ensures.there c.args.from c.args.always
    (rw c.in_default-found.is at c.in_ok-found.ensures.next)

-- there is one
pub returns-clause-kept : goal.returns-clause-kept
returns-clause-kept g c =
    keeps_next c.args.self.now.reach c.args.self.now.sought.now.terms.items c.args.self.now.view.ghost_name
    (g.V.View.seen c.args.self.now.view.now)
    (g.V.View.seen c.next_of_own.new.view) _ _ _ _ c.next_of_own.ensures.next.viewed (search rules) refl (search rules)
    c.next_of_own.ensures.reads

pub returns-clause-ends : goal.returns-clause-ends
returns-clause-ends g c =
    land_some c.args.self.now.reach c.args.self.now.sought.now.terms.items c.args.self.now.view.ghost_name
    (g.V.View.seen c.args.self.now.view.now)
    (g.V.View.seen c.next_of_own.new.view) 0 0 0 0 c.args.which c.in-Some.term c.in-Some.ensures.there c.args.from c.args.always
    c.in-Some-found.landed (rw c.in-Some-found.is at c.in_ok-found.ensures.next)

pub returns-clause-knows : goal.returns-clause-knows
returns-clause-knows g c =
    knows_landed c.args.self.now.reach c.in-Some.term c.args.from c.args.always (g.V.View.seen c.args.self.now.view.now)
    (g.V.View.seen c.next_of_own.new.view) c.in-Some-found.landed
    (rw c.in-Some-found.is at c.in_ok-found.ensures.next)

pub returns-clause-always : goal.returns-clause-always
returns-clause-always g c =
    knows_always c.args.self.now.reach c.in-Some.term c.args.from c.args.always (g.V.View.seen c.args.self.now.view.now)
    (g.V.View.seen c.next_of_own.new.view) c.in-Some-found.landed
    (rw c.in-Some-found.is at c.in_ok-found.ensures.next)
