-- What the search for a slot says, of the lists, and of the slot that is confirmed.
use Rattle.std.proofs.Common.{arith, refl, rules}
use Rattle.cell_types.proofs.Passed.{handed}
use Rattle.worm_device.proofs.Resting.{viewed_self}
use Rattle.posting_list.proofs.Evidence.{false_never}
use Rattle.posting_list.proofs.Joining.{confirm_ends, confirm_fails, keeps_has, knows_confirmed, none_owed}
use Rattle.posting_list.proofs.joined.TermListsLists.confirm.Goals as goal

-- the list can't be asked
pub returns-in_default-clause-ends : goal.returns-in_default-clause-ends
returns-in_default-clause-ends g c = (
  λ owed. absurd (none_owed c.args.self.now.reach c.args.self.now.sought.now.terms.items c.args.which
      (g.V.View.seen c.args.self.now.view.now) c.in_default.ensures c.args.slot owed),
  λ f. absurd (false_never f),
)

pub returns-in_default-clause-kept : goal.returns-in_default-clause-kept
returns-in_default-clause-kept g c =
    let seen = g.V.View.seen c.args.self.now.view.now in
    keeps_has c.args.self.now.reach c.args.self.now.sought.now.terms.items c.args.self.now.view.ghost_name seen seen
    _ _ _ _ (viewed_self seen) refl (search rules) (search rules) (omega arith)

-- the search gives no answer
pub returns-in_err-found-clause-kept : goal.returns-in_err-found-clause-kept
returns-in_err-found-clause-kept g c =
    keeps_has c.args.self.now.reach c.args.self.now.sought.now.terms.items c.args.self.now.view.ghost_name
    (g.V.View.seen c.args.self.now.view.now)
    (g.V.View.seen c.own_confirm.new.view) _ _ _ _ c.own_confirm.ensures.confirms.viewed refl (search rules)
    (search rules) c.own_confirm.ensures.reads

pub returns-in_err-found-clause-ends : goal.returns-in_err-found-clause-ends
returns-in_err-found-clause-ends g c =
    rw (handed c.from_residual.result c.in_err-found.field-0.0 c.from_residual.ensures.1)
    (confirm_fails c.args.self.now.reach c.args.self.now.sought.now.terms.items c.args.self.now.view.ghost_name
    (g.V.View.seen c.args.self.now.view.now)
    (g.V.View.seen c.own_confirm.new.view) 0 0 0 0 c.args.which c.in-Some.term c.in-Some.ensures.there c.args.slot
    c.in_err-found.field-0.0 c.in_err-found.ensures.confirms)

-- it does
pub returns-clause-kept : goal.returns-clause-kept
returns-clause-kept g c =
    keeps_has c.args.self.now.reach c.args.self.now.sought.now.terms.items c.args.self.now.view.ghost_name
    (g.V.View.seen c.args.self.now.view.now)
    (g.V.View.seen c.own_confirm.new.view) _ _ _ _ c.own_confirm.ensures.confirms.viewed refl (search rules)
    (search rules) c.own_confirm.ensures.reads

pub returns-clause-ends : goal.returns-clause-ends
returns-clause-ends g c =
    rw c.is_some.ensures
    (confirm_ends c.args.self.now.reach c.args.self.now.sought.now.terms.items c.args.self.now.view.ghost_name
    (g.V.View.seen c.args.self.now.view.now)
    (g.V.View.seen c.own_confirm.new.view) 0 0 0 0 c.args.which c.in-Some.term c.in-Some.ensures.there c.args.slot
    c.in_ok-found.found c.in_ok-found.ensures.confirms)

pub returns-clause-knows : goal.returns-clause-knows
returns-clause-knows g c =
    rw c.is_some.ensures
    (knows_confirmed c.args.self.now.reach c.in-Some.term c.args.slot (g.V.View.seen c.args.self.now.view.now)
    (g.V.View.seen c.own_confirm.new.view) c.in_ok-found.found c.in_ok-found.ensures.confirms)
