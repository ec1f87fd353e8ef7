-- What the search for a slot says, of the lists.
use Rattle.std.proofs.Common.{arith, refl, rules}
use Rattle.worm_device.proofs.Resting.{viewed_self}
use Rattle.posting_list.proofs.Evidence.{false_never}
use Rattle.posting_list.proofs.Joining.{has_ends, keeps_has, none_owed}
use Rattle.posting_list.proofs.joined.TermListsLists.has.Goals as goal

-- the list can't be asked
pub returns-in_default-clause-ends : goal.returns-in_default-clause-ends
returns-in_default-clause-ends g c = (
  λ owed. absurd (none_owed c.args.self.now.reach c.args.self.now.sought.now.terms.items c.args.which
      (g.V.View.seen c.args.self.now.view.now) c.in_default.ensures c.args.slot owed),
  λ f. absurd (false_never f),
)

pub returns-in_default-clause-kept : goal.returns-in_default-clause-kept
returns-in_default-clause-kept g c =
    let seen = g.V.View.seen c.args.self.now.view.now in
    keeps_has c.args.self.now.reach c.args.self.now.sought.now.terms.items c.args.self.now.view.ghost_name seen seen
    _ _ _ _ (viewed_self seen) refl (search rules) (search rules) (omega arith)

pub returns-clause-kept : goal.returns-clause-kept
returns-clause-kept g c =
    keeps_has c.args.self.now.reach c.args.self.now.sought.now.terms.items c.args.self.now.view.ghost_name
    (g.V.View.seen c.args.self.now.view.now)
    (g.V.View.seen c.own_has.new.view) _ _ _ _ c.own_has.ensures.has.viewed refl (search rules) (search rules)
    c.own_has.ensures.reads

pub returns-clause-ends : goal.returns-clause-ends
returns-clause-ends g c =
    has_ends c.args.self.now.reach c.args.self.now.sought.now.terms.items c.args.self.now.view.ghost_name
    (g.V.View.seen c.args.self.now.view.now)
    (g.V.View.seen c.own_has.new.view) 0 0 0 0 c.args.which c.in-Some.term c.in-Some.ensures.there c.args.slot
    c.own_has.result c.own_has.ensures.has
