-- What the lists tell, of the view that was lent to them.
use Rattle.std.proofs.Common.{rules, subst, sym}
use Rattle.posting_list.specs.Joins.{TermsJoin}
use Rattle.index_tests.proofs.list_callers.first_common.Goals as goal

pub returns-clause-joins : goal.returns-clause-joins
returns-clause-joins g c =
    rw (sym c.new-lists.ensures.reach)
    (rw (sym c.new-lists.ensures.sought) (rw (sym c.new-lists.ensures.view)
    (subst (λ v. TermsJoin c.new-lists.result.reach c.new-lists.result.sought.now.terms.items c.args.from
    (g.V.View.seen c.new-lists.result.view.now) (g.V.View.seen v) c.next_common.result)
    (search rules) c.next_common.ensures.joins)))
