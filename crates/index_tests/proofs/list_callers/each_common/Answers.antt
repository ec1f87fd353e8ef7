-- What the lists tell, of the view that was lent to them.
use Rattle.std.proofs.Common.{rules, subst, sym}
use Rattle.posting_list.specs.Joins.{TermsGather}
use Rattle.index_tests.proofs.list_callers.each_common.Goals as goal

pub returns-clause-gathers : goal.returns-clause-gathers
returns-clause-gathers g c =
    rw (sym c.new-lists.ensures.reach)
    (rw (sym c.new-lists.ensures.sought) (rw (sym c.new-lists.ensures.view)
    (subst (λ v. TermsGather c.new-lists.result.reach c.new-lists.result.sought.now.terms.items
    (g.V.View.seen c.new-lists.result.view.now) (g.V.View.seen v) c.all_common.result)
    (search rules) c.all_common.ensures.gathers)))
