-- The lists are made of the same at the end.
use Rattle.posting_list.proofs.Rows.{costs_these, joins_these, same_terms}
use Rattle.posting_list.proofs.term_lists.TermLists.next_common.Goals as goal

pub returns-clause-same_terms : goal.returns-clause-same_terms
returns-clause-same_terms g c =
    same_terms c.args.self.now.reach c.next_common.new.lists.reach c.args.self.now.sought.now.terms.items
    c.next_common.new.lists.sought.now.terms.items c.args.self.now.view.ghost_name
    c.next_common.new.lists.view.ghost_name (g.V.View.seen c.args.self.now.view.now)
    (g.V.View.seen c.next_common.new.lists.view.now) c.next_common.ensures.kept.made_of

pub returns-clause-joins : goal.returns-clause-joins
returns-clause-joins g c =
    joins_these c.args.self.now.reach c.next_common.new.lists.reach c.args.self.now.sought.now.terms.items
    c.next_common.new.lists.sought.now.terms.items c.args.self.now.view.ghost_name
    c.next_common.new.lists.view.ghost_name c.args.from (g.V.View.seen c.args.self.now.view.now)
    (g.V.View.seen c.next_common.new.lists.view.now) c.args.self.now.next_asks
    c.args.self.now.has_asks c.next_common.new.lists.next_asks c.next_common.new.lists.has_asks
    c.next_common.result c.next_common.ensures.kept.made_of
    c.next_common.ensures.ends

pub returns-clause-costs : goal.returns-clause-costs
returns-clause-costs g c =
    costs_these c.args.self.now.reach c.next_common.new.lists.reach c.args.self.now.sought.now.terms.items
    c.next_common.new.lists.sought.now.terms.items c.args.self.now.view.ghost_name
    c.next_common.new.lists.view.ghost_name c.args.from (g.V.View.seen c.args.self.now.view.now)
    (g.V.View.seen c.next_common.new.lists.view.now) c.args.self.now.next_asks
    c.args.self.now.has_asks c.next_common.new.lists.next_asks c.next_common.new.lists.has_asks
    c.next_common.result c.next_common.ensures.costs
