-- The lists are made of the same at the end.
use Rattle.std.proofs.Common.{rules}
use Rattle.posting_list.proofs.Rows.{gather_costs_these, gather_reads_these, gathers_these}
use Rattle.posting_list.proofs.term_lists.TermLists.all_common.Goals as goal

pub returns-clause-gathers : goal.returns-clause-gathers
returns-clause-gathers g c =
    gathers_these c.args.self.now.reach c.gather.new.self.reach c.args.self.now.sought.now.terms.items
    c.gather.new.self.sought.now.terms.items c.args.self.now.view.ghost_name
    c.gather.new.self.view.ghost_name (g.V.View.seen c.args.self.now.view.now)
    (g.V.View.seen c.gather.new.self.view.now) c.args.self.now.next_asks
    c.args.self.now.has_asks c.gather.new.self.next_asks c.gather.new.self.has_asks
    c.gather.result c.gather.ensures.kept.made_of
    c.gather.ensures.ends

pub returns-clause-costs : goal.returns-clause-costs
returns-clause-costs g c =
    gather_costs_these c.args.self.now.reach c.gather.new.self.reach c.args.self.now.sought.now.terms.items
    c.gather.new.self.sought.now.terms.items c.args.self.now.view.ghost_name
    c.gather.new.self.view.ghost_name (g.V.View.seen c.args.self.now.view.now)
    (g.V.View.seen c.gather.new.self.view.now) c.args.self.now.next_asks
    c.args.self.now.has_asks c.gather.new.self.next_asks c.gather.new.self.has_asks
    c.gather.ensures.costs

pub returns-clause-reads : goal.returns-clause-reads
returns-clause-reads g c = λ none_next none_has.
    gather_reads_these c.args.self.now.reach c.gather.new.self.reach c.args.self.now.sought.now.terms.items
    c.gather.new.self.sought.now.terms.items c.args.self.now.view.ghost_name
    c.gather.new.self.view.ghost_name (g.V.View.seen c.args.self.now.view.now)
    (g.V.View.seen c.gather.new.self.view.now) c.args.self.now.next_asks
    c.args.self.now.has_asks c.gather.new.self.next_asks c.gather.new.self.has_asks none_next none_has
    (search rules) c.gather.ensures.kept c.gather.ensures.costs
