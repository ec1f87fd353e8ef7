-- The loan by which cells are kept is not spoken of.
use Rattle.std.proofs.Common.{◌∷◌, rules}
use Rattle.read_cache.proofs.Through.{viewed_below}
use Rattle.record_query.proofs.Gathered.{gathers_lent, gathers_then, reads_lent, reads_then}
use Rattle.record_query.proofs.common.common_kept.Goals as goal

pub returns-clause-viewed : goal.returns-clause-viewed
returns-clause-viewed g c =
    let viewed = viewed_below c.new.result.view.ghost_name c.common_in.new.view.view.ghost_name
    (g.V.View.seen c.new.result.view.now) (g.V.View.seen c.common_in.new.view.view.now) c.common_in.ensures.viewed in
    search (rules, viewed)

pub returns-clause-gathers : goal.returns-clause-gathers
returns-clause-gathers g c =
    let old = g.V.View.seen c.new.result.view.now in
    let new = g.V.View.seen c.common_in.new.view.view.now in
    let gathers = gathers_lent _ c.args.sought.now.terms.items old new (c.new.result.view.ghost_name ∷ old.loans)
    (c.common_in.new.view.view.ghost_name ∷ new.loans) old.loans new.loans c.common_in.result
    c.common_in.ensures.gathers in
    gathers_then gathers (search rules) (search rules)

pub returns-clause-reads : goal.returns-clause-reads
returns-clause-reads g c =
    let old = g.V.View.seen c.new.result.view.now in
    let new = g.V.View.seen c.common_in.new.view.view.now in
    let reads = reads_lent _ c.args.sought.now.terms.items old new (c.new.result.view.ghost_name ∷ old.loans)
    (c.common_in.new.view.view.ghost_name ∷ new.loans) old.loans new.loans c.common_in.ensures.reads in
    reads_then reads (search rules) (search rules)
