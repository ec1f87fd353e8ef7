-- The loan is not spoken of.
use Rattle.std.proofs.Common.{ℕ, [], ◌∷◌, rules, subst}
use Rattle.worm_device.specs.Views.{seen_directly}
use Rattle.posting_list.specs.Joins.{TermsGather, TermsGatherReads}
use Rattle.record_query.specs.Reaching.{reach_of}
use Rattle.record_query.proofs.Gathered.{gathers_lent, gathers_then, reads_lent, reads_then}
use Rattle.record_query.proofs.Loans.{viewed_by_any}
use Rattle.record_query.proofs.common.common_parts.Goals as goal

pub returns-clause-viewed : goal.returns-clause-viewed
returns-clause-viewed g c =
    let viewed = viewed_by_any (g.D.Device.state c.new-2.result.device.now)
    (g.D.Device.state c.common_kept.new.view.device.now) c.new-2.result.device.ghost_name
    c.common_kept.new.view.device.ghost_name c.common_kept.ensures.viewed in
    search (rules, viewed)

pub returns-clause-gathers : goal.returns-clause-gathers
returns-clause-gathers g c =
    let ends = gathers_lent (reach_of c.args.ready.now) c.args.sought.now.terms.items
    (seen_directly (g.D.Device.state c.new-2.result.device.now) 0)
    (seen_directly (g.D.Device.state c.common_kept.new.view.device.now) 0) (c.new-2.result.device.ghost_name ∷ [])
    (c.common_kept.new.view.device.ghost_name ∷ []) (0 ∷ []) (0 ∷ []) c.common_kept.result
    (subst (λ (pool : ℕ). TermsGather (record {
      volume = c.args.ready.now.volume;
      horizon = c.args.ready.now.horizon;
      bounds = record { pool = pool; edge = c.args.ready.now.edge };
    }) c.args.sought.now.terms.items
    (seen_directly (g.D.Device.state c.new-2.result.device.now) c.new-2.result.device.ghost_name)
    (seen_directly (g.D.Device.state c.common_kept.new.view.device.now) c.common_kept.new.view.device.ghost_name)
    c.common_kept.result) c.pool_at.ensures.at c.common_kept.ensures.gathers) in
    gathers_then ends (search rules) (search rules)

pub returns-clause-reads : goal.returns-clause-reads
returns-clause-reads g c =
    let reads = reads_lent (reach_of c.args.ready.now) c.args.sought.now.terms.items
    (seen_directly (g.D.Device.state c.new-2.result.device.now) 0)
    (seen_directly (g.D.Device.state c.common_kept.new.view.device.now) 0) (c.new-2.result.device.ghost_name ∷ [])
    (c.common_kept.new.view.device.ghost_name ∷ []) (0 ∷ []) (0 ∷ [])
    (subst (λ (pool : ℕ). TermsGatherReads (record {
      volume = c.args.ready.now.volume;
      horizon = c.args.ready.now.horizon;
      bounds = record { pool = pool; edge = c.args.ready.now.edge };
    }) c.args.sought.now.terms.items
    (seen_directly (g.D.Device.state c.new-2.result.device.now) c.new-2.result.device.ghost_name)
    (seen_directly (g.D.Device.state c.common_kept.new.view.device.now) c.common_kept.new.view.device.ghost_name))
    c.pool_at.ensures.at c.common_kept.ensures.reads) in
    reads_then reads (search rules) (search rules)
