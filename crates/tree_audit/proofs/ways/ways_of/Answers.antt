-- A child cell that leads to one of the nodes, and all of them.
use Rattle.std.proofs.Common.{arith}
use Rattle.std.proofs.lemmas.Option.{slice_get-get_or}
use Rattle.tree_audit.proofs.Placing.{all_ways, one_way}
use Rattle.tree_audit.proofs.ways.ways_of.Goals as goal

pub loop-lead-preserved : goal.loop-lead-preserved
loop-lead-preserved c = one_way c.loop-lead.invariant _
    (slice_get-get_or c.args.leads.now c.loop-lead.lead-index 0 (omega (arith, c.loop-lead-test.true))) c.in-Some.ensures.some c.in_ok-push.ensures.items

pub returns : goal.returns
returns c = all_ways c.loop-lead.invariant (omega (arith, c.loop-lead-test.false))
