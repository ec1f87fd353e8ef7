-- A child cell that leads to one of the nodes.
use Rattle.std.proofs.Common.{◌-◌, ◌+◌, ◌%◌, ℕ, subst, arith}
use Rattle.log_audit.specs.Between.{AreLower}
use Rattle.tree_audit.proofs.Placing.{begins_at}
use Rattle.tree_audit.proofs.ways.way_of.Goals as goal

pub returns-clause-some : goal.returns-clause-some
returns-clause-some c =
    let nodes = c.args.nodes.now in let cell = c.args.lead % 4294967296 in
    let low : AreLower nodes (cell + 1 - 32) c.lower_than-first.result =
    subst (λ (n : ℕ). AreLower nodes n c.lower_than-first.result) (omega (arith, c.saturating_sub.ensures, c.from.ensures)) c.lower_than-first.ensures in
    let high : AreLower nodes (cell + 1 - 16) c.lower_than-behind.result =
    subst (λ (n : ℕ). AreLower nodes n c.lower_than-behind.result) (omega (arith, c.saturating_sub-2.ensures, c.from-2.ensures)) c.lower_than-behind.ensures in
    record {
      inside = high.inside;
      each = λ place node there. begins_at cell low high place node there c.in_ok-target.target;
      target = c.in_ok-target.ensures.some;
    }
