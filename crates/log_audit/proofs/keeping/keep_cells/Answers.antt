-- One cell more, and all of them.
use Rattle.std.proofs.Common.{◌≡◌, ◌∙◌, arith}
use Rattle.log_audit.proofs.KeptSoFar.{one_more, all_kept}
use Rattle.log_audit.proofs.keeping.keep_cells.Goals as goal

pub loop-at-preserved : goal.loop-at-preserved
loop-at-preserved g c = one_more c.loop-at.invariant c.in-Ok.ensures c.in_ok-keep_next.ensures

pub returns-clause-ends : goal.returns-clause-ends
returns-clause-ends g c =
    let at_end : c.loop-at.at ≡ (g.D.Device.state c.args.device.now).cells = omega (arith, c.loop-at-test.false, c.loop-at.auto.at-end, c.cells-count.ensures.cells) in (
      c.loop-at.invariant.count ∙ at_end,
      c.loop-at.invariant.faults,
      all_kept c.loop-at.kept (g.met.D.Device.proper c.args.device.now) c.loop-at.invariant at_end,
    )
