-- A page more.
use Rattle.std.proofs.Common.{arith}
use Rattle.log_audit.proofs.OneMore.{kept_page}
use Rattle.log_audit.proofs.kept.KeptCells.begin_page.Goals as goal

pub invariant_of-self : goal.invariant_of-self
invariant_of-self c = record {
  kept = kept_page c.args.self.now.kept _ (omega (arith, c.if-self-ne0.false)) (omega (arith, c.if-self-len.false, c.len.ensures)) (omega (arith, c.count-start.ensures)) c.push.ensures.items;
}
