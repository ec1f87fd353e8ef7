-- The slot in the middle begins behind the cell, or ends before it; the places have come together.
use Rattle.std.proofs.Common.{sym, ◌∙◌, arith}
use Rattle.log_audit.proofs.Holders.{keep_lower, keep_upper}
use Rattle.log_audit.proofs.owning.reserving_slot.Goals as goal

pub loop-low-preserved-then-cell-start : goal.loop-low-preserved-then-cell-start
loop-low-preserved-then-cell-start c = (
  keep_lower c.requires.row c.loop-low.low c.loop-low.high _ c.in-Some.ended (sym c.at.ensures ∙ c.in-Some.is)
      c.loop-low.invariant.0 (omega (arith, c.if-cell-start.true, c.start.ensures)),
  omega (arith, c.loop-low.invariant.1, c.loop-low-test.true),
)

pub loop-low-preserved : goal.loop-low-preserved
loop-low-preserved c = (
  keep_upper c.requires.row c.loop-low.low c.loop-low.high _ c.in-Some.ended (sym c.at.ensures ∙ c.in-Some.is)
      c.loop-low.invariant.0 (omega (arith, c.if-cell-end.false, c.end.ensures)),
  c.loop-low.invariant.1,
)

pub returns-clause-none : goal.returns-clause-none
returns-clause-none c = λ n has. let w = c.loop-low.invariant.0 n has in omega (arith, w.0, w.1, c.loop-low-test.false)
