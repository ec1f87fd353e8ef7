-- The two bytes stand at none of the places that are passed.
use Rattle.std.proofs.Common.{arith}
use Rattle.word_reader.proofs.Places.{none_to, not_front}
use Rattle.word_reader.proofs.row_words.pass_wide.Goals as goal

pub loop-at-init : goal.loop-at-init
loop-at-init c = (omega arith, c.requires.low, λ term is place low less stands. absurd (omega (arith, low, less)))

pub loop-at-preserved : goal.loop-at-preserved
loop-at-preserved c = (
  omega (arith, c.loop-at.invariant.0),
  omega (arith, c.saturating_sub.ensures, c.saturating_sub-end.ensures, c.loop-at-test.true),
  λ term is. none_to c.args.row.now term c.args.from c.loop-at.at 64 (c.loop-at.invariant.2 term is)
      (not_front c.args.row.now term c.loop-at.at 64 c.args.front is
      (c.are_found.ensures c.if-are_found.false)),
)
