-- The two bytes stand at none of the places that are passed.
use Rattle.std.proofs.Common.{arith}
use Rattle.word_reader.proofs.Places.{none_to, not_front}
use Rattle.word_reader.proofs.row_words.next_place.Goals as goal

pub loop-at-preserved : goal.loop-at-preserved
loop-at-preserved c = (
  omega (arith, c.loop-at.invariant.0),
  omega (arith, c.places_before-passed.ensures.most, c.loop-at-test.true),
  λ term is. none_to c.args.row.now term c.args.from c.loop-at.at c.places_before-passed.result
      (c.loop-at.invariant.2 term is)
      (not_front c.args.row.now term c.loop-at.at c.places_before-passed.result c.args.front is
      c.places_before-passed.ensures.none),
)

pub returns-then-passed-lt-LANES-clause-none : goal.returns-then-passed-lt-LANES-clause-none
returns-then-passed-lt-LANES-clause-none c = λ term is.
    none_to c.args.row.now term c.args.from c.loop-at.at c.places_before-passed.result (c.loop-at.invariant.2 term is)
    (not_front c.args.row.now term c.loop-at.at c.places_before-passed.result c.args.front is
    c.places_before-passed.ensures.none)
