-- The term of this turn is among the words.
use Rattle.word_reader.proofs.Among.{one_more}
use Rattle.word_reader.proofs.text_matcher.are_among.Goals as goal

pub loop-term-preserved : goal.loop-term-preserved
loop-term-preserved c = λ rest.
    c.loop-term.invariant
    (one_more c.args.words.now c.args.terms.now c.loop-term.term-index c.term-item.result c.loop-term-test.true c.term-item.is
    (c.is_among.ensures.0 c.if-not-is_among.false) rest)
