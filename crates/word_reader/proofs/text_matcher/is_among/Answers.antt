-- The word of this turn is another.
use Rattle.std.proofs.Common.{rules, ◌≡◌}
use Rattle.word_reader.proofs.Among.{not_here}
use Rattle.word_reader.proofs.text_matcher.is_among.Goals as goal

pub loop-word-preserved : goal.loop-word-preserved
loop-word-preserved c = λ has.
    let other : c.word-item.result ≡ c.args.term.now → ⊥ = search rules in
    not_here c.args.words.now c.loop-word.word-index c.word-item.result c.args.term.now c.loop-word-test.true c.word-item.is other
    (c.loop-word.invariant has)
