-- The term stands at a place, or at none.
use Rattle.std.proofs.Common.{rules, ◌≡◌, ◌∙◌, length, sym, arith}
use Rattle.word_reader.proofs.Places.{none_at, none_on}
use Rattle.word_reader.proofs.RowWords.{is_none, is_word}
use Rattle.word_reader.proofs.Seeking.{true_false}
use Rattle.word_reader.proofs.row_words.has_word.Goals as goal

pub returns-then-is_empty : goal.returns-then-is_empty
returns-then-is_empty c =
    let none : length c.args.term.now ≡ 0 = search rules in
    sym (is_none c.args.row.now c.args.term.now (λ at is. omega (arith, is.some, none)))

pub returns-then-stands_at : goal.returns-then-stands_at
returns-then-stands_at c =
    sym (is_word c.args.row.now c.args.term.now c.next_place-at.result
    (c.stands_at.ensures.0 c.if-stands_at.true))

pub loop-from-preserved : goal.loop-from-preserved
loop-from-preserved c =
    let at = c.next_place-at.result in (
      omega (arith, c.next_place-at.ensures.low),
      none_at c.args.row.now c.args.term.now 0 at
          (none_on c.args.row.now c.args.term.now 0 c.loop-from.from at c.loop-from.invariant.1
          (c.next_place-at.ensures.none c.args.term.now c.front_of-front.ensures))
          (λ is. true_false (sym (c.stands_at.ensures.1 is) ∙ c.if-stands_at.false)),
    )

pub returns : goal.returns
returns c =
    sym (is_none c.args.row.now c.args.term.now (λ at is.
    c.loop-from.invariant.1 at (omega arith) (omega (arith, is.inside, c.loop-from-test.false)) is))
