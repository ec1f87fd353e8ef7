-- No byte of a word stands before the place.
use Rattle.std.proofs.Common.{◌∙◌, sym}
use Rattle.word_reader.proofs.RowWords.{none_begun}
use Rattle.word_reader.proofs.row_words.before_run.Goals as goal

pub returns-clause-gap : goal.returns-clause-gap
returns-clause-gap c =
    none_begun c.args.row.now c.loop-end.end c.loop-end.invariant (sym c.is_behind_word.ensures.same ∙ c.loop-end-test.false)
