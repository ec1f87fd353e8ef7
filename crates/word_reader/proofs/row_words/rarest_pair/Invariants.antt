-- The place is one of the term.
use Rattle.std.proofs.Common.{◌<◌, length}
use Rattle.word_reader.proofs.row_words.rarest_pair.Given as goal

abbrev pub invariant-loop-at : goal.invariant-loop-at
invariant-loop-at l = l.best < length l.term
