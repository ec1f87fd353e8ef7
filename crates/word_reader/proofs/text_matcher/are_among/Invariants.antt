-- If those that are left are among the words, all are.
use Rattle.std.proofs.Common.{drop}
use Rattle.word_reader.specs.Matching.{AreAmong}
use Rattle.word_reader.proofs.text_matcher.are_among.Given as goal

abbrev pub invariant-loop-term : goal.invariant-loop-term
invariant-loop-term l = AreAmong l.words (drop l.term-index l.terms) → AreAmong l.words l.terms
