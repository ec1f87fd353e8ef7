-- If it is one of all, it is one of those that are left.
use Rattle.std.proofs.Common.{drop}
use Rattle.std.specs.Prelude.{Contains}
use Rattle.word_reader.proofs.text_matcher.is_among.Given as goal

abbrev pub invariant-loop-word : goal.invariant-loop-word
invariant-loop-word l = Contains l.words l.term → Contains (drop l.word-index l.words) l.term
