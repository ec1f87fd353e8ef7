-- The terms before this turn's are copied.
use Rattle.std.proofs.Common.{◌≡◌, take}
use Rattle.word_reader.proofs.text_matcher.copies_of.Given as goal

abbrev pub invariant-loop-term : goal.invariant-loop-term
invariant-loop-term l = l.copies.items ≡ take l.term-index l.terms
