-- The terms before this turn's are sought.
use Rattle.std.proofs.Common.{take, []}
use Rattle.word_reader.specs.Matching.{SeekAll}
use Rattle.word_reader.proofs.byte_matcher.sought_of.Given as goal

abbrev pub invariant-loop-term : goal.invariant-loop-term
invariant-loop-term l = SeekAll l.sought.items (take l.term-index l.terms) []
