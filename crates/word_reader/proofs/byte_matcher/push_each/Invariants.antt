-- The terms before this turn's have the byte.
use Rattle.std.proofs.Common.{◌≡◌, ◌++◌, map, take, drop}
use Rattle.word_reader.specs.Matching.{pushed}
use Rattle.word_reader.proofs.byte_matcher.push_each.Given as goal

abbrev pub invariant-loop-one : goal.invariant-loop-one
invariant-loop-one l = l.sought ≡ map (pushed l.byte) (take l.one-index l.fn.sought) ++ drop l.one-index l.fn.sought
