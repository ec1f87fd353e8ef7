-- The terms before this turn's have forgotten theirs.
use Rattle.std.proofs.Common.{◌≡◌, ◌++◌, map, take, drop}
use Rattle.word_reader.specs.Matching.{cleared}
use Rattle.word_reader.proofs.byte_matcher.clear_each.Given as goal

abbrev pub invariant-loop-one : goal.invariant-loop-one
invariant-loop-one l = l.sought ≡ map cleared (take l.one-index l.fn.sought) ++ drop l.one-index l.fn.sought
