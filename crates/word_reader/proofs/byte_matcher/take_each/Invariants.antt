-- The terms before this turn's have the row.
use Rattle.std.proofs.Common.{◌≡◌, ◌++◌, map, take, drop}
use Rattle.word_reader.specs.Matching.{taken}
use Rattle.word_reader.proofs.byte_matcher.take_each.Given as goal

abbrev pub invariant-loop-one : goal.invariant-loop-one
invariant-loop-one l = l.sought ≡ map (taken l.row) (take l.one-index l.fn.sought) ++ drop l.one-index l.fn.sought
