-- The bytes before this turn's were pushed.
use Rattle.std.proofs.Common.{◌++◌, ℕ, List, take}
use Rattle.word_reader.specs.Matching.{KnowsBytes}
use Rattle.word_reader.proofs.byte_matcher.ByteMatcher.push_bytes.Given as goal

abbrev pub invariant-loop-byte : goal.invariant-loop-byte
invariant-loop-byte l = (terms : List (List ℕ)) (before : List ℕ) → KnowsBytes l.fn.self terms before
    → KnowsBytes l.self terms (before ++ take l.byte-index l.bytes)
