-- The bytes before the ones that are left were pushed.
use Rattle.std.proofs.Common.{◌≤◌, ◌-◌, ◌++◌, ℕ, List, length, take}
use Rattle.word_reader.specs.Matching.{KnowsBytes}
use Rattle.word_reader.proofs.byte_matcher.ByteMatcher.push_run.Given as goal

abbrev pub invariant-loop-self : goal.invariant-loop-self
invariant-loop-self l = (l.at ≤ length l.bytes)
    × ((terms : List (List ℕ)) (before : List ℕ) → KnowsBytes l.fn.self terms before
    → KnowsBytes l.self terms (before ++ take l.at l.bytes))

abbrev pub decreases-loop-self : goal.decreases-loop-self
decreases-loop-self l = length l.bytes - l.at
