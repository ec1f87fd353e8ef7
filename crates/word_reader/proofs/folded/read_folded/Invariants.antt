-- The terms so far, and those of the run and of what is left, are all.
use Rattle.std.proofs.Common.{◌≡◌, ◌≤◌, ◌-◌, ◌++◌, drop, length, string_bytes}
use Rattle.volume_meaning.specs.Words.{characters_after, words_from, words_of}
use Rattle.volume_meaning.specs.declared.word_rules.WordRule.TheVariants.{Folded}
use Rattle.word_reader.proofs.folded.read_folded.Given as goal

abbrev pub invariant-loop-at : goal.invariant-loop-at
invariant-loop-at l =
    (l.at ≤ length l.bytes)
    × (l.terms.items ++ words_from Folded (string_bytes l.run) (characters_after 0 (drop l.at l.bytes)) ≡ words_of Folded l.bytes)

abbrev pub decreases-loop-at : goal.decreases-loop-at
decreases-loop-at l = length l.bytes - l.at
