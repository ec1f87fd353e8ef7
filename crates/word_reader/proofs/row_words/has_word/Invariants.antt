-- The term stands at no place before this one.
use Rattle.std.proofs.Common.{◌≤◌, ◌+◌, ◌-◌, length}
use Rattle.word_reader.specs.RowWords.{StandsAtNone}
use Rattle.word_reader.proofs.row_words.has_word.Given as goal

abbrev pub invariant-loop-from : goal.invariant-loop-from
invariant-loop-from l = (l.from ≤ length l.row + 1) × StandsAtNone l.row 0 l.from l.term

abbrev pub decreases-loop-from : goal.decreases-loop-from
decreases-loop-from l = length l.row + 1 - l.from
