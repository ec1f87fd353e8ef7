-- No term with this front stands at a place before this one.
use Rattle.std.proofs.Common.{◌≤◌, ◌-◌, ℕ, List, length}
use Rattle.word_reader.specs.RowWords.{IsFrontOf, StandsAtNone}
use Rattle.word_reader.proofs.row_words.pass_wide.Given as goal

abbrev pub invariant-loop-at : goal.invariant-loop-at
invariant-loop-at l =
    (l.from ≤ l.at) × (l.at ≤ length l.row)
    × ((term : List ℕ) → IsFrontOf term l.front → StandsAtNone l.row l.from l.at term)

abbrev pub decreases-loop-at : goal.decreases-loop-at
decreases-loop-at l = length l.row - l.at
