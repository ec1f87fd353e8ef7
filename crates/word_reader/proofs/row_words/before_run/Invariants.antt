-- The place is within the row.
use Rattle.std.proofs.Common.{◌≤◌, length}
use Rattle.word_reader.proofs.row_words.before_run.Given as goal

abbrev pub invariant-loop-end : goal.invariant-loop-end
invariant-loop-end l = l.end ≤ length l.row

abbrev pub decreases-loop-end : goal.decreases-loop-end
decreases-loop-end l = l.end
