-- The bytes before this turn's spell those of the term.
use Rattle.std.proofs.Common.{◌<◌, ◌+◌, ℕ, slice_index}
use Rattle.word_reader.specs.RowWords.{ReadsAs}
use Rattle.word_reader.proofs.row_words.spells_at.Given as goal

abbrev pub invariant-loop-k : goal.invariant-loop-k
invariant-loop-k l = (k : ℕ) → k < l.k → ReadsAs (slice_index l.row (l.at + k)) (slice_index l.term k)
