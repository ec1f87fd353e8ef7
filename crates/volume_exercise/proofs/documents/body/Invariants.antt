-- What stands so far, and the words that are left.
use Rattle.std.proofs.Common.{◌≡◌, ◌++◌, ◌-◌, ◌∷◌, string_bytes}
use Rattle.std.specs.List.{flat_map, range_with_len}
use Rattle.volume_exercise.specs.Documents.{body_of, word_at, word_of}
use Rattle.volume_exercise.proofs.documents.body.Given as goal

abbrev pub invariant-loop-place : goal.invariant-loop-place
invariant-loop-place l =
    string_bytes l.text ++ flat_map (λ j. 32 ∷ word_of (word_at l.document j)) (range_with_len l.place (20 - l.place))
    ≡ body_of l.document
