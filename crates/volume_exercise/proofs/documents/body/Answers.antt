-- One word more stands behind a space.
use Rattle.std.proofs.Common.{◌≡◌, ◌++◌, ◌-◌, ◌∷◌, ◌+◌, List, ℕ, ap, ◌∙◌, string_bytes, arith}
use Rattle.std.specs.List.{flat_map, range_with_len}
use Rattle.volume_exercise.specs.Documents.{body_of, word_at, word_of}
use Rattle.volume_exercise.proofs.Rows.{one_word_over}
use Rattle.volume_exercise.proofs.documents.body.Goals as goal

pub loop-place-preserved : goal.loop-place-preserved
loop-place-preserved c =
    let i = c.args.document in
    let at = c.loop-place.place in
    let text = string_bytes c.loop-place.text in
    let word = c.as_str.result.now in
    let is : word ≡ word_of (word_at i at) =
    c.as_str.ensures.value ∙ c.in_ok-next.ensures ∙ ap word_of c.word_at-in-loop-place.ensures in
    ap (λ (l : List ℕ). l ++ flat_map (λ j. 32 ∷ word_of (word_at i j)) (range_with_len (at + 1) (20 - (at + 1))))
    (c.in_ok-push_str-2.ensures.bytes ∙ ap (λ (l : List ℕ). l ++ word) c.in_ok-push_str.ensures.bytes)
    ∙ one_word_over (λ j. word_of (word_at i j)) text (body_of i) word at (20 - at) (20 - (at + 1))
    (omega (arith, c.loop-place-test.true)) c.loop-place.invariant is
