-- There are two words, and they are the two that were read.
use Rattle.std.proofs.Common.{◌≡◌, ℕ, List, [], ◌∷◌, map, sym, ap, subst, ◌∙◌, arith}
use Rattle.std.specs.String.{string_bytes}
use Rattle.std.proofs.lemmas.Bool.{false≢true}
use Rattle.worm_device.proofs.Compared.{alike, differ}
use Rattle.command_line.specs.Words.{IsNoOption}
use Rattle.command_line.proofs.Listed.{front_is, last_is, two}
use Rattle.command_line.proofs.Options.{no_option}
use Rattle.command_line.proofs.words.word_behind.Goals as goal
use Rattle.command_line.proofs.words.word_behind.Goals.{then-ne-via-then-ne, then-ne-via-else-ne+then-is_option}

pub returns-then-ne-clause-none : goal.returns-then-ne-clause-none
returns-then-ne-clause-none c =
    let first = c.first-item.result in
    let second = c.word-item.result in
    let words : map string_bytes c.args.words.now ≡ string_bytes first ∷ string_bytes second ∷ [] =
    ap (map string_bytes) (two c.args.words.now first second (omega arith) c.first-item.is c.word-item.is) in
    elim c.then-ne.branch [
      | then-ne-via-then-ne w ↦ λ word asked is.
          differ c.as_str.result.now c.args.command.now c.ne.result c.ne.ensures w.if-ne.true
          (c.as_str.ensures.value ∙ front_is _ _ _ _ (sym words ∙ asked))
      | then-ne-via-else-ne+then-is_option w ↦ λ word asked is.
          w.is_option.ensures.0 w.if-is_option.true
          (subst IsNoOption (sym (last_is _ _ _ _ (sym words ∙ asked)) ∙ sym c.as_bytes-word.ensures.value) is)
    ]

pub returns-clause-some : goal.returns-clause-some
returns-clause-some c =
    let first = c.first-item.result in
    let second = c.word-item.result in
    let same = alike c.as_str.result.now c.args.command.now c.ne.result c.ne.ensures c.if-ne.false in
    let words : map string_bytes c.args.words.now ≡ string_bytes first ∷ string_bytes second ∷ [] =
    ap (map string_bytes) (two c.args.words.now first second (omega arith) c.first-item.is c.word-item.is) in (
      words ∙ ap (λ (w : List ℕ). w ∷ string_bytes second ∷ []) (sym c.as_str.ensures.value ∙ same)
          ∙ ap (λ (w : List ℕ). c.args.command.now ∷ w ∷ []) (sym c.as_bytes-word.ensures.value),
      no_option _ (λ not. absurd (false≢true (c.if-is_option.ensures.1 not))),
    )
