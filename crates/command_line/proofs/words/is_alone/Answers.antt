-- There is one word, and it is the one that was read.
use Rattle.std.proofs.Common.{◌≡◌, ℕ, List, [], ◌∷◌, map, sym, ap, ◌∙◌, arith}
use Rattle.std.specs.String.{string_bytes}
use Rattle.std.proofs.lemmas.Slice.Eq.{bytes_eq-Decides}
use Rattle.command_line.proofs.Listed.{first_is, one}
use Rattle.command_line.proofs.words.is_alone.Goals as goal

pub returns : goal.returns
returns c =
    let word = c.as_str.result.now in
    let same = bytes_eq-Decides word c.args.command.now in
    let words : map string_bytes c.args.words.now ≡ word ∷ [] =
    ap (map string_bytes) (one c.args.words.now c.word-item.result (omega arith) c.word-item.is)
    ∙ ap (λ (w : List ℕ). w ∷ []) (sym c.as_str.ensures.value) in (
      λ told. words ∙ ap (λ (w : List ℕ). w ∷ []) (same.0 (sym c.eq.ensures ∙ told)),
      λ asked. c.eq.ensures ∙ same.1 (first_is _ _ (sym words ∙ asked)),
    )
