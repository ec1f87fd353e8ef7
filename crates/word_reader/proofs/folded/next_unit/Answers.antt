-- A character is found at the front, or the first byte is stray.
use Rattle.std.proofs.Common.{◌∷◌, ◌∙◌, drop, ℕ, sym, ap, arith}
use Rattle.volume_meaning.specs.Words.{characters_after}
use Rattle.word_reader.proofs.Folding.{found_unit}
use Rattle.word_reader.proofs.folded.next_unit.Goals as goal

pub returns-clause-unit : goal.returns-clause-unit
returns-clause-unit c =
    let bytes = c.args.bytes.now in
    let f = found_unit bytes c.in-Some.character (sym c.decode-found.ensures.char ∙ c.in-Some.is) in
    f.0 ∙ ap (λ (n : ℕ). c.in-Some.character ∷ characters_after 0 (drop n bytes)) (sym c.decode-found.ensures.size)

pub returns-clause-some : goal.returns-clause-some
returns-clause-some c =
    let f = found_unit c.args.bytes.now c.in-Some.character (sym c.decode-found.ensures.char ∙ c.in-Some.is) in
    omega (arith, f.1, c.decode-found.ensures.size)

pub returns-clause-most : goal.returns-clause-most
returns-clause-most c =
    let f = found_unit c.args.bytes.now c.in-Some.character (sym c.decode-found.ensures.char ∙ c.in-Some.is) in
    omega (arith, f.2, c.decode-found.ensures.size)
