-- There are three words, and they are the three that were read.
use Rattle.std.proofs.Common.{◌≡◌, ℕ, List, [], ◌∷◌, map, sym, ap, subst, ◌∙◌, arith}
use Rattle.std.specs.Prelude.{codes}
use Rattle.std.specs.String.{string_bytes}
use Rattle.worm_device.proofs.Compared.{alike}
use Rattle.command_line.specs.Words.{AreSeconds}
use Rattle.command_line.proofs.Listed.{if_none, second_is, third_is, three}
use Rattle.command_line.proofs.words.between_of.Goals as goal

pub returns-clause-some : goal.returns-clause-some
returns-clause-some c =
    let same = alike c.as_str.result.now (codes "between") c.ne.result c.ne.ensures c.if-ne.false in
    let command : string_bytes c.command-item.result ≡ codes "between" = sym c.as_str.ensures.value ∙ same in
    let first = c.from-item.result in
    let second = c.to-item.result in
    let words = three c.args.words.now c.command-item.result first second (omega arith) c.command-item.is c.from-item.is
    c.to-item.is in
    record {
      first = string_bytes first;
      second = string_bytes second;
      asked = ap (map string_bytes) words
          ∙ ap (λ (w : List ℕ). w ∷ string_bytes first ∷ string_bytes second ∷ []) command;
      from_word = subst (λ (w : List ℕ). AreSeconds w c.in_ok-from.from) c.as_bytes.ensures.value
          c.in_ok-from.ensures.some;
      to_word = subst (λ (w : List ℕ). AreSeconds w c.in_ok-to.to) c.as_bytes-2.ensures.value c.in_ok-to.ensures.some;
      order = omega arith;
    }

-- the first word stands for no seconds
pub returns-in_err-from-clause-none : goal.returns-in_err-from-clause-none
returns-in_err-from-clause-none c =
    let words = three c.args.words.now c.command-item.result c.from-item.result c.to-item.result (omega arith)
    c.command-item.is c.from-item.is c.to-item.is in
    if_none c.from_residual.result (λ from to asks.
    let first = second_is _ _ _ _ _ _ (sym asks.asked ∙ ap (map string_bytes) words) in
    c.in_err-from.ensures.none from
    (subst (λ (w : List ℕ). AreSeconds w from) (first ∙ sym c.as_bytes.ensures.value) asks.from_word))

-- the second stands for none
pub returns-in_err-to-clause-none : goal.returns-in_err-to-clause-none
returns-in_err-to-clause-none c =
    let words = three c.args.words.now c.command-item.result c.from-item.result c.to-item.result (omega arith)
    c.command-item.is c.from-item.is c.to-item.is in
    if_none c.from_residual-in_err-to.result (λ from to asks.
    let second = third_is _ _ _ _ _ _ (sym asks.asked ∙ ap (map string_bytes) words) in
    c.in_err-to.ensures.none to
    (subst (λ (w : List ℕ). AreSeconds w to) (second ∙ sym c.as_bytes-2.ensures.value) asks.to_word))
