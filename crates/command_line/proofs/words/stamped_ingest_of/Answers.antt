-- There are three words, and they are the three that were read.
use Rattle.std.proofs.Common.{◌≡◌, ℕ, List, [], ◌∷◌, map, sym, ap, subst, ◌∙◌, arith}
use Rattle.std.specs.Prelude.{codes}
use Rattle.std.specs.String.{string_bytes}
use Rattle.std.proofs.lemmas.Bool.{false≢true}
use Rattle.worm_device.proofs.Compared.{alike}
use Rattle.command_line.specs.Words.{AreSeconds}
use Rattle.command_line.proofs.Listed.{if_none, third_is, three}
use Rattle.command_line.proofs.Options.{no_option}
use Rattle.command_line.proofs.words.stamped_ingest_of.Goals as goal

pub returns-clause-some : goal.returns-clause-some
returns-clause-some c =
    let same = alike c.as_str.result.now (codes "ingest") c.ne.result c.ne.ensures c.if-ne.false in
    let command : string_bytes c.command-item.result ≡ codes "ingest" = sym c.as_str.ensures.value ∙ same in
    let given = c.id-item.result in
    let last = c.seconds-item.result in
    let words = three c.args.words.now c.command-item.result given last (omega arith) c.command-item.is
    c.id-item.is c.seconds-item.is in
    let seconds = c.in_ok-seconds in
    record {
      last = string_bytes last;
      asked = ap (map string_bytes) words
          ∙ ap (λ (w : List ℕ). w ∷ string_bytes given ∷ string_bytes last ∷ []) command
          ∙ ap (λ (w : List ℕ). codes "ingest" ∷ w ∷ string_bytes last ∷ []) (sym c.as_bytes-id.ensures.value);
      word = no_option _ (λ not. absurd (false≢true (c.if-is_option.ensures.1 not)));
      seconds_word = subst (λ (w : List ℕ). AreSeconds w seconds.seconds) c.as_bytes.ensures.value
          seconds.ensures.some;
    }

-- a word that stands for no seconds
pub returns-in_err-seconds-clause-none : goal.returns-in_err-seconds-clause-none
returns-in_err-seconds-clause-none c =
    let words = three c.args.words.now c.command-item.result c.id-item.result c.seconds-item.result (omega arith)
    c.command-item.is c.id-item.is c.seconds-item.is in
    if_none c.from_residual.result (λ id seconds asks.
    let last = third_is _ _ _ _ _ _ (sym asks.asked ∙ ap (map string_bytes) words) in
    c.in_err-seconds.ensures.none seconds
    (subst (λ (w : List ℕ). AreSeconds w seconds) (last ∙ sym c.as_bytes.ensures.value) asks.seconds_word))
