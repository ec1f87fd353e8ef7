-- There are two words, and they are the two that were read.
use Rattle.std.proofs.Common.{◌≡◌, ℕ, List, [], ◌∷◌, map, sym, ap, subst, ◌∙◌, arith}
use Rattle.std.specs.Prelude.{codes}
use Rattle.std.specs.String.{string_bytes}
use Rattle.command_line.specs.declared.words.TheConstants.{MAX_DOCUMENTS}
use Rattle.worm_device.proofs.Compared.{alike}
use Rattle.command_line.specs.Words.{IsNumberUpTo}
use Rattle.command_line.proofs.Listed.{if_none, last_is, two}
use Rattle.command_line.proofs.words.exercise_of.Goals as goal

pub returns-clause-some : goal.returns-clause-some
returns-clause-some c =
    let same = alike c.as_str.result.now (codes "exercise") c.ne.result c.ne.ensures c.if-ne.false in
    let command : string_bytes c.command-item.result ≡ codes "exercise" = sym c.as_str.ensures.value ∙ same in
    let first = c.documents-item.result in
    let words = two c.args.words.now c.command-item.result first (omega arith) c.command-item.is c.documents-item.is in
    record {
      first = string_bytes first;
      asked = ap (map string_bytes) words ∙ ap (λ (w : List ℕ). w ∷ string_bytes first ∷ []) command;
      documents_word = subst (λ (w : List ℕ). IsNumberUpTo MAX_DOCUMENTS w c.in_ok-documents.documents)
          c.as_bytes.ensures.value c.in_ok-documents.ensures.some;
    }

-- a word that stands for no number of documents
pub returns-in_err-documents-clause-none : goal.returns-in_err-documents-clause-none
returns-in_err-documents-clause-none c =
    let first = c.documents-item.result in
    let words = two c.args.words.now c.command-item.result first (omega arith) c.command-item.is c.documents-item.is in
    if_none c.from_residual.result (λ documents asks.
    let second = last_is _ _ _ _ (sym asks.asked ∙ ap (map string_bytes) words) in
    c.in_err-documents.ensures.none documents
    (subst (λ (w : List ℕ). IsNumberUpTo MAX_DOCUMENTS w documents) (second ∙ sym c.as_bytes.ensures.value)
    asks.documents_word))
