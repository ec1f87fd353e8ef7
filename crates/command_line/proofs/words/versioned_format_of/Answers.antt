-- The last word is the version, and those before it ask for the numbers.
use Rattle.std.proofs.Common.{◌≡◌, ◌++◌, ℕ, List, [], ◌∷◌, String, map, sym, ap, subst, ◌∙◌, inr}
use Rattle.std.proofs.lemmas.List.{map-append, same_from_push}
use Rattle.std.specs.Global.{Global}
use Rattle.std.specs.Prelude.{codes}
use Rattle.std.specs.String.{string_bytes}
use Rattle.cell_types.specs.declared.geometry.TheConstants.{NEWEST_VERSION}
use Rattle.command_line.specs.Asking.{AsksByVersion}
use Rattle.command_line.specs.Words.{IsNumberUpTo}
use Rattle.command_line.proofs.Listed.{if_none}
use Rattle.command_line.proofs.words.versioned_format_of.Goals as goal

module _ (words plain : List (String Global)) (last : String Global) (split : words ≡ plain ++ last ∷ []) where
  texts : map string_bytes words ≡ map string_bytes plain ++ string_bytes last ∷ []
  texts = ap (map string_bytes) split ∙ map-append string_bytes plain (last ∷ [])

  -- what words that ask for a volume of a version are
  parts : {slots lists version : ℕ} (asks : AsksByVersion (map string_bytes words) slots lists version)
      → (map string_bytes plain ≡ codes "format" ∷ asks.first ∷ asks.second ∷ []) × (string_bytes last ≡ asks.third)
  parts asks = same_from_push _ (codes "format" ∷ asks.first ∷ asks.second ∷ []) _ _ (sym texts ∙ asks.asked)

pub returns-clause-some : goal.returns-clause-some
returns-clause-some c =
    let plain = c.in_ok-slots.ensures.some in
    let version = c.in_ok-version in
    let last = string_bytes c.in_ok-last.last.now in
    inr (record {
      first = plain.first;
      second = plain.second;
      third = last;
      asked = texts _ _ _ c.in_ok-last.ensures.cases.0 ∙ ap (λ (w : List (List ℕ)). w ++ last ∷ []) plain.asked;
      slots_word = plain.slots_word;
      lists_word = plain.lists_word;
      version_word = subst (λ (w : List ℕ). IsNumberUpTo NEWEST_VERSION w version.version) c.as_bytes.ensures.value
          (subst (λ (most : ℕ). IsNumberUpTo most c.as_bytes.result.now version.version) c.from.ensures
          version.ensures.some);
    })

-- no numbers stand before the last word
pub returns-in_err-slots-clause-none : goal.returns-in_err-slots-clause-none
returns-in_err-slots-clause-none c =
    if_none c.from_residual-in_err-slots.result (λ slots lists version asks.
    c.in_err-slots.ensures.none slots lists (record {
      first = asks.first;
      second = asks.second;
      asked = (parts _ _ _ c.in_ok-last.ensures.cases.0 asks).0;
      slots_word = asks.slots_word;
      lists_word = asks.lists_word;
    }))

-- the last word stands for no version
pub returns-in_err-version-clause-none : goal.returns-in_err-version-clause-none
returns-in_err-version-clause-none c =
    if_none c.from_residual-in_err-version.result (λ slots lists version asks.
    c.in_err-version.ensures.none version
    (subst (λ (most : ℕ). IsNumberUpTo most c.as_bytes.result.now version) (sym c.from.ensures)
    (subst (λ (w : List ℕ). IsNumberUpTo NEWEST_VERSION w version)
    (sym (c.as_bytes.ensures.value ∙ (parts _ _ _ c.in_ok-last.ensures.cases.0 asks).1)) asks.version_word)))
