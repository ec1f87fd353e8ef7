-- The first word is `find`, and the others are the words that it asks for.
use Rattle.std.proofs.Common.{◌≡◌, ◌≤◌, ◌<◌, ℕ, Bool, List, ◌∷◌, String, length, map, sym, ap, subst, ◌∙◌, arith, rules, tests}
use Rattle.std.proofs.lemmas.Iterator.{YieldsList-from_slice, cases_from_any}
use Rattle.std.proofs.lemmas.List.{length-map}
use Rattle.std.proofs.lemmas.List.Elements.{All-contains, All-map}
use Rattle.std.specs.Bool.{MatchBool}
use Rattle.std.specs.Global.{Global}
use Rattle.std.specs.List.{AllWithin, HoldsAt}
use Rattle.std.specs.Prelude.{codes}
use Rattle.std.specs.String.{string_bytes}
use Rattle.worm_device.proofs.Compared.{alike}
use Rattle.command_line.specs.Words.{IsNoOption}
use Rattle.command_line.proofs.Options.{no_option, no_search}
use Rattle.command_line.proofs.words.find_of.Goals as goal

-- the word is an option
abbrev IsOption : String Global → Type 0
IsOption word = IsNoOption (string_bytes word) → ⊥

-- and this one is none
abbrev IsPlain : String Global → Type 0
IsPlain word = IsOption word → ⊥

-- whether one of the words is an option
abbrev AnyAnswers : Bool → List (String Global) → Type 0
AnyAnswers any words =
    MatchBool any ((k : ℕ) × (k < length words) × HoldsAt IsOption words k) (AllWithin IsPlain words 0 (length words))

-- one is
pub returns-then-any-clause-none : goal.returns-then-any-clause-none
returns-then-any-clause-none c =
    let command = c.in_ok-command.command.now in
    let rest = c.in_ok-command.asked.now in
    let answers : AnyAnswers c.any.result rest = cases_from_any _ _ c.any.result IsOption IsPlain c.any.ensures.ran
    (YieldsList-from_slice rest c.iter.ensures.rest) (λ x q k. search (rules, tests))
    (λ x q k. search (rules, tests)) in
    let one = subst (λ (any : Bool). AnyAnswers any rest) c.if-any.true answers in
    no_search c.args.words.now rest command c.in_ok-command.ensures.cases.0 one.0 one.1 (one.2 command)

-- none is
pub returns-clause-some : goal.returns-clause-some
returns-clause-some c =
    let rest = c.in_ok-command.asked.now in
    let answers : AnyAnswers c.any.result rest = cases_from_any _ _ c.any.result IsOption IsPlain c.any.ensures.ran
    (YieldsList-from_slice rest c.iter.ensures.rest) (λ x q k. search (rules, tests))
    (λ x q k. search (rules, tests)) in
    let none = subst (λ (any : Bool). AnyAnswers any rest) c.if-any.false answers in
    let some : 1 ≤ length rest = search rules in
    let same = alike c.as_str.result.now (codes "find") c.ne.result c.ne.ensures c.if-ne.false in
    let command : string_bytes c.in_ok-command.command.now ≡ codes "find" = sym c.as_str.ensures.value ∙ same in
    record {
      asked_is = ap (map string_bytes) c.in_ok-command.ensures.cases.0
          ∙ ap (λ (w : List ℕ). w ∷ map string_bytes rest) command;
      some = omega (arith, some, length-map rest string_bytes);
      most = omega (arith, length-map rest string_bytes);
      each = λ word among. All-contains IsNoOption (map string_bytes rest) word
          (All-map IsNoOption string_bytes rest (λ k d less. no_option _ (none k d (omega arith) less))) among;
    }
