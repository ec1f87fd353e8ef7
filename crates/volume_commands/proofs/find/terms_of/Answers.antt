-- A word more, and the terms so far.
use Rattle.std.proofs.Common.{◌≡◌, ◌+◌, ◌<◌, ℕ, Bool, List, Err, length, map, sym, ap, subst, ◌∙◌, arith, rules, tests}
use Rattle.std.proofs.lemmas.Iterator.{YieldsList-from_slice, cases_from_all}
use Rattle.std.proofs.lemmas.List.{length-map}
use Rattle.std.proofs.lemmas.List.Elements.{Contains-from_at, at_from_Contains}
use Rattle.std.proofs.lemmas.List.Folds.{none_from_all_within}
use Rattle.std.specs.Bool.{MatchBool}
use Rattle.std.specs.List.{AllWithin, HoldsAt}
use Rattle.std.specs.String.{string_bytes}
use Rattle.word_reader.specs.Single.{SingleEnds}
use Rattle.word_reader.specs.declared.reader.WordFault.{WordFault}
use Rattle.volume_commands.specs.Finding.{IsFirstBadWord, IsOneTerm}
use Rattle.volume_commands.proofs.Terms.{TermsSoFar, are_terms, first_bad, term_again, term_new, word_at}
use Rattle.volume_commands.proofs.find.terms_of.Goals.{then-all+in_ok-push, else-all}
use Rattle.volume_commands.proofs.find.terms_of.Goals as goal

-- whether the term is none of these
abbrev IsNew : Bool → List ℕ → List (List ℕ) → Type 0
IsNew new term terms =
    MatchBool new (AllWithin (λ (t : List ℕ). t ≡ term → ⊥) terms 0 (length terms))
    ((k : ℕ) × (k < length terms) × HoldsAt (λ (t : List ℕ). t ≡ term) terms k)

-- a word that does not hold exactly one term
pub returns-in-Err-BadWord : goal.returns-in-Err-BadWord
returns-in-Err-BadWord c =
    let asked = map string_bytes c.args.words.now in
    let word = c.word-item.result in
    let at = word_at c.args.words.now c.loop-word.word-index word (omega arith) c.word-item.is in
    let ends = subst (λ (w : List ℕ). SingleEnds c.args.rule w (Err c.in-Err-BadWord.field-0)) c.as_bytes.ensures.value
    c.in-Err-BadWord.ensures in
    let bad = subst (λ (fault : WordFault). SingleEnds c.args.rule (string_bytes word) (Err fault))
    c.in-Err-BadWord.field-0-is ends in
    subst (λ (i : ℕ). IsFirstBadWord c.args.rule asked (i + 1)) (sym c.loop-word.invariant.0)
    (first_bad c.loop-word.invariant.1 (string_bytes word) at bad)

-- one that does
pub loop-word-preserved : goal.loop-word-preserved
loop-word-preserved c =
    let asked = map string_bytes c.args.words.now in
    let terms = c.loop-word.terms.items in
    let term = c.in-Ok.term in
    let word = c.word-item.result in
    let at = word_at c.args.words.now c.loop-word.word-index word (omega arith) c.word-item.is in
    let is = subst (λ (w : List ℕ). IsOneTerm c.args.rule w term) c.as_bytes.ensures.value c.in-Ok.ensures in
    let so_far = c.loop-word.invariant.1 in
    let more = λ (ts : List (List ℕ)). TermsSoFar c.args.rule asked ts (c.loop-word.word-index + 1) in
    let new : IsNew c.all.result term terms =
    cases_from_all _ _ c.all.result (λ (t : List ℕ). t ≡ term → ⊥) (λ (t : List ℕ). t ≡ term) c.all.ensures.ran
    (YieldsList-from_slice terms (c.iter.ensures.rest ∙ c.deref.ensures.value)) (λ x q k. search (rules, tests))
    (λ x q k. search (rules, tests)) in
    elim c.if-all.branch [
      | then-all+in_ok-push w ↦
          let items = ap (λ v. v.items) w.terms-is ∙ w.in_ok-push.ensures.items in (
            omega (arith, c.loop-word.invariant.0),
            subst more (sym items)
                (term_new so_far (string_bytes word) term at is
                (λ among. none_from_all_within (λ (t : List ℕ). t ≡ term) terms
                (subst (λ (b : Bool). IsNew b term terms) w.if-all.true new) (at_from_Contains terms term among))),
          )
      | else-all w ↦
          let there = subst (λ (b : Bool). IsNew b term terms) w.if-all.false new in (
            omega (arith, c.loop-word.invariant.0),
            subst more (sym (ap (λ v. v.items) w.terms-is))
                (term_again so_far (string_bytes word) term at is (Contains-from_at terms term there)),
          )
    ]

-- no word more
pub returns : goal.returns
returns c =
    are_terms c.loop-word.invariant.1
    (omega (arith, c.loop-word-test.false, c.loop-word.auto.word-index-end, length-map c.args.words.now string_bytes))
