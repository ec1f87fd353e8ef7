-- The words of the bytes are all of them.
use Rattle.std.proofs.Common.{◌∙◌, List, ℕ, sym, subst}
use Rattle.volume_meaning.specs.Words.{AreWords}
use Rattle.volume_meaning.specs.declared.word_rules.WordRule.TheVariants.{Folded}
use Rattle.word_reader.specs.Matching.{AreAmong}
use Rattle.word_reader.proofs.Among.{among, matches}
use Rattle.word_reader.proofs.text_matcher.TextMatcher.finish.Goals as goal

pub returns : goal.returns
returns c = λ terms bytes h.
    let words = c.in_ok-found.found.items in
    let are : AreWords Folded bytes words =
    subst (λ (b : List ℕ). AreWords Folded b words) (c.deref.ensures.value ∙ h.bytes_are) c.in_ok-found.ensures in
    let here = c.deref-2.ensures.value in
    let all = c.deref-3.ensures.value ∙ h.terms_are in (
      λ yes. matches Folded bytes words terms are
          (subst (AreAmong words) all (subst (λ (ws : List (List ℕ)). AreAmong ws c.deref-3.result.now) here (c.are_among.ensures.0 yes))),
      λ m. c.are_among.ensures.1
          (subst (λ (ws : List (List ℕ)). AreAmong ws c.deref-3.result.now) (sym here)
          (subst (AreAmong words) (sym all) (among Folded bytes words terms are m))),
    )
