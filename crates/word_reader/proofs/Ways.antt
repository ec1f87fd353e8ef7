-- What is known of a matcher that reads characters.
use Rattle.std.proofs.Common.{◌≡◌, ◌↔◌, Bool, ℕ, List, refl, sym, subst}
use Rattle.std.specs.Prelude.{IfOk, IsTrue, Result, Ok, Err}
use Rattle.cell_types.specs.declared.refusal.NoMemory.{NoMemory}
use Rattle.volume_meaning.specs.Words.{Matches}
use Rattle.volume_meaning.specs.declared.word_rules.WordRule.{WordRule}
use Rattle.volume_meaning.specs.declared.word_rules.WordRule.TheVariants.{Ascii, Folded}
use Rattle.word_reader.specs.Matching.{FinishEnds, KeepsBytes, Serves}
use Rattle.word_reader.specs.declared.matcher.Matcher.{Matcher}
use Rattle.word_reader.specs.declared.matcher.Way.{Way}
use Rattle.word_reader.specs.declared.matcher.Way.TheVariants.{ByCharacters}
use Rattle.word_reader.specs.declared.text_matcher.TextMatcher.{TextMatcher}

-- its rule is Folded, and it keeps the bytes
keeps : (way : Way) (m : TextMatcher) → way ≡ ByCharacters m → (rule : WordRule) (terms : List (List ℕ)) (bytes : List ℕ)
    → Serves way rule terms bytes → (rule ≡ Folded) × KeepsBytes m terms bytes
keeps way m is Ascii terms bytes h = absurd (subst (λ (w : Way). Serves w Ascii terms bytes) is h)
keeps way m is Folded terms bytes h = (refl, subst (λ (w : Way). Serves w Folded terms bytes) is h)

-- what it answers is the matcher's answer
pub finished : (matcher : Matcher) (m : TextMatcher) → matcher.way ≡ ByCharacters m → (result : Result Bool NoMemory)
    → IfOk result (λ all. (terms : List (List ℕ)) (bytes : List ℕ) → KeepsBytes m terms bytes
    → IsTrue all ↔ Matches Folded bytes terms)
    → FinishEnds matcher result
finished matcher m is (Ok all) says = λ rule terms bytes h.
    let k = keeps matcher.way m is rule terms bytes h.way in
    subst (λ (r : WordRule). IsTrue all ↔ Matches r bytes terms) (sym k.0) (says terms bytes k.1)
finished matcher m is (Err short) says = λ rule terms bytes h. (keeps matcher.way m is rule terms bytes h.way).0
