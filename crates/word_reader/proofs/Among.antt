-- Terms that are among the words of a body.
use Rattle.std.proofs.Common.{◌≡◌, ◌<◌, ◌+◌, ℕ, zero, suc, List, ◌∷◌, length, drop, get_or, refl, sym, ◌∙◌, subst, arith}
use Rattle.std.specs.Prelude.{Contains}
use Rattle.std.proofs.lemmas.List.{drop_more}
use Rattle.volume_meaning.specs.Words.{AreWords, Matches}
use Rattle.volume_meaning.specs.declared.word_rules.WordRule.{WordRule}
use Rattle.volume_meaning.proofs.Words.{words_are_one}
use Rattle.word_reader.specs.Matching.{AreAmong}

-- what is left, with its first item
left : (xs : List (List ℕ)) (i : ℕ) (x : List ℕ) → i < length xs → x ≡ get_or xs i x → drop i xs ≡ x ∷ drop (i + 1) xs
left xs i x less here =
    drop_more xs i x less ∙ subst (λ (y : List ℕ). y ∷ drop (i + 1) xs ≡ x ∷ drop (i + 1) xs) here refl

-- one that is not the first is behind it
behind : (x t : List ℕ) (xs : List (List ℕ)) → (x ≡ t → ⊥) → Contains (x ∷ xs) t → Contains xs t
behind x t xs other (zero, low, is) = absurd (other is)
behind x t xs other (suc k, low, is) = (k, omega (arith, low), is)

pub not_here : (xs : List (List ℕ)) (i : ℕ) (x t : List ℕ) → i < length xs → x ≡ get_or xs i x → (x ≡ t → ⊥)
    → Contains (drop i xs) t → Contains (drop (i + 1) xs) t
not_here xs i x t less here other has =
    behind x t (drop (i + 1) xs) other (subst (λ (l : List (List ℕ)). Contains l t) (left xs i x less here) has)

-- one that is among the words leaves the others to be among them
both : (words terms : List (List ℕ)) (t : List ℕ) → Contains words t → AreAmong words terms → AreAmong words (t ∷ terms)
both words terms t has rest term (zero, low, is) = subst (Contains words) is has
both words terms t has rest term (suc k, low, is) = rest term (k, omega (arith, low), is)

pub one_more : (words terms : List (List ℕ)) (i : ℕ) (t : List ℕ) → i < length terms → t ≡ get_or terms i t
    → Contains words t → AreAmong words (drop (i + 1) terms) → AreAmong words (drop i terms)
one_more words terms i t less here has rest =
    subst (AreAmong words) (sym (left terms i t less here)) (both words (drop (i + 1) terms) t has rest)

-- terms are among the words of a body where the body matches them
module _ (rule : WordRule) (body : List ℕ) (words terms : List (List ℕ)) (are : AreWords rule body words) where
  pub matches : AreAmong words terms → Matches rule body terms
  matches among term has = record { words = words; are = are; among = among term has }

  pub among : Matches rule body terms → AreAmong words terms
  among m term has =
      let h = m term has in
      subst (λ (l : List (List ℕ)). Contains l term)
      (words_are_one.one rule body h.words h.are ∙ sym (words_are_one.one rule body words are)) h.among
