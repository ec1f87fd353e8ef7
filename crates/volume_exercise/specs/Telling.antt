-- What the exercise is to tell, by its documents and their words alone, whatever was replied: the lines in which each
-- document was acknowledged and came back, and in which the words found just the documents that have them.
--
--     200 documents      each word is in 19 of them       single 3800
--                        w0 and w1 are both in d000000    pairs 199, one for each pair
use Rattle.std.specs.Prelude.{◌≡◌, ◌+◌, ◌-◌, ◌↔◌, ℕ, Bool, true, List, [], ◌∷◌, codes}
use Rattle.std.specs.List.{count_by, list_all, list_any, sum_by}
use Rattle.std.specs.Str.{bytes_eq}
use Rattle.volume_meaning.specs.Words.{Matches, words_of}
use Rattle.volume_meaning.specs.declared.word_rules.WordRule.TheVariants.{Ascii}
use Rattle.volume_exercise.specs.Documents.{body_of, up_to, word_of}
use Rattle.volume_exercise.specs.Tallies.{tally_lines}
use Rattle.volume_exercise.specs.declared.limits.TheConstants.{DISTINCT_WORDS}

-- each of the terms is a word of the body
abbrev pub has_all : List (List ℕ) → List ℕ → Bool
has_all terms body = list_all (λ term. list_any (bytes_eq term) (words_of Ascii body)) terms

-- how many of the n documents have these terms
unfoldable pub documents_with : ℕ → List (List ℕ) → ℕ
documents_with n terms = count_by (λ i. has_all terms (body_of i)) (up_to n)

-- the terms of a find of a single word, and of a pair of words
abbrev pub single_terms : ℕ → List (List ℕ)
single_terms k = word_of k ∷ []

abbrev pub pair_terms : ℕ → List (List ℕ)
pair_terms k = word_of k ∷ word_of (k + 1) ∷ []

-- how many documents all words find, each alone, and all pairs of a word and the next one
unfoldable pub single_matches : ℕ → ℕ
single_matches n = sum_by (λ k. documents_with n (single_terms k)) (up_to DISTINCT_WORDS)

unfoldable pub pair_matches : ℕ → ℕ
pair_matches n = sum_by (λ k. documents_with n (pair_terms k)) (up_to (DISTINCT_WORDS - 1))

-- the text of the exercise
abbrev pub exercise_text : ℕ → List ℕ
exercise_text n = tally_lines n n (single_matches n) (pair_matches n) n (codes "sound\n")

-- a body has terms by this test just where each is a word of it
abbrev pub TermsAreWords : Type 0
TermsAreWords = (terms : List (List ℕ)) (body : List ℕ) → (has_all terms body ≡ true) ↔ Matches Ascii body terms
