-- The words of a body of the exercise, and of a word of it.
use Rattle.std.proofs.Common.{◌≡◌, ◌+◌, ◌^◌, ◌%◌, ◌<◌, ◌≤◌, ℕ, suc, zero, true, List, [], ◌∷◌, ◌++◌, map, refl, sym, ap, subst, ◌∙◌, arith, rules, append-nil, get_or}
use Rattle.std.proofs.lemmas.Fmt.{decimal_by_steps}
use Rattle.std.specs.Prelude.{decimal}
use Rattle.std.specs.List.{flat_map, range_with_len}
use Rattle.volume_meaning.specs.Words.{AreOfWords, AreRuns, AreWords, BeginsApart, is_word_byte, lowered, spelled}
use Rattle.volume_meaning.specs.declared.word_rules.WordRule.TheVariants.{Ascii}
use Rattle.volume_meaning.proofs.Words.{words_are_one}
use Rattle.volume_exercise.specs.Documents.{body_of, document_words, word_at, word_of}

-- each is an ASCII digit
abbrev pub AreDigits : List ℕ → Type 0
AreDigits [] = Unit {0}
AreDigits (b ∷ bs) = (48 ≤ b) × (b ≤ 57) × AreDigits bs

digits_then : (bs : List ℕ) (b : ℕ) → AreDigits bs → 48 ≤ b → b ≤ 57 → AreDigits (bs ++ b ∷ [])
digits_then [] b are low high = (low, high, tt)
digits_then (c ∷ bs) b are low high = (are.0, are.1, digits_then bs b are.2 low high)

pub decimal_digits : (n : ℕ) → n < 2 ^ 64 → AreDigits (decimal n)
decimal_digits = decimal_by_steps (λ n ds. AreDigits ds) (λ n small. (omega arith, omega (arith, small), tt))
    (λ n ds big are. digits_then ds (48 + n % 10) are (omega arith) (omega arith))

-- a digit is a byte of words, and is spelled as it is
digit_is_of_word : (b : ℕ) → 48 ≤ b → b ≤ 57 → is_word_byte b ≡ true
digit_is_of_word b low high = search rules

digit_is_low : (b : ℕ) → b ≤ 57 → lowered b ≡ b
digit_is_low b high = search rules

pub digits_of_words : (bs : List ℕ) → AreDigits bs → AreOfWords Ascii bs
digits_of_words [] are = tt
digits_of_words (b ∷ bs) are = (digit_is_of_word b are.0 are.1, digits_of_words bs are.2)

digits_spelled : (bs : List ℕ) → AreDigits bs → map lowered bs ≡ bs
digits_spelled [] are = refl
digits_spelled (b ∷ bs) are =
    ap (λ (c : ℕ). c ∷ map lowered bs) (digit_is_low b are.1) ∙ ap (λ (l : List ℕ). b ∷ l) (digits_spelled bs are.2)

-- a word of the exercise is a run of bytes of words, and is spelled as it is
of_words : (k : ℕ) → k < 200 → AreOfWords Ascii (word_of k)
of_words k small = (refl, digits_of_words (decimal k) (decimal_digits k (omega (arith, small))))

spelled_so : (k : ℕ) → k < 200 → word_of k ≡ spelled Ascii (word_of k)
spelled_so k small =
    ap (λ (l : List ℕ). 119 ∷ l) (sym (digits_spelled (decimal k) (decimal_digits k (omega (arith, small)))))

-- behind a word stands nothing, or a space
apart : (f : ℕ → ℕ) (at n : ℕ) → BeginsApart Ascii (flat_map (λ j. 32 ∷ word_of (f j)) (range_with_len at n))
apart f at zero = tt
apart f at (suc n) = refl

-- words with a space before each
behind : (f : ℕ → ℕ) (small : (j : ℕ) → f j < 200) (at n : ℕ)
    → AreRuns Ascii (flat_map (λ j. 32 ∷ word_of (f j)) (range_with_len at n)) (map (λ j. word_of (f j)) (range_with_len at n))
behind f small at zero = tt
behind f small at (suc n) = (
  32 ∷ [],
  119,
  decimal (f at),
  flat_map (λ j. 32 ∷ word_of (f j)) (range_with_len (at + 1) n),
  refl,
  (refl, tt),
  of_words (f at) (small at),
  apart f (at + 1) n,
  spelled_so (f at) (small at),
  behind f small (at + 1) n,
)

-- words with one space between
spaced : (f : ℕ → ℕ) (small : (j : ℕ) → f j < 200) (n : ℕ)
    → AreRuns Ascii (word_of (f 0) ++ flat_map (λ j. 32 ∷ word_of (f j)) (range_with_len 1 n))
    (map (λ j. word_of (f j)) (range_with_len 0 (suc n)))
spaced f small n = (
  [],
  119,
  decimal (f 0),
  flat_map (λ j. 32 ∷ word_of (f j)) (range_with_len 1 n),
  refl,
  tt,
  of_words (f 0) (small 0),
  apart f 1 n,
  spelled_so (f 0) (small 0),
  behind f small 1 n,
)

-- these are the words of a document
pub document_has_words : (i : ℕ) → AreWords Ascii (body_of i) (document_words i)
document_has_words i =
    (body_of i, refl, spaced (λ j. word_at i j) (λ j. omega arith) 19)

-- a word has itself alone
pub word_is_one : (k : ℕ) → k < 200 → AreWords Ascii (word_of k) (word_of k ∷ [])
word_is_one k small = (
  word_of k,
  refl,
  (
    [],
    119,
    decimal k,
    [],
    sym (append-nil (word_of k)),
    tt,
    of_words k small,
    tt,
    spelled_so k small,
    tt,
  ),
)

-- the term of a word is the word
pub only_term : (k : ℕ) → k < 200 → (word term : List ℕ) → word ≡ word_of k → AreWords Ascii word (term ∷ [])
    → term ≡ word_of k
only_term k small word term is are =
    let read = subst (λ (w : List ℕ). AreWords Ascii w (term ∷ [])) is are in
    ap (λ (l : List (List ℕ)). get_or l 0 [])
    (words_are_one.one Ascii (word_of k) (term ∷ []) read
    ∙ sym (words_are_one.one Ascii (word_of k) (word_of k ∷ []) (word_is_one k small)))

-- and a word has one
pub one_term : (k : ℕ) → k < 200 → (word : List ℕ) → word ≡ word_of k
    → ((term : List ℕ) → AreWords Ascii word (term ∷ []) → ⊥) → ⊥
one_term k small word is none =
    none (word_of k) (subst (λ (w : List ℕ). AreWords Ascii w (word_of k ∷ [])) (sym is) (word_is_one k small))
