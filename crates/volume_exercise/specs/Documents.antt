-- The documents of the exercise: for each number i an identifier and a body of twenty words.
--
--     i = 0      d000000     w0 w1 w4 w9 w16 w25 w36 .. w161
--     i = 199    d000199     w199 w0 w3 w8 w15 w24 w35 .. w160
use Rattle.std.specs.Prelude.{◌+◌, ◌-◌, ◌*◌, ◌/◌, ◌%◌, ℕ, List, [], ◌∷◌, ◌++◌, codes, decimal, map}
use Rattle.std.specs.List.{flat_map, range_with_len}
use Rattle.volume_exercise.specs.declared.limits.TheConstants.{BODY_WORDS, DISTINCT_WORDS}

-- the numbers from 0 on, so many
abbrev pub up_to : ℕ → List ℕ
up_to n = range_with_len 0 n

-- the word of a number: `w` and the number in decimal
abbrev pub word_of : ℕ → List ℕ
word_of k = codes "w" ++ decimal k

-- which word stands at place j of document i, from place 0 on
abbrev pub word_at : ℕ → ℕ → ℕ
word_at i j = (i + j * j) % DISTINCT_WORDS

-- the body: twenty words with one space between
abbrev pub body_of : ℕ → List ℕ
body_of i = word_of (word_at i 0) ++ flat_map (λ j. 32 ∷ word_of (word_at i j)) (range_with_len 1 (BODY_WORDS - 1))

-- the words of document i, in order
abbrev pub document_words : ℕ → List (List ℕ)
document_words i = map (λ j. word_of (word_at i j)) (up_to BODY_WORDS)

-- the digit of i at a power of ten, as a byte
abbrev pub digit_of : ℕ → ℕ → ℕ
digit_of i power = 48 + i / power % 10

-- the identifier: `d` and i in six decimal digits, with leading zeros
abbrev pub identifier_of : ℕ → List ℕ
identifier_of i =
    100 ∷ digit_of i 100000 ∷ digit_of i 10000 ∷ digit_of i 1000 ∷ digit_of i 100 ∷ digit_of i 10 ∷ digit_of i 1 ∷ []
