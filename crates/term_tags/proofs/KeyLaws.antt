-- A term's list and its tag are read back from its key.
use Rattle.std.proofs.Common.{◌≡◌, ◌≤◌, ◌<◌, ◌+◌, ◌*◌, ◌/◌, ◌%◌, ◌^◌, ◌∙◌, ℕ, List, [], ◌∷◌, length, take, ap, arith}
use Rattle.byteorder.specs.Endian.{big_number, big_bytes}
use Rattle.byteorder.specs.Numbers.{big_from-lt, big_number-reads_back}
use Rattle.sha2.specs.Sha256.{sha256}
use Rattle.sha2.proofs.Facts256.{length-sha256}
use Rattle.cell_types.specs.Bytes.{AreBytes}
use Rattle.volume_meaning.proofs.Digests.{digest_is_bytes}
use Rattle.volume_meaning.specs.Postings.{tag_of, list_of}
use Rattle.term_tags.specs.Keys.{key_of, list_in, tag_in}

-- the number of a digest's first six bytes
fits : (term : List ℕ) → big_number 6 (sha256 term) < 2 ^ 48
fits term = big_from-lt 0 6 (sha256 term) (digest_is_bytes term).each

-- what stands above 48 bits
high : (l n : ℕ) → n < 2 ^ 48 → (l * 2 ^ 48 + n) / 2 ^ 48 ≡ l
high l n less = omega (arith, less)

-- and what stands in them
low : (l n : ℕ) → n < 2 ^ 48 → (l * 2 ^ 48 + n) % 2 ^ 48 ≡ n
low l n less = omega (arith, less)

-- the list of a term's key is the term's
pub list_back : (lists : ℕ) (term : List ℕ) → list_in (key_of lists term) ≡ list_of lists term
list_back lists term = high (list_of lists term) (big_number 6 (sha256 term)) (fits term)

-- rows of six that agree
six : (a b c d e f p q r s t u : ℕ) → a ≡ p → b ≡ q → c ≡ r → d ≡ s → e ≡ t → f ≡ u
    → ◌≡◌ {A = List ℕ} (a ∷ b ∷ c ∷ d ∷ e ∷ f ∷ []) (p ∷ q ∷ r ∷ s ∷ t ∷ u ∷ [])
six a b c d e f p q r s t u i j k l m n = cc

-- six bytes are those of their number
six_back : (a b c d e f : ℕ) (rest : List ℕ) → a < 256 → b < 256 → c < 256 → d < 256 → e < 256 → f < 256
    → big_bytes 6 (big_number 6 (a ∷ b ∷ c ∷ d ∷ e ∷ f ∷ rest)) ≡ a ∷ b ∷ c ∷ d ∷ e ∷ f ∷ []
six_back a b c d e f rest p q r s t u =
    six _ _ _ _ _ _ a b c d e f (omega arith) (omega arith) (omega arith) (omega arith) (omega arith) (omega arith)

-- and so are the first six of a row of bytes
front_back : (xs : List ℕ) → 6 ≤ length xs → AreBytes xs → big_bytes 6 (big_number 6 xs) ≡ take 6 xs
front_back [] long are = absurd (omega (arith, long))
front_back (a ∷ []) long are = absurd (omega (arith, long))
front_back (a ∷ b ∷ []) long are = absurd (omega (arith, long))
front_back (a ∷ b ∷ c ∷ []) long are = absurd (omega (arith, long))
front_back (a ∷ b ∷ c ∷ d ∷ []) long are = absurd (omega (arith, long))
front_back (a ∷ b ∷ c ∷ d ∷ e ∷ []) long are = absurd (omega (arith, long))
front_back (a ∷ b ∷ c ∷ d ∷ e ∷ f ∷ rest) long are =
    six_back a b c d e f rest (are.each 0) (are.each 1) (are.each 2) (are.each 3) (are.each 4) (are.each 5)

-- the tag of a term's key is the term's
pub tag_back : (lists : ℕ) (term : List ℕ) → tag_in (key_of lists term) ≡ tag_of term
tag_back lists term =
    ap (big_bytes 6) (low (list_of lists term) (big_number 6 (sha256 term)) (fits term))
    ∙ front_back (sha256 term) (omega (arith, length-sha256 term)) (digest_is_bytes term)

-- the number of a key's tag
pub number_back : (key : ℕ) → big_number 6 (tag_in key) ≡ key % 2 ^ 48
number_back key = big_number-reads_back 6 (key % 2 ^ 48) [] (omega arith)
