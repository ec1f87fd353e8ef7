-- A number of four bytes that is turned, in eight bytes.
use Rattle.std.proofs.Common.{◌≡◌, ◌<◌, ◌≤◌, ◌^◌, ℕ, List, [], ◌∷◌, ◌++◌, arith, length, replicate, take}
use Rattle.std.specs.Int.{swap_bytes, w32}
use Rattle.byteorder.specs.Endian.{big_bytes, little_number}
use Rattle.cell_types.specs.Bytes.{AreBytes}

-- rows of eight that agree
eight : (a b c d e f g h p q r s t u v w : ℕ) → a ≡ p → b ≡ q → c ≡ r → d ≡ s → e ≡ t → f ≡ u → g ≡ v → h ≡ w
    → ◌≡◌ {A = List ℕ} (a ∷ b ∷ c ∷ d ∷ e ∷ f ∷ g ∷ h ∷ []) (p ∷ q ∷ r ∷ s ∷ t ∷ u ∷ v ∷ w ∷ [])
eight a b c d e f g h p q r s t u v w i j k l m n o x = cc

-- eight bytes whose number, the lowest first, is one of four bytes that was turned
turned : (a b c d e f g h n : ℕ) (rest : List ℕ) → a < 256 → b < 256 → c < 256 → d < 256 → e < 256 → f < 256
    → g < 256 → h < 256 → n < 2 ^ 32 → little_number 8 (a ∷ b ∷ c ∷ d ∷ e ∷ f ∷ g ∷ h ∷ rest) ≡ swap_bytes w32 n
    → ◌≡◌ {A = List ℕ} (a ∷ b ∷ c ∷ d ∷ e ∷ f ∷ g ∷ h ∷ []) (big_bytes 4 n ++ replicate 4 0)
turned a b c d e f g h n rest p q r s t u v w small is =
    eight a b c d e f g h _ _ _ _ _ _ _ _ (omega arith) (omega arith) (omega arith) (omega arith) (omega arith)
    (omega arith) (omega arith) (omega arith)

-- and so of the first eight of a row of bytes
pub word_of_slot : (xs : List ℕ) (n : ℕ) → 8 ≤ length xs → AreBytes xs → n < 2 ^ 32
    → little_number 8 xs ≡ swap_bytes w32 n → take 8 xs ≡ big_bytes 4 n ++ replicate 4 0
word_of_slot [] n long are small is = absurd (omega (arith, long))
word_of_slot (a ∷ []) n long are small is = absurd (omega (arith, long))
word_of_slot (a ∷ b ∷ []) n long are small is = absurd (omega (arith, long))
word_of_slot (a ∷ b ∷ c ∷ []) n long are small is = absurd (omega (arith, long))
word_of_slot (a ∷ b ∷ c ∷ d ∷ []) n long are small is = absurd (omega (arith, long))
word_of_slot (a ∷ b ∷ c ∷ d ∷ e ∷ []) n long are small is = absurd (omega (arith, long))
word_of_slot (a ∷ b ∷ c ∷ d ∷ e ∷ f ∷ []) n long are small is = absurd (omega (arith, long))
word_of_slot (a ∷ b ∷ c ∷ d ∷ e ∷ f ∷ g ∷ []) n long are small is = absurd (omega (arith, long))
word_of_slot (a ∷ b ∷ c ∷ d ∷ e ∷ f ∷ g ∷ h ∷ rest) n long are small is =
    turned a b c d e f g h n rest (are.each 0) (are.each 1) (are.each 2) (are.each 3) (are.each 4) (are.each 5)
    (are.each 6) (are.each 7) small is
