-- What the two rules make of a few bodies.
use Rattle.std.specs.Prelude.{◌≡◌, false, List, ℕ, [], ◌∷◌, ◌++◌, codes}
use Rattle.volume_meaning.specs.Words.{stray, is_of_word, AreWords}
use Rattle.volume_meaning.specs.declared.word_rules.WordRule.TheVariants.{Ascii, Folded}

-- a byte that begins no character, the letter a, a combining accent, the letter b
abbrev pub accented : List ℕ
accented = 0xFF ∷ 0x61 ∷ 0xCC ∷ 0x81 ∷ 0x62 ∷ []

-- `MÜLLER Straße`
abbrev pub street : List ℕ
street = codes "M" ++ 0xC3 ∷ 0x9C ∷ codes "LLER Stra" ++ 0xC3 ∷ 0x9F ∷ codes "e"

-- the decimal digit three of Arabic, the superscript two, the first byte of a character alone, and the letter a
abbrev pub digits : List ℕ
digits = 0xD9 ∷ 0xA3 ∷ 0xC2 ∷ 0xB2 ∷ 0xC3 ∷ 0x61 ∷ []

-- the bytes that would spell half of a surrogate pair, and those that would spell the letter a in two bytes
abbrev pub no_characters : List ℕ
no_characters = 0x62 ∷ 0xED ∷ 0xA0 ∷ 0x80 ∷ 0x63 ∷ 0xC1 ∷ 0xA1 ∷ []

-- By their case folding sharp s is ss; a superscript is no decimal digit; what is no character separates, byte by byte,
-- and so does a combining accent. By bytes each of them from 0x80 on is of a word, and stays as it is.
pub record WordsByValue : Type 0 where
  pub stray_separates : is_of_word Folded stray ≡ false
  pub accented_folded : AreWords Folded accented (codes "a" ∷ codes "b" ∷ [])
  pub accented_bytes : AreWords Ascii accented (accented ∷ [])
  pub street_folded : AreWords Folded street ((codes "m" ++ 0xC3 ∷ 0xBC ∷ codes "ller") ∷ codes "strasse" ∷ [])
  pub street_bytes : AreWords Ascii street
      ((codes "m" ++ 0xC3 ∷ 0x9C ∷ codes "ller") ∷ (codes "stra" ++ 0xC3 ∷ 0x9F ∷ codes "e") ∷ [])
  pub digits_folded : AreWords Folded digits ((0xD9 ∷ 0xA3 ∷ []) ∷ codes "a" ∷ [])
  pub no_characters_folded : AreWords Folded no_characters (codes "b" ∷ codes "c" ∷ [])
