-- The words of a body: the longest runs of letters and digits, in one spelling.
--
--     H e l l o ,   w o r l d !      bytes of words: 48 65 6c 6c 6f, and 77 6f 72 6c 64
--     hello         world            two words
--
-- A body is read into units: by one rule its bytes, by the other its characters. The rule says which units belong to
-- words, and how a run of them is spelled.
--
--     53 74 72 61 c3 9f 65           the bytes of `Straße`
--     by bytes                       seven units, one word: `straße`
--     by characters                  six units, one word: `strasse`
use Rattle.std.specs.Prelude.{◌≡◌, ◌+◌, ◌-◌, ◌&&◌, ◌||◌, ◌⊎◌, nat_le, nat_lt, if◌then◌else◌, ℕ, zero, suc, Bool, true, false, List, [], ◌∷◌, ◌++◌, map, Contains, Option, Some, None, encode_utf8, encode_utf8_all, ⊤}
use Rattle.std.specs.Char.{IsScalar}
use Rattle.std.specs.Str.{StartsWithNoChar}
use Rattle.bstr.specs.Utf8.{decoded}
use Rattle.caseless.specs.Caseless.{default_case_fold}
use Rattle.ucd_derived.specs.Binary.{is_alphabetic}
use Rattle.ucd_category.specs.GeneralCategory.{general_category, general_category_eq}
use Rattle.ucd_category.specs.declared.GeneralCategory.TheVariants.{DecimalNumber}
use Rattle.cell_types.specs.declared.geometry.TheConstants.{FOLDED_VERSION}
use Rattle.volume_meaning.specs.declared.word_rules.WordRule.{WordRule}
use Rattle.volume_meaning.specs.declared.word_rules.WordRule.TheVariants.{Ascii, Folded}

-- the rule of a version
abbrev pub rule_of : ℕ → WordRule
rule_of version = if nat_lt version FOLDED_VERSION then Ascii else Folded

-- a byte of a word: an ASCII digit, an ASCII letter, or a byte from 0x80 on
abbrev pub is_word_byte : ℕ → Bool
is_word_byte b =
    (nat_le 0x30 b && nat_le b 0x39) || (nat_le 0x41 b && nat_le b 0x5A) || (nat_le 0x61 b && nat_le b 0x7A)
    || nat_le 0x80 b

-- A to Z as a to z, and each other byte as it is
abbrev pub lowered : ℕ → ℕ
lowered b = if nat_le 0x41 b && nat_le b 0x5A then b + 0x20 else b

-- a character of a word: it has the property Alphabetic, or the general category Nd
abbrev pub is_word_character : ℕ → Bool
is_word_character c = is_alphabetic c || general_category_eq (general_category c) DecimalNumber

-- the unit that a byte is read as where no character begins: U+FFFD, which is in no word
abbrev pub stray : ℕ
stray = 0xFFFD

-- These are the characters of a body: where the UTF-8 of one begins it is read, and reading goes on behind it; where
-- none begins the one byte is stray.
abbrev pub AreCharacters : List ℕ → List ℕ → Type 0
AreCharacters body [] = body ≡ []
AreCharacters body (c ∷ cs) =
    ((rest : List ℕ) × IsScalar c × (body ≡ encode_utf8 c ++ rest) × AreCharacters rest cs)
    ⊎ ((byte : ℕ) × (rest : List ℕ) × (body ≡ byte ∷ rest) × StartsWithNoChar body × (c ≡ stray)
    × AreCharacters rest cs)

-- the units of a body
abbrev pub AreUnits : WordRule → List ℕ → List ℕ → Type 0
AreUnits Ascii body units = units ≡ body
AreUnits Folded body units = AreCharacters body units

-- the unit belongs to words
abbrev pub is_of_word : WordRule → ℕ → Bool
is_of_word Ascii u = is_word_byte u
is_of_word Folded u = is_word_character u

-- the word that a run of units spells: its bytes in small letters, or the UTF-8 of its default case folding
abbrev pub spelled : WordRule → List ℕ → List ℕ
spelled Ascii run = map lowered run
spelled Folded run = encode_utf8_all (default_case_fold run)

-- each of them belongs to words
abbrev pub AreOfWords : WordRule → List ℕ → Type 0
AreOfWords rule [] = ⊤
AreOfWords rule (u ∷ units) = (is_of_word rule u ≡ true) × AreOfWords rule units

-- none of them does
abbrev pub AreGap : WordRule → List ℕ → Type 0
AreGap rule [] = ⊤
AreGap rule (u ∷ units) = (is_of_word rule u ≡ false) × AreGap rule units

-- the next unit, if there is one, belongs to no word
abbrev pub BeginsApart : WordRule → List ℕ → Type 0
BeginsApart rule [] = ⊤
BeginsApart rule (u ∷ units) = is_of_word rule u ≡ false

-- These are the words of units, in order and with repeats: between gaps stand runs of units of words, each as long as
-- it can be, and each word is what one of these runs spells.
abbrev pub AreRuns : WordRule → List ℕ → List (List ℕ) → Type 0
AreRuns rule units [] = AreGap rule units
AreRuns rule units (word ∷ words) =
    (gap : List ℕ) × (first : ℕ) × (run : List ℕ) × (rest : List ℕ)
    × (units ≡ gap ++ ((first ∷ run) ++ rest)) × AreGap rule gap × AreOfWords rule (first ∷ run) × BeginsApart rule rest
    × (word ≡ spelled rule (first ∷ run)) × AreRuns rule rest words

-- these are the words of a body
abbrev pub AreWords : WordRule → List ℕ → List (List ℕ) → Type 0
AreWords rule body words = (units : List ℕ) × AreUnits rule body units × AreRuns rule units words

-- the word is one of the body's
pub record HasWord (rule : WordRule) (body word : List ℕ) : Type 0 where
  pub words : List (List ℕ)
  pub are : AreWords rule body words
  pub among : Contains words word

-- each of the terms is a word of the body
abbrev pub Matches : WordRule → List ℕ → List (List ℕ) → Type 0
Matches rule body terms = (term : List ℕ) → Contains terms term → HasWord rule body term

-- what one unit more adds to the spelling of a run
abbrev pub spelled_one : WordRule → ℕ → List ℕ
spelled_one Ascii u = lowered u ∷ []
spelled_one Folded u = encode_utf8_all (default_case_fold (u ∷ []))

-- what a spelling adds to the words where its run ends: itself, unless it is empty
abbrev pub ended : List ℕ → List (List ℕ)
ended [] = []
ended (b ∷ run) = (b ∷ run) ∷ []

-- the words of units behind a run that has begun and is spelled so far, read from the first unit on
abbrev pub words_from : WordRule → List ℕ → List ℕ → List (List ℕ)
words_from rule run [] = ended run
words_from rule run (u ∷ units) =
    if is_of_word rule u then words_from rule (run ++ spelled_one rule u) units else ended
    run ++ words_from rule [] units

-- the unit of what was decoded at the front of some bytes
abbrev pub unit_of : Option ℕ → ℕ
unit_of None = stray
unit_of (Some c) = c

-- and how many bytes behind the first belong to it
abbrev pub more_of : Option ℕ → ℕ → ℕ
more_of None size = 0
more_of (Some c) size = size - 1

-- the characters of bytes, the first so many of which belong to a character that was read
abbrev pub characters_after : ℕ → List ℕ → List ℕ
characters_after more [] = []
characters_after zero (b ∷ bytes) =
    unit_of (decoded (b ∷ bytes)).char
    ∷ characters_after (more_of (decoded (b ∷ bytes)).char (decoded (b ∷ bytes)).size) bytes
characters_after (suc more) (b ∷ bytes) = characters_after more bytes

-- the units of a body, read from its first byte on
abbrev pub units_of : WordRule → List ℕ → List ℕ
units_of Ascii body = body
units_of Folded body = characters_after 0 body

-- the words of a body, read from its first byte on
unfoldable pub words_of : WordRule → List ℕ → List (List ℕ)
words_of rule body = words_from rule [] (units_of rule body)

-- a body has one list of words, and reading from the first byte on gives it
pub record WordsAreOne : Type 0 where
  pub read : (rule : WordRule) (body : List ℕ) → AreWords rule body (words_of rule body)
  pub one : (rule : WordRule) (body : List ℕ) (words : List (List ℕ)) → AreWords rule body words
      → words ≡ words_of rule body
