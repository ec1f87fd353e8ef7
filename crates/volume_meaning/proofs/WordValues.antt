-- The words of a few bodies, read from the first byte on.
use Rattle.std.proofs.Common.{◌≡◌, ℕ, List, [], ◌∷◌, ◌++◌, refl, subst, false, codes}
use Rattle.std.specs.Char.{encode_utf8}
use Rattle.caseless.specs.Caseless.{default_case_fold}
use Rattle.ucd_case.specs.CaseFolding.{full_folding}
use Rattle.ucd_case.specs.FullFoldingRows.{full_folding_rows}
use Rattle.ucd_category.specs.GeneralCategory.{general_category}
use Rattle.ucd_category.specs.GeneralCategoryRows.{general_category_rows}
use Rattle.ucd_derived.specs.AlphabeticRanges.{alphabetic_ranges}
use Rattle.ucd_derived.specs.Binary.{is_alphabetic}
use Rattle.ucd_table.specs.Rows.{in_ranges, value_in}
use Rattle.volume_meaning.specs.Words.{stray, is_of_word, words_of, AreWords}
use Rattle.volume_meaning.specs.WordValues.{accented, digits, no_characters, street, WordsByValue}
use Rattle.volume_meaning.specs.declared.word_rules.WordRule.{WordRule}
use Rattle.volume_meaning.specs.declared.word_rules.WordRule.TheVariants.{Ascii, Folded}
use Rattle.volume_meaning.proofs.Words.{words_are_one}

stray_separates : is_of_word Folded stray ≡ false
unfolding is_alphabetic in_ranges alphabetic_ranges general_category value_in general_category_rows
stray_separates = refl

-- what is read are the words
read : (rule : WordRule) (body : List ℕ) (words : List (List ℕ)) → words_of rule body ≡ words → AreWords rule body words
read rule body words is = subst (AreWords rule body) is (words_are_one.read rule body)

accented_folded : words_of Folded accented ≡ codes "a" ∷ codes "b" ∷ []
unfolding is_alphabetic in_ranges alphabetic_ranges general_category value_in general_category_rows default_case_fold
    full_folding full_folding_rows words_of encode_utf8
accented_folded = refl

accented_bytes : words_of Ascii accented ≡ accented ∷ []
unfolding words_of
accented_bytes = refl

street_folded : words_of Folded street ≡ (codes "m" ++ 0xC3 ∷ 0xBC ∷ codes "ller") ∷ codes "strasse" ∷ []
unfolding is_alphabetic in_ranges alphabetic_ranges general_category value_in general_category_rows default_case_fold
    full_folding full_folding_rows words_of encode_utf8
street_folded = refl

street_bytes : words_of Ascii street ≡ (codes "m" ++ 0xC3 ∷ 0x9C ∷ codes "ller") ∷ (codes
    "stra" ++ 0xC3 ∷ 0x9F ∷ codes "e") ∷ []
unfolding words_of
street_bytes = refl

digits_folded : words_of Folded digits ≡ (0xD9 ∷ 0xA3 ∷ []) ∷ codes "a" ∷ []
unfolding is_alphabetic in_ranges alphabetic_ranges general_category value_in general_category_rows default_case_fold
    full_folding full_folding_rows words_of encode_utf8
digits_folded = refl

no_characters_folded : words_of Folded no_characters ≡ codes "b" ∷ codes "c" ∷ []
unfolding is_alphabetic in_ranges alphabetic_ranges general_category value_in general_category_rows default_case_fold
    full_folding full_folding_rows words_of encode_utf8
no_characters_folded = refl

pub words_by_value : WordsByValue
words_by_value = record {
  stray_separates = stray_separates;
  accented_folded = read Folded accented _ accented_folded;
  accented_bytes = read Ascii accented _ accented_bytes;
  street_folded = read Folded street _ street_folded;
  street_bytes = read Ascii street _ street_bytes;
  digits_folded = read Folded digits _ digits_folded;
  no_characters_folded = read Folded no_characters _ no_characters_folded;
}
