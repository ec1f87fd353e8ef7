-- Reading a body from its first byte on gives its words, and there are no others.
use Rattle.std.proofs.Common.{◌≡◌, ◌<◌, ◌≤◌, ◌+◌, ◌-◌, ◌⊎◌, ℕ, zero, suc, Bool, true, false, List, [], ◌∷◌, ◌++◌, map, length, drop, refl, sym, ap, ◌∙◌, inl, inr, subst, if◌then◌else◌, cond, nat_lt, Option, Some, None, encode_utf8_all, arith}
use Rattle.std.specs.Char.{encode_utf8, IsScalar}
use Rattle.std.specs.Str.{StartsWithNoChar}
use Rattle.std.proofs.lemmas.List.{append_assoc, append-nil, length-append}
use Rattle.std.proofs.lemmas.Str.{encodes-append}
use Rattle.std.proofs.Math.Seq.{drop-append_seam}
use Rattle.bstr.specs.Utf8.{decoded, good}
use Rattle.bstr.proofs.lemmas.EncodeLemmas.{decoded-encode}
use Rattle.bstr.proofs.lemmas.SoundLemmas.{SpellsChar-decoded}
use Rattle.caseless.specs.Caseless.{default_case_fold}
use Rattle.caseless.proofs.CaselessLemmas.{default_case_fold-nil, default_case_fold-cons, default_case_fold-append}
use Rattle.ucd_case.specs.CaseFolding.{full_fold, full_folding, or_itself}
use Rattle.volume_meaning.specs.Words.{stray, unit_of, more_of, characters_after, units_of, AreCharacters, AreUnits, is_of_word, lowered, spelled, spelled_one, ended, words_from, words_of, AreOfWords, AreGap, BeginsApart, AreRuns, WordsAreOne}
use Rattle.volume_meaning.specs.declared.word_rules.WordRule.{WordRule}
use Rattle.volume_meaning.specs.declared.word_rules.WordRule.TheVariants.{Ascii, Folded}

bool_cases : (c : Bool) → (c ≡ true) ⊎ (c ≡ false)
bool_cases true = inl refl
bool_cases false = inr refl

-- a character has a byte
of_four : (a b c : Bool) (w x y z : ℕ) (ws xs ys zs : List ℕ)
    → 0 < length (cond a (w ∷ ws) (cond b (x ∷ xs) (cond c (y ∷ ys) (z ∷ zs))))
of_four true b c w x y z ws xs ys zs = omega arith
of_four false true c w x y z ws xs ys zs = omega arith
of_four false false true w x y z ws xs ys zs = omega arith
of_four false false false w x y z ws xs ys zs = omega arith

pub has_a_byte : (c : ℕ) → 0 < length (encode_utf8 c)
unfolding encode_utf8
has_a_byte c = of_four (nat_lt c 128) (nat_lt c 2048) (nat_lt c 65536) _ _ _ _ _ _ _ _

past_a_char : (c : ℕ) (xs : List ℕ) → (length (encode_utf8 c ++ xs) ≡ length (encode_utf8 c) + length xs)
    × (0 < length (encode_utf8 c))
past_a_char c xs = (length-append (encode_utf8 c) xs, has_a_byte c)

-- the text has a first item
abbrev pub IsSome : List ℕ → Type 0
IsSome xs = (x : ℕ) × (rest : List ℕ) × (xs ≡ x ∷ rest)

pub some_of : (xs : List ℕ) → 0 < length xs → IsSome xs
some_of [] less = absurd (omega (arith, less))
some_of (x ∷ xs) less = (x, xs, refl)

-- no character folds to nothing
folded_some : (c : ℕ) (table : List ℕ) → 0 < length (encode_utf8_all (or_itself c table))
folded_some c [] = omega (arith, past_a_char c [])
folded_some c (x ∷ xs) = omega (arith, past_a_char x (encode_utf8_all xs))

-- what a run spells, unit by unit
pub spelled_none : (rule : WordRule) → spelled rule [] ≡ []
spelled_none Ascii = refl
spelled_none Folded = ap encode_utf8_all default_case_fold-nil

map_last : (xs : List ℕ) (b : ℕ) → map lowered (xs ++ b ∷ []) ≡ map lowered xs ++ lowered b ∷ []
map_last [] b = refl
map_last (x ∷ xs) b = ap (λ (l : List ℕ). lowered x ∷ l) (map_last xs b)

pub spelled_last : (rule : WordRule) (run : List ℕ) (u : ℕ)
    → spelled rule (run ++ u ∷ []) ≡ spelled rule run ++ spelled_one rule u
spelled_last Ascii run u = map_last run u
spelled_last Folded run u =
    ap encode_utf8_all (default_case_fold-append run (u ∷ []))
    ∙ encodes-append (default_case_fold run) (default_case_fold (u ∷ []))

spelled_some : (rule : WordRule) (u : ℕ) (run : List ℕ) → IsSome (spelled rule (u ∷ run))
spelled_some Ascii u run = (lowered u, map lowered run, refl)
spelled_some Folded u run =
    let front : default_case_fold (u ∷ run) ≡ full_fold u ++ default_case_fold run = default_case_fold-cons u run in
    let whole : encode_utf8_all (default_case_fold (u ∷ run)) ≡ encode_utf8_all (full_fold u) ++ encode_utf8_all
    (default_case_fold run) =
    ap encode_utf8_all front ∙ encodes-append (full_fold u) (default_case_fold run) in
    some_of (encode_utf8_all (default_case_fold (u ∷ run)))
    (omega (
      arith,
      folded_some u (full_folding u),
      ap length whole,
      length-append (encode_utf8_all (full_fold u))
          (encode_utf8_all (default_case_fold run)),
    ))

-- a run that ends is one word
pub ended_some : (xs : List ℕ) → IsSome xs → ended xs ≡ xs ∷ []
ended_some [] (x, rest, is) = cc
ended_some (y ∷ ys) is = refl

module _ (rule : WordRule) where
  -- what is read of the next unit, where it belongs to a word
  pub read_on : (run units : List ℕ) (u : ℕ) → is_of_word rule u ≡ true
      → words_from rule run (u ∷ units) ≡ words_from rule (run ++ spelled_one rule u) units
  read_on run units u e =
      ap (λ (d : Bool). if d then words_from rule (run ++ spelled_one rule u) units else ended run ++ words_from
      rule [] units) e

  -- and where it belongs to none
  pub read_end : (run units : List ℕ) (u : ℕ) → is_of_word rule u ≡ false
      → words_from rule run (u ∷ units) ≡ ended run ++ words_from rule [] units
  read_end run units u e =
      ap (λ (d : Bool). if d then words_from rule (run ++ spelled_one rule u) units else ended run ++ words_from
      rule [] units) e

  -- a unit of a gap may come before
  skip : (u : ℕ) (units : List ℕ) (words : List (List ℕ)) → is_of_word rule u ≡ false → AreRuns rule units words
      → AreRuns rule (u ∷ units) words
  skip u units [] off are = (off, are)
  skip u units (w ∷ ws) off (gap, first, run, rest, whole, is_gap, of_words, apart, word, are) =
      (u ∷ gap, first, run, rest, ap (λ (l : List ℕ). u ∷ l) whole, (off, is_gap), of_words, apart, word, are)

  units_last : (xs : List ℕ) (u : ℕ) → AreOfWords rule xs → is_of_word rule u ≡ true → AreOfWords rule (xs ++ u ∷ [])
  units_last [] u are on = (on, tt)
  units_last (x ∷ xs) u are on = (are.0, units_last xs u are.1 on)

  -- a run that is ended by a unit of a gap
  closes : (u : ℕ) (units : List ℕ) (words : List (List ℕ)) → is_of_word rule u ≡ false → (xs : List ℕ)
      → AreOfWords rule xs → AreRuns rule (u ∷ units) words
      → AreRuns rule (xs ++ u ∷ units) (ended (spelled rule xs) ++ words)
  closes u units words off [] is rest =
      subst (λ (l : List ℕ). AreRuns rule (u ∷ units) (ended l ++ words)) (sym (spelled_none rule)) rest
  closes u units words off (x ∷ xs) is rest =
      subst (λ (l : List (List ℕ)). AreRuns rule ((x ∷ xs) ++ u ∷ units) (l ++ words))
      (sym (ended_some (spelled rule (x ∷ xs)) (spelled_some rule x xs)))
      ([], x, xs, u ∷ units, refl, tt, is, off, refl, rest)

  -- what is read behind a run that has begun
  read_words : (units run : List ℕ) → AreOfWords rule run
      → AreRuns rule (run ++ units) (words_from rule (spelled rule run) units)
  read_words [] [] are = subst (λ (l : List ℕ). AreRuns rule [] (ended l)) (sym (spelled_none rule)) tt
  read_words [] (r ∷ run) are =
      subst (λ (l : List (List ℕ)). AreRuns rule ((r ∷ run) ++ []) l)
      (sym (ended_some (spelled rule (r ∷ run)) (spelled_some rule r run)))
      ([], r, run, [], refl, tt, are, tt, refl, tt)
  read_words (u ∷ units) run are = elim (bool_cases (is_of_word rule u)) [
    | inl on ↦
        subst (AreRuns rule (run ++ u ∷ units)) (ap (λ (r : List ℕ). words_from rule r units) (spelled_last rule run u)
        ∙ sym (read_on (spelled rule run) units u on))
        (subst (λ (l : List ℕ). AreRuns rule l (words_from rule (spelled rule (run ++ u ∷ [])) units))
        (append_assoc run (u ∷ []) units)
        (read_words units (run ++ u ∷ []) (units_last run u are on)))
    | inr off ↦
        let none : AreRuns rule units (words_from rule [] units) =
        subst (λ (r : List ℕ). AreRuns rule units (words_from rule r units)) (spelled_none rule)
        (read_words units [] tt) in
        subst (AreRuns rule (run ++ u ∷ units)) (sym (read_end (spelled rule run) units u off))
        (closes u units (words_from rule [] units) off run are (skip u units (words_from rule [] units) off none))
  ]

  gap_words : (units : List ℕ) → AreGap rule units → words_from rule [] units ≡ []
  gap_words [] are = refl
  gap_words (u ∷ units) are = read_end [] units u are.0 ∙ gap_words units are.1

  past_gap : (gap units : List ℕ) → AreGap rule gap → words_from rule [] (gap ++ units) ≡ words_from rule [] units
  past_gap [] units are = refl
  past_gap (u ∷ gap) units are = read_end [] (gap ++ units) u are.0 ∙ past_gap gap units are.1

  past_run : (run units before : List ℕ) → AreOfWords rule run
      → words_from rule (spelled rule before) (run ++ units) ≡ words_from rule (spelled rule (before ++ run)) units
  past_run [] units before are = ap (λ (r : List ℕ). words_from rule (spelled rule r) units) (sym (append-nil before))
  past_run (u ∷ run) units before are =
      read_on (spelled rule before) (run ++ units) u are.0
      ∙ ap (λ (r : List ℕ). words_from rule r (run ++ units)) (sym (spelled_last rule before u))
      ∙ past_run run units (before ++ u ∷ []) are.1
      ∙ ap (λ (r : List ℕ). words_from rule (spelled rule r) units) (append_assoc before (u ∷ []) run)

  closed_run : (run rest : List ℕ) → IsSome run → BeginsApart rule rest
      → words_from rule run rest ≡ run ∷ words_from rule [] rest
  closed_run run [] some apart = ended_some run some
  closed_run run (u ∷ rest) some apart =
      read_end run rest u apart ∙ ap (λ (l : List (List ℕ)). l ++ words_from rule [] rest) (ended_some run some)
      ∙ ap (λ (l : List (List ℕ)). run ∷ l) (sym (read_end [] rest u apart))

  -- a list of the units' words is the one that is read
  only : (words : List (List ℕ)) (units : List ℕ) → AreRuns rule units words → words ≡ words_from rule [] units
  only [] units are = sym (gap_words units are)
  only (w ∷ ws) units (gap, first, run, rest, whole, is_gap, of_words, apart, word, are) =
      let read : words_from rule [] units ≡ spelled rule (first ∷ run) ∷ words_from rule [] rest =
      ap (words_from rule []) whole ∙ past_gap gap ((first ∷ run) ++ rest) is_gap
      ∙ ap (λ (r : List ℕ). words_from rule r ((first ∷ run) ++ rest)) (sym (spelled_none rule))
      ∙ past_run (first ∷ run) rest [] of_words
      ∙ closed_run (spelled rule (first ∷ run)) rest (spelled_some rule first run) apart in
      ap (λ (v : List ℕ). v ∷ ws) word ∙ ap (λ (l : List (List ℕ)). spelled rule (first ∷ run) ∷ l)
      (only ws rest are) ∙ sym read

-- bytes that belong to a character that was read are passed
passes : (more : ℕ) (bytes : List ℕ) → characters_after more bytes ≡ characters_after 0 (drop more bytes)
passes zero bytes = refl
passes (suc more) [] = refl
passes (suc more) (b ∷ bytes) = passes more bytes

-- where a character begins it is read
pub reads : (c : ℕ) (bytes rest : List ℕ) → IsScalar c → bytes ≡ encode_utf8 c ++ rest
    → characters_after 0 bytes ≡ c ∷ characters_after 0 rest
reads c [] rest scalar e = absurd (omega (arith, past_a_char c rest, ap length e))
reads c (b ∷ bytes) rest scalar e =
    let found : decoded (b ∷ bytes) ≡ good c (length (encode_utf8 c)) = ap decoded e ∙ decoded-encode c rest scalar in
    let front : characters_after 0 (b ∷ bytes) ≡ c ∷ characters_after (length (encode_utf8 c) - 1) bytes =
    ap (λ d. unit_of d.char ∷ characters_after (more_of d.char d.size) bytes) found in
    let size : suc (length (encode_utf8 c) - 1) ≡ length (encode_utf8 c) = omega (arith, past_a_char c rest) in
    let behind : drop (length (encode_utf8 c) - 1) bytes ≡ rest =
    ap (λ (n : ℕ). drop n (b ∷ bytes)) size ∙ ap (drop (length (encode_utf8 c))) e
    ∙ drop-append_seam (encode_utf8 c) rest in
    front ∙ ap (λ (l : List ℕ). c ∷ l) (passes (length (encode_utf8 c) - 1) bytes ∙ ap (characters_after 0) behind)

-- and where none begins one byte is stray
pub strays : (b : ℕ) (bytes : List ℕ) → (decoded (b ∷ bytes)).char ≡ None
    → characters_after 0 (b ∷ bytes) ≡ stray ∷ characters_after 0 bytes
strays b bytes none =
    ap (λ (c : Option ℕ). unit_of c ∷ characters_after (more_of c (decoded (b ∷ bytes)).size) bytes) none

none_some : (c : ℕ) → None ≡ Some c → ⊥
none_some c e = cc

-- nothing is found where no character begins
pub none_begins : (bytes : List ℕ) → (decoded bytes).char ≡ None → StartsWithNoChar bytes
none_begins bytes none c rest scalar e =
    none_some c (sym none ∙ ap (λ d. d.char) (ap decoded e ∙ decoded-encode c rest scalar))

none_found : (bytes : List ℕ) → StartsWithNoChar bytes → (found : Option ℕ) → (decoded bytes).char ≡ found
    → (decoded bytes).char ≡ None
none_found bytes starts None is = is
none_found bytes starts (Some c) is =
    let s = SpellsChar-decoded bytes c is in absurd (starts c (drop (decoded bytes).size bytes) s.scalar s.bytes)

-- the characters of a body are those that are read
characters_one : (cs bytes : List ℕ) → AreCharacters bytes cs → cs ≡ characters_after 0 bytes
characters_one [] bytes is = ap (characters_after 0) (sym is)
characters_one (c ∷ cs) bytes (inl (rest, scalar, e, are)) =
    ap (λ (l : List ℕ). c ∷ l) (characters_one cs rest are) ∙ sym (reads c bytes rest scalar e)
characters_one (c ∷ cs) bytes (inr (b, rest, e, starts, is, are)) =
    let none = none_found bytes starts (decoded bytes).char refl in
    ap (λ (x : ℕ). x ∷ cs) is ∙ ap (λ (l : List ℕ). stray ∷ l) (characters_one cs rest are)
    ∙ sym (strays b rest (ap (λ (l : List ℕ). (decoded l).char) (sym e) ∙ none)) ∙ ap (characters_after 0) (sym e)

-- one character more is read, or one stray byte
read_front : (b : ℕ) (bytes : List ℕ)
    → ((rest : List ℕ) → length rest ≤ length bytes → AreCharacters rest (characters_after 0 rest))
    → (found : Option ℕ) → (decoded (b ∷ bytes)).char ≡ found
    → AreCharacters (b ∷ bytes) (characters_after 0 (b ∷ bytes))
read_front b bytes behind None is =
    subst (AreCharacters (b ∷ bytes)) (sym (strays b bytes is))
    (inr (b, bytes, refl, none_begins (b ∷ bytes) is, refl, behind bytes (omega arith)))
read_front b bytes behind (Some c) is =
    let s = SpellsChar-decoded (b ∷ bytes) c is in
    let rest = drop (decoded (b ∷ bytes)).size (b ∷ bytes) in
    let less : length rest ≤ length bytes = omega (arith, ap length s.bytes, past_a_char c rest) in
    subst (AreCharacters (b ∷ bytes)) (sym (reads c (b ∷ bytes) rest s.scalar s.bytes))
    (inl (rest, s.scalar, s.bytes, behind rest less))

-- and what is read are its characters
characters_read : (n : ℕ) (bytes : List ℕ) → length bytes ≤ n → AreCharacters bytes (characters_after 0 bytes)
characters_read n [] short = refl
characters_read zero (b ∷ bytes) short = absurd (omega (arith, short))
characters_read (suc n) (b ∷ bytes) short =
    read_front b bytes (λ rest less. characters_read n rest (omega (arith, less, short)))
    (decoded (b ∷ bytes)).char refl

units_read : (rule : WordRule) (body : List ℕ) → AreUnits rule body (units_of rule body)
units_read Ascii body = refl
units_read Folded body = characters_read (length body) body (omega arith)

units_one : (rule : WordRule) (body units : List ℕ) → AreUnits rule body units → units ≡ units_of rule body
units_one Ascii body units is = is
units_one Folded body units are = characters_one units body are

pub words_are_one : WordsAreOne
unfolding words_of
words_are_one = record {
  read = λ rule body. (
    units_of rule body,
    units_read rule body,
    subst (λ (r : List ℕ). AreRuns rule (units_of rule body) (words_from rule r (units_of rule body)))
        (spelled_none rule)
        (read_words rule (units_of rule body) [] tt),
  );
  one = λ rule body words are.
      only rule words are.0 are.2 ∙ ap (words_from rule []) (units_one rule body are.0 are.1);
}
