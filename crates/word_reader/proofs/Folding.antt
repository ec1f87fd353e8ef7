-- What one character more adds to the words that are read.
use Rattle.std.proofs.Common.{◌≡◌, ◌<◌, ℕ, true, false, List, [], ◌∷◌, ◌++◌, ◌≤◌, ◌+◌, ◌-◌, length, take, drop, drop-drop, length-drop, refl, sym, ap, ◌∙◌, arith, Some, None, encode_utf8, encode_utf8_all, get_or}
use Rattle.std.proofs.lemmas.List.{append_assoc, append-nil, take_all, take_more}
use Rattle.std.proofs.lemmas.Str.{encodes-append}
use Rattle.bstr.specs.Utf8.{decoded}
use Rattle.bstr.proofs.lemmas.PieceLemmas.{size-within}
use Rattle.bstr.proofs.lemmas.SoundLemmas.{SpellsChar-decoded}
use Rattle.caseless.specs.Caseless.{default_case_fold}
use Rattle.caseless.proofs.CaselessLemmas.{default_case_fold-nil, default_case_fold-cons}
use Rattle.ucd_case.specs.CaseFolding.{full_folding, or_itself}
use Rattle.volume_meaning.specs.Words.{stray, is_word_character, characters_after, words_from, spelled_one, ended}
use Rattle.volume_meaning.specs.declared.word_rules.WordRule.TheVariants.{Folded}
use Rattle.volume_meaning.proofs.Words.{read_on, read_end, ended_some, some_of, reads, strays, has_a_byte}

module _ (terms ws : List (List ℕ)) (run rest next : List ℕ) (u : ℕ) (read : characters_after 0 rest ≡ u ∷ characters_after 0 next)
    (so_far : terms ++ words_from Folded run (characters_after 0 rest) ≡ ws) where
  -- with the character in front
  front : terms ++ words_from Folded run (u ∷ characters_after 0 next) ≡ ws
  front = ap (λ (l : List ℕ). terms ++ words_from Folded run l) (sym read) ∙ so_far

  -- it is of a word
  pub word_more : is_word_character u ≡ true → (longer : List ℕ) → longer ≡ run ++ spelled_one Folded u
      → terms ++ words_from Folded longer (characters_after 0 next) ≡ ws
  word_more on longer is =
      ap (λ (r : List ℕ). terms ++ words_from Folded r (characters_after 0 next)) is
      ∙ ap (λ (l : List (List ℕ)). terms ++ l) (sym (read_on Folded run (characters_after 0 next) u on)) ∙ front

  ends : is_word_character u ≡ false → terms ++ (ended run ++ words_from Folded [] (characters_after 0 next)) ≡ ws
  ends off = ap (λ (l : List (List ℕ)). terms ++ l) (sym (read_end Folded run (characters_after 0 next) u off)) ∙ front

  -- it ends a run
  pub word_ends : is_word_character u ≡ false → 0 < length run
      → (terms ++ run ∷ []) ++ words_from Folded [] (characters_after 0 next) ≡ ws
  word_ends off some =
      append_assoc terms (run ∷ []) (words_from Folded [] (characters_after 0 next))
      ∙ ap (λ (l : List (List ℕ)). terms ++ (l ++ words_from Folded [] (characters_after 0 next))) (sym (ended_some run (some_of run some)))
      ∙ ends off

  -- there is no run
  pub gap_more : is_word_character u ≡ false → run ≡ [] → terms ++ words_from Folded run (characters_after 0 next) ≡ ws
  gap_more off none =
      ap (λ (r : List ℕ). terms ++ words_from Folded r (characters_after 0 next)) none
      ∙ ap (λ (r : List ℕ). terms ++ (ended r ++ words_from Folded [] (characters_after 0 next))) (sym none) ∙ ends off

-- what is read of a text from a place on
all_of : (bytes : List ℕ) (at : ℕ) → take (length bytes - at) (drop at bytes) ≡ drop at bytes
all_of bytes at = take_all (length bytes - at) (drop at bytes) (omega (arith, length-drop at bytes))

-- the next character lies behind the one that was read
pub behind : (bytes : List ℕ) (at size u : ℕ)
    → characters_after 0 (take (length bytes - at) (drop at bytes)) ≡ u ∷ characters_after 0 (drop size (take (length bytes - at) (drop at bytes)))
    → characters_after 0 (drop at bytes) ≡ u ∷ characters_after 0 (drop (at + size) bytes)
behind bytes at size u read =
    ap (characters_after 0) (sym (all_of bytes at)) ∙ read
    ∙ ap (λ (l : List ℕ). u ∷ characters_after 0 (drop size l)) (all_of bytes at)
    ∙ ap (λ (l : List ℕ). u ∷ characters_after 0 l) (drop-drop size at bytes)

-- and on the bytes
pub inside : (bytes : List ℕ) (at size : ℕ) → at ≤ length bytes
    → size ≤ length (take (length bytes - at) (drop at bytes)) → at + size ≤ length bytes
inside bytes at size low most = omega (arith, low, most, ap length (all_of bytes at), length-drop at bytes)

-- nothing is left
past : (bytes : List ℕ) (at : ℕ) → length bytes ≤ at → drop at bytes ≡ []
past bytes at high = none (drop at bytes) (omega (arith, length-drop at bytes, high))
  where
    none : (l : List ℕ) → length l ≤ 0 → l ≡ []
    none [] few = refl
    none (x ∷ l) few = absurd (omega (arith, few))

-- where nothing is left the run is the last word
pub at_end : (terms ws : List (List ℕ)) (run bytes : List ℕ) (at : ℕ) → length bytes ≤ at
    → terms ++ words_from Folded run (characters_after 0 (drop at bytes)) ≡ ws → terms ++ ended run ≡ ws
at_end terms ws run bytes at high so_far =
    ap (λ (l : List ℕ). terms ++ words_from Folded run (characters_after 0 l)) (sym (past bytes at high)) ∙ so_far

pub last_word : (terms ws : List (List ℕ)) (run : List ℕ) → 0 < length run → terms ++ ended run ≡ ws
    → terms ++ run ∷ [] ≡ ws
last_word terms ws run some all = ap (λ (l : List (List ℕ)). terms ++ l) (sym (ended_some run (some_of run some))) ∙ all

pub no_word : (terms ws : List (List ℕ)) (run : List ℕ) → run ≡ [] → terms ++ ended run ≡ ws → terms ≡ ws
no_word terms ws run none all =
    sym (append-nil terms) ∙ ap (λ (r : List ℕ). terms ++ ended r) (sym none) ∙ all

-- a text without bytes is empty
pub is_none : (l : List ℕ) → length l ≡ 0 → l ≡ []
is_none [] few = refl
is_none (x ∷ l) few = absurd (omega (arith, few))

-- a character that folds to itself
pub folds_to_itself : (c : ℕ) → full_folding c ≡ [] → encode_utf8_all (default_case_fold (c ∷ [])) ≡ encode_utf8 c
folds_to_itself c none =
    ap encode_utf8_all (default_case_fold-cons c [])
    ∙ ap (λ (l : List ℕ). encode_utf8_all (or_itself c l ++ default_case_fold [])) none
    ∙ ap (λ (l : List ℕ). encode_utf8_all (c ∷ l)) default_case_fold-nil ∙ append-nil (encode_utf8 c)

-- and one that folds to others
pub folds_to : (c : ℕ) (x : ℕ) (xs : List ℕ) → full_folding c ≡ x ∷ xs
    → encode_utf8_all (default_case_fold (c ∷ [])) ≡ encode_utf8_all (full_folding c)
folds_to c x xs some =
    ap encode_utf8_all (default_case_fold-cons c [])
    ∙ ap (λ (l : List ℕ). encode_utf8_all (or_itself c l ++ default_case_fold [])) some
    ∙ ap (λ (l : List ℕ). encode_utf8_all ((x ∷ xs) ++ l)) default_case_fold-nil
    ∙ ap encode_utf8_all (append-nil (x ∷ xs) ∙ sym some)

pub folds : (c : ℕ) → 0 < length (full_folding c)
    → encode_utf8_all (default_case_fold (c ∷ [])) ≡ encode_utf8_all (full_folding c)
folds c some = let s = some_of (full_folding c) some in folds_to c s.0 s.1 s.2

-- the character that is found at the front of some bytes
pub found_unit : (bytes : List ℕ) (c : ℕ) → (decoded bytes).char ≡ Some c
    → (characters_after 0 bytes ≡ c ∷ characters_after 0 (drop (decoded bytes).size bytes))
    × (1 ≤ (decoded bytes).size) × ((decoded bytes).size ≤ length bytes)
found_unit bytes c is =
    let s = SpellsChar-decoded bytes c is in (
      reads c bytes (drop (decoded bytes).size bytes) s.scalar s.bytes,
      omega (arith, s.width, has_a_byte c),
      size-within bytes,
    )

-- and the stray one
pub stray_unit : (bytes : List ℕ) → 1 ≤ length bytes → (decoded bytes).char ≡ None
    → characters_after 0 bytes ≡ stray ∷ characters_after 0 (drop 1 bytes)
stray_unit [] some none = absurd (omega (arith, some))
stray_unit (b ∷ bytes) some none = strays b bytes none

-- one character more of a folding
pub put_more : (old folded run longer : List ℕ) (i x : ℕ) → i < length folded → x ≡ get_or folded i x
    → run ≡ old ++ encode_utf8_all (take i folded)
    → longer ≡ run ++ encode_utf8 x → longer ≡ old ++ encode_utf8_all (take (i + 1) folded)
put_more old folded run longer i x less here so_far is =
    let one : encode_utf8_all (take (i + 1) folded) ≡ encode_utf8_all (take i folded) ++ encode_utf8 x =
    ap encode_utf8_all (take_more folded i x less ∙ ap (λ (y : ℕ). take i folded ++ y ∷ []) (sym here))
    ∙ encodes-append (take i folded) (x ∷ [])
    ∙ ap (λ (l : List ℕ). encode_utf8_all (take i folded) ++ l) (append-nil (encode_utf8 x)) in
    is ∙ ap (λ (l : List ℕ). l ++ encode_utf8 x) so_far
    ∙ append_assoc old (encode_utf8_all (take i folded)) (encode_utf8 x)
    ∙ ap (λ (l : List ℕ). old ++ l) (sym one)

-- and all of them
pub put_all : (old folded run : List ℕ) (i : ℕ) → length folded ≤ i → run ≡ old ++ encode_utf8_all (take i folded)
    → run ≡ old ++ encode_utf8_all folded
put_all old folded run i high is = is ∙ ap (λ (l : List ℕ). old ++ encode_utf8_all l) (take_all i folded high)
