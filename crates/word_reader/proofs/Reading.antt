-- What one byte more adds to the words that have ended and to the run that has not; together they are the body's words.
use Rattle.std.proofs.Common.{◌≡◌, ◌⊎◌, ◌↔◌, ℕ, Bool, true, false, List, [], ◌∷◌, ◌++◌, refl, sym, ap, ◌∙◌, inl, inr, subst, if◌then◌else◌, length, get_or, arith}
use Rattle.std.specs.Prelude.{Contains}
use Rattle.std.proofs.lemmas.List.{append_assoc, append-nil}
use Rattle.volume_meaning.specs.Words.{is_word_byte, lowered, ended, words_from, words_of, AreWords, HasWord}
use Rattle.volume_meaning.specs.declared.word_rules.WordRule.{WordRule}
use Rattle.volume_meaning.specs.declared.word_rules.WordRule.TheVariants.{Ascii}
use Rattle.volume_meaning.proofs.Words.{words_are_one}
use Rattle.word_reader.specs.RowWords.{run_after, ended_after}

pub bool_cases : (c : Bool) → (c ≡ true) ⊎ (c ≡ false)
bool_cases true = inl refl
bool_cases false = inr refl

module _ {X : Type 0} (c : Bool) (x y : X) where
  pub chosen : c ≡ true → (if c then x else y) ≡ x
  chosen e = ap (λ (d : Bool). if d then x else y) e

  pub passed : c ≡ false → (if c then x else y) ≡ y
  passed e = ap (λ (d : Bool). if d then x else y) e

module _ (run bytes : List ℕ) (b : ℕ) where
  pub words_on : is_word_byte b ≡ true → words_from Ascii run (b ∷ bytes) ≡ words_from Ascii (run ++ lowered b ∷ []) bytes
  words_on e = chosen (is_word_byte b) (words_from Ascii (run ++ lowered b ∷ []) bytes) (ended run ++ words_from Ascii [] bytes) e

  pub words_end : is_word_byte b ≡ false → words_from Ascii run (b ∷ bytes) ≡ ended run ++ words_from Ascii [] bytes
  words_end e = passed (is_word_byte b) (words_from Ascii (run ++ lowered b ∷ []) bytes) (ended run ++ words_from Ascii [] bytes) e

  pub run_on : is_word_byte b ≡ true → run_after run (b ∷ bytes) ≡ run_after (run ++ lowered b ∷ []) bytes
  run_on e = chosen (is_word_byte b) (run_after (run ++ lowered b ∷ []) bytes) (run_after [] bytes) e

  pub run_end : is_word_byte b ≡ false → run_after run (b ∷ bytes) ≡ run_after [] bytes
  run_end e = passed (is_word_byte b) (run_after (run ++ lowered b ∷ []) bytes) (run_after [] bytes) e

  pub ended_on : is_word_byte b ≡ true → ended_after run (b ∷ bytes) ≡ ended_after (run ++ lowered b ∷ []) bytes
  ended_on e = chosen (is_word_byte b) (ended_after (run ++ lowered b ∷ []) bytes) (ended run ++ ended_after [] bytes) e

  pub ended_end : is_word_byte b ≡ false → ended_after run (b ∷ bytes) ≡ ended run ++ ended_after [] bytes
  ended_end e = passed (is_word_byte b) (ended_after (run ++ lowered b ∷ []) bytes) (ended run ++ ended_after [] bytes) e

-- one byte more of a term
module _ (b : ℕ) (e : is_word_byte b ≡ true) where
  pub run_last : (bytes run : List ℕ) → run_after run (bytes ++ b ∷ []) ≡ run_after run bytes ++ lowered b ∷ []
  run_last [] run = run_on run [] b e
  run_last (a ∷ bytes) run = elim (bool_cases (is_word_byte a)) [
    | inl on ↦ run_on run (bytes ++ b ∷ []) a on ∙ run_last bytes (run ++ lowered a ∷ [])
        ∙ ap (λ (l : List ℕ). l ++ lowered b ∷ []) (sym (run_on run bytes a on))
    | inr off ↦ run_end run (bytes ++ b ∷ []) a off ∙ run_last bytes []
        ∙ ap (λ (l : List ℕ). l ++ lowered b ∷ []) (sym (run_end run bytes a off))
  ]

  pub ended_last : (bytes run : List ℕ) → ended_after run (bytes ++ b ∷ []) ≡ ended_after run bytes
  ended_last [] run = ended_on run [] b e
  ended_last (a ∷ bytes) run = elim (bool_cases (is_word_byte a)) [
    | inl on ↦ ended_on run (bytes ++ b ∷ []) a on ∙ ended_last bytes (run ++ lowered a ∷ []) ∙ sym (ended_on run bytes a on)
    | inr off ↦ ended_end run (bytes ++ b ∷ []) a off
        ∙ ap (λ (l : List (List ℕ)). ended run ++ l) (ended_last bytes []) ∙ sym (ended_end run bytes a off)
  ]

-- one byte more that is none
module _ (b : ℕ) (e : is_word_byte b ≡ false) where
  pub run_gone : (bytes run : List ℕ) → run_after run (bytes ++ b ∷ []) ≡ []
  run_gone [] run = run_end run [] b e
  run_gone (a ∷ bytes) run = elim (bool_cases (is_word_byte a)) [
    | inl on ↦ run_on run (bytes ++ b ∷ []) a on ∙ run_gone bytes (run ++ lowered a ∷ [])
    | inr off ↦ run_end run (bytes ++ b ∷ []) a off ∙ run_gone bytes []
  ]

  pub ended_more : (bytes run : List ℕ) → ended_after run (bytes ++ b ∷ []) ≡ ended_after run bytes ++ ended (run_after run bytes)
  ended_more [] run = ended_end run [] b e ∙ append-nil (ended run)
  ended_more (a ∷ bytes) run = elim (bool_cases (is_word_byte a)) [
    | inl on ↦ ended_on run (bytes ++ b ∷ []) a on ∙ ended_more bytes (run ++ lowered a ∷ [])
        ∙ ap (λ (l : List (List ℕ)). l ++ ended (run_after (run ++ lowered a ∷ []) bytes)) (sym (ended_on run bytes a on))
        ∙ ap (λ (r : List ℕ). ended_after run (a ∷ bytes) ++ ended r) (sym (run_on run bytes a on))
    | inr off ↦ ended_end run (bytes ++ b ∷ []) a off ∙ ap (λ (l : List (List ℕ)). ended run ++ l) (ended_more bytes [])
        ∙ sym (append_assoc (ended run) (ended_after [] bytes) (ended (run_after [] bytes)))
        ∙ ap (λ (l : List (List ℕ)). l ++ ended (run_after [] bytes)) (sym (ended_end run bytes a off))
        ∙ ap (λ (r : List ℕ). ended_after run (a ∷ bytes) ++ ended r) (sym (run_end run bytes a off))
  ]

-- all terms are those that have ended and the run
pub both : (bytes run : List ℕ) → words_from Ascii run bytes ≡ ended_after run bytes ++ ended (run_after run bytes)
both [] run = refl
both (a ∷ bytes) run = elim (bool_cases (is_word_byte a)) [
  | inl on ↦ words_on run bytes a on ∙ both bytes (run ++ lowered a ∷ [])
      ∙ ap (λ (l : List (List ℕ)). l ++ ended (run_after (run ++ lowered a ∷ []) bytes)) (sym (ended_on run bytes a on))
      ∙ ap (λ (r : List ℕ). ended_after run (a ∷ bytes) ++ ended r) (sym (run_on run bytes a on))
  | inr off ↦ words_end run bytes a off ∙ ap (λ (l : List (List ℕ)). ended run ++ l) (both bytes [])
      ∙ sym (append_assoc (ended run) (ended_after [] bytes) (ended (run_after [] bytes)))
      ∙ ap (λ (l : List (List ℕ)). l ++ ended (run_after [] bytes)) (sym (ended_end run bytes a off))
      ∙ ap (λ (r : List ℕ). ended_after run (a ∷ bytes) ++ ended r) (sym (run_end run bytes a off))
]

-- the words of the body, by the run that has not ended
pub split : (bytes : List ℕ) → words_of Ascii bytes ≡ ended_after [] bytes ++ ended (run_after [] bytes)
unfolding words_of
split bytes = both bytes []

-- what is read from the first byte on are the words
pub are_words : (rule : WordRule) (bytes : List ℕ) (words : List (List ℕ)) → words ≡ words_of rule bytes
    → AreWords rule bytes words
are_words rule bytes words is = subst (AreWords rule bytes) (sym is) (words_are_one.read rule bytes)

-- a word of the body is one of those that are read
pub has_word : (bytes word : List ℕ) → Contains (words_of Ascii bytes) word ↔ HasWord Ascii bytes word
has_word bytes word = (
  λ has. record { words = words_of Ascii bytes; are = words_are_one.read Ascii bytes; among = has },
  λ h. subst (λ (ws : List (List ℕ)). Contains ws word) (words_are_one.one Ascii bytes h.words h.are) h.among,
)

-- a row of one item
pub one_item : (xs : List (List ℕ)) (x : List ℕ) → length xs ≡ 1 → x ≡ get_or xs 0 x → xs ≡ x ∷ []
one_item [] x one is = absurd (omega (arith, one))
one_item (y ∷ []) x one is = ap (λ (z : List ℕ). z ∷ []) (sym is)
one_item (y ∷ z ∷ xs) x one is = absurd (omega (arith, one))
