-- The words that end within bytes, and where in them a term stands as such a word.
--
--     c o m e ,   c o m .       the words that end within are `come` and `com`
--     0 1 2 3 4 5 6 7 8 9       `com` stands at 6; not at 0, where a longer word begins
use Rattle.std.specs.Prelude.{◌≡◌, ◌≤◌, ◌<◌, ◌+◌, ◌&&◌, ◌||◌, nat_eq, if◌then◌else◌, ℕ, zero, suc, Bool, true, false, List, [], ◌∷◌, ◌++◌, length, slice_index}
use Rattle.volume_meaning.specs.Words.{is_word_byte, lowered, ended}
use Rattle.word_reader.specs.declared.row_words.TermFront.{TermFront}

-- the run that has not ended after these bytes, behind a run that has begun
abbrev pub run_after : List ℕ → List ℕ → List ℕ
run_after run [] = run
run_after run (b ∷ bytes) =
    if is_word_byte b then run_after (run ++ lowered b ∷ []) bytes else run_after [] bytes

-- the words that have ended
abbrev pub ended_after : List ℕ → List ℕ → List (List ℕ)
ended_after run [] = []
ended_after run (b ∷ bytes) =
    if is_word_byte b then ended_after (run ++ lowered b ∷ []) bytes else ended run ++ ended_after [] bytes

-- these are the same bytes
abbrev pub are_same : List ℕ → List ℕ → Bool
are_same [] [] = true
are_same [] (y ∷ ys) = false
are_same (x ∷ xs) [] = false
are_same (x ∷ xs) (y ∷ ys) = nat_eq x y && are_same xs ys

-- the term is one of these words
abbrev pub is_one_of : List (List ℕ) → List ℕ → Bool
is_one_of [] term = false
is_one_of (word ∷ words) term = are_same word term || is_one_of words term

-- the term is one of the words that end within a row
abbrev pub has_word : List ℕ → List ℕ → Bool
has_word row term = is_one_of (ended_after [] row) term

-- whether a byte of a word stands before this place of a row
abbrev pub is_behind : List ℕ → ℕ → Bool
is_behind row zero = false
is_behind row (suc at) = is_word_byte (slice_index row at)

-- the byte is one of a word, and in small letters this one
pub record ReadsAs (byte small : ℕ) : Type 0 where
  pub of_word : is_word_byte byte ≡ true
  pub same : lowered byte ≡ small

-- these are two neighbouring bytes of the term, or its last one twice
pub record IsFrontOf (term : List ℕ) (front : TermFront) : Type 0 where
  pub near : front.behind ≤ 1
  pub inside : front.offset + front.behind < length term
  pub first : slice_index term front.offset ≡ front.first
  pub second : slice_index term (front.offset + front.behind) ≡ front.second

-- the bytes of a row from this place on spell these
abbrev pub SpellsAt : List ℕ → ℕ → List ℕ → Type 0
SpellsAt row at run = (k : ℕ) → k < length run → ReadsAs (slice_index row (at + k)) (slice_index run k)

-- the word that begins at this place of a row is the term, and it ends within the row
pub record StandsAt (row : List ℕ) (at : ℕ) (term : List ℕ) : Type 0 where
  pub some : 1 ≤ length term
  pub inside : at + length term < length row
  pub apart : is_behind row at ≡ false
  pub spells : SpellsAt row at term
  pub ends : is_word_byte (slice_index row (at + length term)) ≡ false

-- the term stands at no place from one up to another
abbrev pub StandsAtNone : List ℕ → ℕ → ℕ → List ℕ → Type 0
StandsAtNone row from to term = (place : ℕ) → from ≤ place → place < to → StandsAt row place term → ⊥
