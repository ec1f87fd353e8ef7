-- What a matcher knows of the bytes that were pushed. By characters it keeps them. By bytes it knows of each term
-- whether it is among the words that have ended, and whether the run that has not is a front of it.
--
--     h e l l o   w o      `hello` is among those that have ended; the run is `wo`, of which `world` has two bytes
use Rattle.std.specs.Prelude.{◌≡◌, ◌≤◌, ◌+◌, ◌&&◌, ◌||◌, ◌↔◌, nat_lt, nat_eq, if◌then◌else◌, ℕ, Bool, true, false, List, [], ◌∷◌, ◌++◌, length, take, slice_index, Contains, IsTrue, Result, Ok, Err, ⊤}
use Rattle.std.specs.List.{list_all}
use Rattle.cell_types.specs.declared.refusal.NoMemory.{NoMemory}
use Rattle.volume_meaning.specs.Words.{is_word_byte, lowered, Matches}
use Rattle.volume_meaning.specs.declared.word_rules.WordRule.{WordRule}
use Rattle.volume_meaning.specs.declared.word_rules.WordRule.TheVariants.{Ascii, Folded}
use Rattle.word_reader.specs.RowWords.{ended_after, has_word, run_after}
use Rattle.word_reader.specs.declared.byte_matcher.Sought.{Sought}
use Rattle.word_reader.specs.declared.byte_matcher.ByteMatcher.{ByteMatcher}
use Rattle.word_reader.specs.declared.matcher.Matcher.{Matcher}
use Rattle.word_reader.specs.declared.matcher.Way.{Way}
use Rattle.word_reader.specs.declared.matcher.Way.TheVariants.{ByBytes, ByCharacters}
use Rattle.word_reader.specs.declared.text_matcher.TextMatcher.{TextMatcher}

-- After these bytes: found says whether the term is among the words that have ended; agrees whether the run that has
-- not is a front of it, and then front is the number of the run's bytes.
pub record Seeks (term : List ℕ) (found agrees : Bool) (front : ℕ) (bytes : List ℕ) : Type 0 where
  pub most : front ≤ length term
  pub found_is : (found ≡ true) ↔ Contains (ended_after [] bytes) term
  pub front_is : agrees ≡ true → run_after [] bytes ≡ take front term
  pub left_it : agrees ≡ false → (rest : List ℕ) → run_after [] bytes ++ rest ≡ term → ⊥

-- The same of a term that was not found. Of one that was nothing else need be known: it stays among the words that have
-- ended.
pub record Tracks (term : List ℕ) (found agrees : Bool) (front : ℕ) (bytes : List ℕ) : Type 0 where
  pub ended : found ≡ true → Contains (ended_after [] bytes) term
  pub seeks : found ≡ false → Seeks term found agrees front bytes

-- the same of each term
abbrev pub SeekAll : List Sought → List (List ℕ) → List ℕ → Type 0
SeekAll [] [] bytes = ⊤
SeekAll [] (t ∷ ts) bytes = ⊥
SeekAll (s ∷ ss) [] bytes = ⊥
SeekAll (s ∷ ss) (t ∷ ts) bytes =
    (s.bytes.items ≡ t) × Tracks t s.found s.agrees s.front bytes × SeekAll ss ts bytes

-- the term is among the words that have ended
abbrev pub has_ended : Sought → Bool
has_ended s = s.found

-- A matcher by bytes, of these terms, knows what these bytes and no others say of them. Where it seeks some of them still,
-- it knows when they end between words.
pub record KnowsBytes (m : ByteMatcher) (terms : List (List ℕ)) (bytes : List ℕ) : Type 0 where
  pub knows : SeekAll m.sought.items terms bytes
  pub between : m.all ≡ false → m.inside ≡ false → run_after [] bytes ≡ []
  pub all : m.all ≡ true → list_all has_ended m.sought.items ≡ true

-- a matcher by characters has these terms and keeps these bytes
pub record KeepsBytes (m : TextMatcher) (terms : List (List ℕ)) (bytes : List ℕ) : Type 0 where
  pub terms_are : m.terms.items ≡ terms
  pub bytes_are : m.bytes.items ≡ bytes

-- each of the terms is one of these words
abbrev pub AreAmong : List (List ℕ) → List (List ℕ) → Type 0
AreAmong words terms = (term : List ℕ) → Contains terms term → Contains words term

-- these bytes, and no others, were pushed to a matcher that goes this way, by this rule
abbrev pub Serves : Way → WordRule → List (List ℕ) → List ℕ → Type 0
Serves (ByBytes m) Ascii terms bytes = KnowsBytes m terms bytes
Serves (ByBytes m) Folded terms bytes = ⊥
Serves (ByCharacters m) Ascii terms bytes = ⊥
Serves (ByCharacters m) Folded terms bytes = KeepsBytes m terms bytes

-- these bytes, and no others, were pushed to a matcher of these terms by this rule
pub record HasPushed (m : Matcher) (rule : WordRule) (terms : List (List ℕ)) (bytes : List ℕ) : Type 0 where
  pub way : Serves m.way rule terms bytes

-- Taking bytes ends so: they were pushed; or there was no memory, which is under no rule but Folded, and they were not.
abbrev pub PushEnds : Matcher → Matcher → List ℕ → Result Unit NoMemory → Type 0
PushEnds old new taken (Ok done) =
    (rule : WordRule) (terms : List (List ℕ)) (bytes : List ℕ) → HasPushed old rule terms bytes
    → HasPushed new rule terms (bytes ++ taken)
PushEnds old new taken (Err short) =
    (rule : WordRule) (terms : List (List ℕ)) (bytes : List ℕ) → HasPushed old rule terms bytes
    → (rule ≡ Folded) × HasPushed new rule terms bytes

-- Asking ends so: whether each term is among the words of what was pushed; or there was no memory, which is under no
-- rule but Folded.
abbrev pub FinishEnds : Matcher → Result Bool NoMemory → Type 0
FinishEnds m (Ok all) =
    (rule : WordRule) (terms : List (List ℕ)) (bytes : List ℕ) → HasPushed m rule terms bytes
    → IsTrue all ↔ Matches rule bytes terms
FinishEnds m (Err short) =
    (rule : WordRule) (terms : List (List ℕ)) (bytes : List ℕ) → HasPushed m rule terms bytes → rule ≡ Folded

-- the run so far is the whole term
abbrev pub is_whole : Sought → Bool
is_whole s = s.agrees && (nat_lt 0 s.front && nat_eq s.front (length s.bytes.items))

-- the term is found, or would be if the bytes ended here
abbrev pub is_found : Sought → Bool
is_found s = s.found || is_whole s

-- the byte is the term's next one
abbrev pub goes_on : ℕ → Sought → Bool
goes_on b s =
    s.agrees && (nat_lt s.front (length s.bytes.items) && nat_eq (slice_index s.bytes.items s.front) (lowered b))

-- after one more byte
abbrev pub pushed : ℕ → Sought → Sought
pushed b s =
    if is_word_byte b
    then (if goes_on b s
    then record { bytes = s.bytes; found = s.found; agrees = s.agrees; front = s.front + 1 }
    else record { bytes = s.bytes; found = s.found; agrees = false; front = s.front })
    else record { bytes = s.bytes; found = is_found s; agrees = true; front = 0 }

-- after all bytes are forgotten
abbrev pub cleared : Sought → Sought
cleared s = record { bytes = s.bytes; found = false; agrees = true; front = 0 }

-- after a row that begins and ends between words
abbrev pub taken : List ℕ → Sought → Sought
taken row s =
    record { bytes = s.bytes; found = s.found || has_word row s.bytes.items; agrees = s.agrees; front = s.front }
