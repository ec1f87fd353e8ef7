-- Which words ask for which command.
use Rattle.std.specs.Prelude.{◌≡◌, ◌≤◌, ◌⊎◌, ℕ, List, [], ◌∷◌, codes, length, Contains, Option, Some, None}
use Rattle.cell_types.specs.declared.geometry.TheConstants.{FIRST_VERSION, MAX_LISTS, MAX_SLOTS, NEWEST_VERSION}
use Rattle.command_line.specs.Words.{AreSeconds, IsNoOption, IsNumberUpTo}
use Rattle.command_line.specs.declared.words.TheConstants.{MAX_DOCUMENTS, MAX_QUERY_WORDS}

-- the words are this name and two that stand for these numbers of slots and lists
pub record AsksWithNumbers (name : List ℕ) (words : List (List ℕ)) (slots lists : ℕ) : Type 0 where
  pub first : List ℕ
  pub second : List ℕ
  pub asked : words ≡ name ∷ first ∷ second ∷ []
  pub slots_word : IsNumberUpTo MAX_SLOTS first slots
  pub lists_word : IsNumberUpTo MAX_LISTS second lists

-- the words are `format` and these numbers of slots and lists
abbrev pub AsksPlainly : List (List ℕ) → ℕ → ℕ → Type 0
AsksPlainly words slots lists = AsksWithNumbers (codes "format") words slots lists

-- the words are `format`, these numbers of slots and lists, and this version
pub record AsksByVersion (words : List (List ℕ)) (slots lists version : ℕ) : Type 0 where
  pub first : List ℕ
  pub second : List ℕ
  pub third : List ℕ
  pub asked : words ≡ codes "format" ∷ first ∷ second ∷ third ∷ []
  pub slots_word : IsNumberUpTo MAX_SLOTS first slots
  pub lists_word : IsNumberUpTo MAX_LISTS second lists
  pub version_word : IsNumberUpTo NEWEST_VERSION third version

-- the words ask for a volume of so many slots and lists, and of this version, which is the first where none is stated
abbrev pub AsksToFormat : List (List ℕ) → ℕ → ℕ → ℕ → Type 0
AsksToFormat words slots lists version =
    (AsksPlainly words slots lists × (version ≡ FIRST_VERSION)) ⊎ AsksByVersion words slots lists version

-- the words are `ingest` and this one
pub record AsksWithoutStamp (words : List (List ℕ)) (id : List ℕ) : Type 0 where
  pub asked : words ≡ codes "ingest" ∷ id ∷ []
  pub word : IsNoOption id

-- the words are `ingest`, this one, and these seconds
pub record AsksWithStamp (words : List (List ℕ)) (id : List ℕ) (seconds : ℕ) : Type 0 where
  pub last : List ℕ
  pub asked : words ≡ codes "ingest" ∷ id ∷ last ∷ []
  pub word : IsNoOption id
  pub seconds_word : AreSeconds last seconds

-- the words ask for a document of this name, and with this stamp, if they state one
abbrev pub AsksToIngest : List (List ℕ) → List ℕ → Option ℕ → Type 0
AsksToIngest words id None = AsksWithoutStamp words id
AsksToIngest words id (Some seconds) = AsksWithStamp words id seconds

-- the words are `find` and 1 to 8 others
pub record AsksToFind (words asked : List (List ℕ)) : Type 0 where
  pub asked_is : words ≡ codes "find" ∷ asked
  pub some : 1 ≤ length asked
  pub most : length asked ≤ MAX_QUERY_WORDS
  pub each : (word : List ℕ) → Contains asked word → IsNoOption word

-- the words are `lookup` and this one
pub record AsksToLookUp (words : List (List ℕ)) (id : List ℕ) : Type 0 where
  pub asked : words ≡ codes "lookup" ∷ id ∷ []
  pub word : IsNoOption id

-- the word is `recover`
abbrev pub AsksToRecover : List (List ℕ) → Type 0
AsksToRecover words = words ≡ codes "recover" ∷ []

-- the word is `audit`
abbrev pub AsksToAudit : List (List ℕ) → Type 0
AsksToAudit words = words ≡ codes "audit" ∷ []

-- the word is `replay`
abbrev pub AsksToReplay : List (List ℕ) → Type 0
AsksToReplay words = words ≡ codes "replay" ∷ []

-- the words are `exercise` and this number of documents
pub record AsksToExercise (words : List (List ℕ)) (n : ℕ) : Type 0 where
  pub first : List ℕ
  pub asked : words ≡ codes "exercise" ∷ first ∷ []
  pub documents_word : IsNumberUpTo MAX_DOCUMENTS first n

-- the word is `check`
abbrev pub AsksToCheck : List (List ℕ) → Type 0
AsksToCheck words = words ≡ codes "check" ∷ []

-- the words are `receipt` and this one
pub record AsksForReceipt (words : List (List ℕ)) (id : List ℕ) : Type 0 where
  pub asked : words ≡ codes "receipt" ∷ id ∷ []
  pub word : IsNoOption id

-- the words are `between` and the seconds of two times, of which the first is not past the second
pub record AsksBetween (words : List (List ℕ)) (from to : ℕ) : Type 0 where
  pub first : List ℕ
  pub second : List ℕ
  pub asked : words ≡ codes "between" ∷ first ∷ second ∷ []
  pub from_word : AreSeconds first from
  pub to_word : AreSeconds second to
  pub order : from ≤ to
