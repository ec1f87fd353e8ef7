-- The documents of stored slots, their words and their postings.
use Rattle.std.specs.Prelude.{◌≡◌, ℕ, List, length, Option, Some}
use Rattle.cell_types.specs.Contents.{IsContentCell}
use Rattle.cell_types.specs.Image.{Image}
use Rattle.cell_types.specs.Layout.{Layout}
use Rattle.document_store.specs.Standing.{HoldsDocument}
use Rattle.volume_meaning.specs.Postings.{ListedPosting, ArePostings, HasPostings}
use Rattle.volume_meaning.specs.Documents.{IsIdentifier, IsBody, Spells, stored_bytes}
use Rattle.volume_meaning.specs.Slots.{IsStampOf}
use Rattle.volume_meaning.specs.Words.{AreWords, rule_of}

-- the content cell of these bytes stands there
pub record HoldsContent (image : Image) (at : ℕ) (bytes : List ℕ) : Type 0 where
  pub cell : List ℕ
  pub stands : image at ≡ Some cell
  pub is : IsContentCell bytes cell

-- these are the stored bytes of each document that so many bytes from this cell on spell
abbrev pub AreStored : Image → ℕ → ℕ → List ℕ → Type 0
AreStored image start bytes stored =
    (id body : List ℕ) → IsIdentifier id → IsBody body → bytes ≡ length (stored_bytes id body)
    → Spells image start (stored_bytes id body) → stored ≡ stored_bytes id body

-- they are those of some document
pub record IsStoredDocument (stored : List ℕ) : Type 0 where
  pub id : List ℕ
  pub body : List ℕ
  pub is : stored ≡ stored_bytes id body

-- these are the words of the document that slot n holds
abbrev pub AreWordsOf : Layout → Image → ℕ → List (List ℕ) → Type 0
AreWordsOf g image n terms =
    (id body : List ℕ) → HoldsDocument g image n id body → AreWords (rule_of g.version) body terms

-- these are its postings, which exist
abbrev pub AreRowsOf : Layout → Image → ℕ → List ListedPosting → Type 0
AreRowsOf g image n rows =
    (id body : List ℕ) → HoldsDocument g image n id body
    → (stamp : Option ℕ) × IsStampOf g image n stamp × ArePostings g stamp body n rows

-- it has none
abbrev pub HasNoRows : Layout → Image → ℕ → Type 0
HasNoRows g image n = (id body : List ℕ) → HoldsDocument g image n id body → HasPostings g body → ⊥
