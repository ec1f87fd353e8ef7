-- Documents, their stored bytes, and what it means that one stands.
use Rattle.std.specs.Prelude.{◌≡◌, ◌<◌, ◌≤◌, ◌+◌, ◌-◌, ◌*◌, ◌↔◌, ℕ, List, [], ◌∷◌, ◌++◌, length, take, drop, slice_index, Some, Contains}
use Rattle.cell_types.specs.Bytes.{AreBytes}
use Rattle.cell_types.specs.Contents.{content_bytes}
use Rattle.cell_types.specs.Image.{Image, Extends}
use Rattle.cell_types.specs.Layout.{Layout}
use Rattle.volume_meaning.specs.Slots.{cells_for, IsDone, AreTaken}
use Rattle.volume_meaning.specs.Volumes.{IsVolume}
use Rattle.volume_meaning.specs.declared.limits.TheConstants.{MAX_IDENTIFIER_BYTES, MAX_BODY_BYTES}

-- 1 to 200 bytes, each of them a printing ASCII character and no space
pub record IsIdentifier (id : List ℕ) : Type 0 where
  pub some : 1 ≤ length id
  pub most : length id ≤ MAX_IDENTIFIER_BYTES
  pub each : (i : ℕ) → i < length id → (0x21 ≤ slice_index id i) × (slice_index id i ≤ 0x7E)

-- 0 to 1,048,576 bytes
pub record IsBody (body : List ℕ) : Type 0 where
  pub bytes : AreBytes body
  pub most : length body ≤ MAX_BODY_BYTES

-- the stored bytes of a document
abbrev pub stored_bytes : List ℕ → List ℕ → List ℕ
stored_bytes id body = length id ∷ (id ++ body)

-- the content cell of place k of these stored bytes
abbrev pub content_at : List ℕ → ℕ → List ℕ
content_at stored k = content_bytes (take 15 (drop (15 * k) stored))

-- from this cell on stand the content cells of these stored bytes
abbrev pub Spells : Image → ℕ → List ℕ → Type 0
Spells image from stored = (k : ℕ) → k < cells_for (length stored) → image (from + k) ≡ Some (content_at stored k)

-- where the document begins in a slot's cells: the journal is last, and the document before it
abbrev pub document_at : ℕ → ℕ → ℕ → ℕ → ℕ
document_at start length bytes journal = start + length - journal - cells_for bytes

-- In a device of so many cells slot n is done, and its cells spell this document.
pub record Stands (cells : ℕ) (image : Image) (n : ℕ) (id body : List ℕ) : Type 0 where
  pub layout : Layout
  pub start : ℕ
  pub reserved : ℕ
  pub journal : ℕ
  pub volume : IsVolume cells image layout
  pub slot : n < layout.slots
  pub done : IsDone layout image n start reserved (length (stored_bytes id body)) journal
  pub spells : Spells image (document_at start reserved (length (stored_bytes id body)) journal) (stored_bytes id body)
  pub is_identifier : IsIdentifier id
  pub is_body : IsBody body

-- the document is one of the volume's: it stands, and each slot below its own is taken
pub record IsDocument (cells : ℕ) (image : Image) (n : ℕ) (id body : List ℕ) : Type 0 where
  pub stands : Stands cells image n id body
  pub taken : AreTaken image n

-- a document, by its slot
pub record Document : Type 0 where
  pub slot : ℕ
  pub id : List ℕ
  pub body : List ℕ

-- each slot is greater than the one before it, and all are from this one on
abbrev pub Rise : ℕ → List Document → Type 0
Rise from [] = Unit {0}
Rise from (d ∷ ds) = (from ≤ d.slot) × Rise (d.slot + 1) ds

-- these are the volume's documents, by rising slot
pub record AreDocuments (cells : ℕ) (image : Image) (documents : List Document) : Type 0 where
  pub rise : Rise 0 documents
  pub each : (d : Document) → IsDocument cells image d.slot d.id d.body ↔ Contains documents d

-- a volume has one list of its documents
abbrev pub ListsAreOne : Type 0
ListsAreOne =
    (cells : ℕ) (image : Image) (one other : List Document) → AreDocuments cells image one
    → AreDocuments cells image other
    → one ≡ other

-- a document that stands goes on standing, whatever is written into blank cells
abbrev pub StandsHoldsOn : Type 0
StandsHoldsOn =
    (cells : ℕ) (old new : Image) (n : ℕ) (id body : List ℕ)
    → Extends old new → Stands cells old n id body → Stands cells new n id body

-- and a document of the volume goes on being one
abbrev pub DocumentsHoldOn : Type 0
DocumentsHoldOn =
    (cells : ℕ) (old new : Image) (n : ℕ) (id body : List ℕ)
    → Extends old new → IsDocument cells old n id body → IsDocument cells new n id body

-- a slot has one document
abbrev pub DocumentsAreOne : Type 0
DocumentsAreOne =
    (cells : ℕ) (image : Image) (n : ℕ) (a b c d : List ℕ) → Stands cells image n a b
    → Stands cells image n c d → (a ≡ c) × (b ≡ d)
