-- What it means that a slot of a volume holds a document, whatever the device's cell 0 states.
use Rattle.std.specs.Prelude.{◌≡◌, ◌↔◌, ℕ, List, length}
use Rattle.cell_types.specs.Image.{Image, Extends}
use Rattle.cell_types.specs.Layout.{Layout}
use Rattle.volume_meaning.specs.Documents.{IsBody, IsIdentifier, Spells, Stands, document_at, stored_bytes}
use Rattle.volume_meaning.specs.Slots.{IsDone}
use Rattle.volume_meaning.specs.Volumes.{IsVolume}

-- Slot n is done, and its cells spell this document. On a volume of this layout it stands, then.
pub record HoldsDocument (g : Layout) (image : Image) (n : ℕ) (id body : List ℕ) : Type 0 where
  pub start : ℕ
  pub reserved : ℕ
  pub journal : ℕ
  pub done : IsDone g image n start reserved (length (stored_bytes id body)) journal
  pub spells : Spells image (document_at start reserved (length (stored_bytes id body)) journal) (stored_bytes id body)
  pub is_identifier : IsIdentifier id
  pub is_body : IsBody body

-- where cell 0 states this layout, a document that is held stands, and one that stands is held
abbrev pub HeldIsStanding : Type 0
HeldIsStanding =
    (g : Layout) (cells : ℕ) (image : Image) (n : ℕ) (id body : List ℕ) → IsVolume cells image g
    → HoldsDocument g image n id body ↔ Stands cells image n id body

-- a document that is held goes on being held, whatever is written into blank cells
abbrev pub HeldStays : Type 0
HeldStays =
    (g : Layout) (old new : Image) (n : ℕ) (id body : List ℕ) → Extends old new → HoldsDocument g old n id body
    → HoldsDocument g new n id body

-- a slot holds one document
abbrev pub SlotDocumentIsOne : Type 0
SlotDocumentIsOne =
    (g : Layout) (image : Image) (n : ℕ) (a b c d : List ℕ) → HoldsDocument g image n a b
    → HoldsDocument g image n c d → (a ≡ c) × (b ≡ d)
