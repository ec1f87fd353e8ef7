-- The stored bytes of a document, as they are read: a length, the identifier, the body.
use Rattle.std.specs.Prelude.{◌≡◌, ◌<◌, ◌≤◌, ◌+◌, ℕ, List, ◌∷◌, drop, length, take, Result, Ok, Err, IsTrue}
use Rattle.cell_types.specs.Image.{Image}
use Rattle.volume_meaning.specs.Documents.{IsBody, IsIdentifier, Spells, stored_bytes}
use Rattle.volume_meaning.specs.declared.limits.TheConstants.{MAX_BODY_BYTES, MAX_IDENTIFIER_BYTES}
use Rattle.tamper_rules.specs.Rules.{HasDocument}
use Rattle.worm_device.specs.Counts.{Rose}
use Rattle.worm_device.specs.Views.{ViewState}
use Rattle.append_file.specs.Reading.{IsPosition, HasRead}
use Rattle.append_file.specs.declared.piece.ContentFault.{ContentFault}
use Rattle.append_file.specs.declared.piece.ContentFault.TheVariants.{Broken, ReadFault}
use Rattle.append_file.specs.declared.position.Position.{Position}
use Rattle.document_store.specs.declared.head.Head.{Head}

-- the identifier
abbrev pub id_of : Head → List ℕ
id_of h = take h.id_length h.id

-- so many stored bytes from this cell on spell no document
abbrev pub SpellsNone : Image → ℕ → ℕ → Type 0
SpellsNone image start bytes = HasDocument image start bytes → ⊥

-- the head of a document of so many stored bytes
pub record IsHeadOf (bytes : ℕ) (h : Head) : Type 0 where
  pub identifier : IsIdentifier (id_of h)
  pub id_length : h.id_length ≡ length (id_of h)
  pub count : length (id_of h) + h.body_length + 1 ≡ bytes
  pub most : h.body_length ≤ MAX_BODY_BYTES
  pub room : h.id_length ≤ MAX_IDENTIFIER_BYTES

-- The head of a document of so many stored bytes whose first ones are this row: the head, and behind it a front of the
-- body.
pub record IsHeadOfRow (bytes : ℕ) (row : List ℕ) (h : Head) : Type 0 where
  pub head : IsHeadOf bytes h
  pub within : h.id_length < length row
  pub row_is : row ≡ stored_bytes (id_of h) (drop (1 + h.id_length) row)

-- no document of so many stored bytes has this row as its first ones
abbrev pub IsNoFront : ℕ → List ℕ → Type 0
IsNoFront bytes row =
    (id body : List ℕ) → IsIdentifier id → IsBody body → length (stored_bytes id body) ≡ bytes
    → row ≡ take (length row) (stored_bytes id body) → ⊥

-- What stands before the body was read, of a part of so many stored bytes; and as many bytes are left as the body may
-- have.
pub record IsHead (v : ViewState) (start bytes : ℕ) (p : Position) (h : Head) : Type 0 where
  pub is : IsPosition p
  pub identifier : IsIdentifier (id_of h)
  pub read : HasRead v start bytes p (length (id_of h) ∷ id_of h)
  pub id_length : h.id_length ≡ length (id_of h)
  pub count : length (id_of h) + h.body_length + 1 ≡ bytes
  pub most : h.body_length ≤ MAX_BODY_BYTES
  pub room : h.id_length ≤ MAX_IDENTIFIER_BYTES

-- this document was read, and the part holds it where the device below tells its image
pub record IsWholePart (v : ViewState) (start bytes : ℕ) (id body : List ℕ) : Type 0 where
  pub count : bytes ≡ length (stored_bytes id body)
  pub identifier : IsIdentifier id
  pub most : length body ≤ MAX_BODY_BYTES
  pub told : IsTrue v.base.tells → IsBody body × Spells v.image start (stored_bytes id body)

-- why a document was not read
abbrev pub HeadFaultEnds : ℕ → ℕ → ViewState → ViewState → ContentFault → Type 0
HeadFaultEnds start bytes old new Broken =
    (new.base.faults ≡ old.base.faults) × (IsTrue old.base.tells → SpellsNone new.image start bytes)
HeadFaultEnds start bytes old new ReadFault = Rose old.base.faults new.base.faults

-- how reading what stands before the body may end, and why
abbrev pub HeadEnds : ℕ → ℕ → ViewState → ViewState → Position → Result Head ContentFault → Type 0
HeadEnds start bytes old new p (Ok h) = (new.base.faults ≡ old.base.faults) × IsHead new start bytes p h
HeadEnds start bytes old new p (Err fault) = HeadFaultEnds start bytes old new fault

-- a body behind this head
pub record HasBody (v : ViewState) (start bytes : ℕ) (h : Head) : Type 0 where
  pub body : List ℕ
  pub is_length : length body ≡ h.body_length
  pub id_length : h.id_length ≡ length (id_of h)
  pub room : h.id_length ≤ MAX_IDENTIFIER_BYTES
  pub whole : IsWholePart v start bytes (id_of h) body

-- how reading the body, or the whole document, may end, and why
abbrev pub DocumentEnds : ℕ → ℕ → ViewState → ViewState → Result Head ContentFault → Type 0
DocumentEnds start bytes old new (Ok h) = (new.base.faults ≡ old.base.faults) × HasBody new start bytes h
DocumentEnds start bytes old new (Err fault) = HeadFaultEnds start bytes old new fault

-- how reading the body behind a head may end, and why
abbrev pub SkipEnds : ℕ → ℕ → Head → ViewState → ViewState → Result Unit ContentFault → Type 0
SkipEnds start bytes h old new (Ok u) = (new.base.faults ≡ old.base.faults) × HasBody new start bytes h
SkipEnds start bytes h old new (Err fault) = HeadFaultEnds start bytes old new fault
