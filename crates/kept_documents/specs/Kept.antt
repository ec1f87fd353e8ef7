-- Whether a document is kept, as a call over a view answers it.
use Rattle.std.specs.Prelude.{◌≡◌, ℕ, List, [], ◌∷◌, length, Option, Some, None, Result, Ok, Err, IsTrue, ⊤}
use Rattle.cell_types.specs.Layout.{Layout}
use Rattle.cell_types.specs.declared.geometry.Volume.{Volume}
use Rattle.cell_types.specs.declared.refusal.Fault.{Fault}
use Rattle.cell_types.specs.declared.refusal.Fault.TheVariants as faults
use Rattle.volume_meaning.specs.Documents.{Document}
use Rattle.volume_meaning.specs.Volumes.{IsVolume}
use Rattle.volume_meaning.specs.Keeping.{IsKept, Kept}
use Rattle.worm_device.specs.Counts.{Rose}
use Rattle.worm_device.specs.Views.{ViewState, Viewed}
use Rattle.document_store.specs.Looks.{HasPart}
use Rattle.kept_documents.specs.declared.fault.AskFault.{AskFault}
use Rattle.kept_documents.specs.declared.fault.AskFault.TheVariants.{NoMemory, ReadFault}
use Rattle.kept_documents.specs.declared.kept.KeptDocument.{KeptDocument}

-- this one document
abbrev pub document_of : ℕ → List ℕ → List ℕ → Document
document_of n id body = record { slot = n; id = id; body = body }

-- a body of so many bytes is kept with this identifier in this slot
pub record KeepsBody (s : ViewState) (n : ℕ) (id : List ℕ) (bytes : ℕ) : Type 0 where
  pub body : List ℕ
  pub count : length body ≡ bytes
  pub kept : Kept s.cells s.image (document_of n id body ∷ [])

-- none is
abbrev pub KeepsNone : ViewState → ℕ → List ℕ → Type 0
KeepsNone s n id = (body : List ℕ) → Kept s.cells s.image (document_of n id body ∷ []) → ⊥

-- Some: kept at exit. None: not kept at entry. Want of memory is free.
abbrev pub KeptAnswer : ℕ → List ℕ → ViewState → ViewState → Result (Option ℕ) AskFault → Type 0
KeptAnswer n id old new (Ok (Some bytes)) = IsTrue old.base.tells → KeepsBody new n id bytes
KeptAnswer n id old new (Ok None) = IsTrue old.base.tells → KeepsNone old n id
KeptAnswer n id old new (Err ReadFault) = Rose old.base.faults new.base.faults
KeptAnswer n id old new (Err (NoMemory lack)) = ⊤

-- what asking does
pub record AsksKept (n : ℕ) (id : List ℕ) (old new : ViewState) (result : Result (Option ℕ) AskFault) : Type 0 where
  pub viewed : Viewed old new
  pub ends : KeptAnswer n id old new result

-- A document is kept in this slot with this identifier, and was read: this is its body. Its volume and its part are such
-- ones over every view.
pub record KeepsDocument (s : ViewState) (n : ℕ) (id : List ℕ) (d : KeptDocument) : Type 0 where
  pub slot : d.part.slot ≡ n
  pub size : d.volume.geometry.cells ≡ s.cells
  pub part : HasPart d.volume.geometry s d.part
  pub count : d.bytes ≡ length d.body.held
  pub volume : IsTrue s.base.tells → IsVolume s.cells s.image d.volume.geometry
  pub kept : IsTrue s.base.tells → IsKept s.cells s.image d.volume.geometry (document_of n id d.body.held)

-- how asking for the document may end
abbrev pub DocumentAnswer
    : ℕ → List ℕ → ViewState → ViewState → Result (Option KeptDocument) AskFault → Type 0
DocumentAnswer n id old new (Ok (Some d)) = KeepsDocument new n id d
DocumentAnswer n id old new (Ok None) = IsTrue old.base.tells → KeepsNone old n id
DocumentAnswer n id old new (Err ReadFault) = Rose old.base.faults new.base.faults
DocumentAnswer n id old new (Err (NoMemory lack)) = ⊤

pub record AsksDocument (n : ℕ) (id : List ℕ) (old new : ViewState) (result : Result (Option KeptDocument) AskFault)
    : Type 0 where
  pub viewed : Viewed old new
  pub ends : DocumentAnswer n id old new result

-- the same of the volume that cell 0 stated at entry
pub record KeepsDocumentIn (v : Volume) (old new : ViewState) (n : ℕ) (id : List ℕ) (d : KeptDocument) : Type 0 where
  pub volume_is : d.volume ≡ v
  pub slot : d.part.slot ≡ n
  pub part : HasPart v.geometry new d.part
  pub count : d.bytes ≡ length d.body.held
  pub kept : IsTrue old.base.tells → IsVolume old.cells old.image v.geometry
      → IsKept new.cells new.image v.geometry (document_of n id d.body.held)

abbrev pub KeepsNoneIn : Layout → ViewState → ℕ → List ℕ → Type 0
KeepsNoneIn g s n id = (body : List ℕ) → IsKept s.cells s.image g (document_of n id body) → ⊥

abbrev pub DocumentInAnswer
    : Volume → ℕ → List ℕ → ViewState → ViewState → Result (Option KeptDocument) AskFault → Type 0
DocumentInAnswer v n id old new (Ok (Some d)) = KeepsDocumentIn v old new n id d
DocumentInAnswer v n id old new (Ok None) =
    IsTrue old.base.tells → IsVolume old.cells old.image v.geometry → KeepsNoneIn v.geometry old n id
DocumentInAnswer v n id old new (Err ReadFault) = Rose old.base.faults new.base.faults
DocumentInAnswer v n id old new (Err (NoMemory lack)) = ⊤

pub record AsksDocumentIn (v : Volume) (n : ℕ) (id : List ℕ) (old new : ViewState)
    (result : Result (Option KeptDocument) AskFault) : Type 0 where
  pub viewed : Viewed old new
  pub ends : DocumentInAnswer v n id old new result

-- a fault of a look: a cell out of order says none, and a failed read nothing
abbrev pub IsRefused : Fault → Result (Option KeptDocument) AskFault → Type 0
IsRefused faults.Failed result = result ≡ Err ReadFault
IsRefused (faults.Tampered e) result = result ≡ Ok None
