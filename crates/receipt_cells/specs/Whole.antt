-- What listing the cells that a document's being kept rests on does.
use Rattle.std.specs.Prelude.{◌≡◌, ℕ, List, length, Option, Some, None, Result, Ok, Err, IsTrue, ⊤}
use Rattle.cell_types.specs.Layout.{Layout}
use Rattle.volume_meaning.specs.Keeping.{IsKept}
use Rattle.volume_meaning.specs.Volumes.{IsVolume}
use Rattle.worm_device.specs.Counts.{Rose}
use Rattle.worm_device.specs.Views.{ViewState, Viewed}
use Rattle.kept_documents.specs.Kept.{KeepsNone, document_of}
use Rattle.kept_documents.specs.declared.fault.AskFault.{AskFault}
use Rattle.kept_documents.specs.declared.fault.AskFault.TheVariants.{NoMemory, ReadFault}
use Rattle.receipt_cells.specs.Needed.{ListsJust, RestsOn}

-- Where this volume kept a document in slot n with the identifier at entry, just the cells are listed that its being
-- kept rests on.
abbrev pub DocumentEnds : Layout → ℕ → List ℕ → ViewState → ViewState → List (ℕ × List ℕ) → List (ℕ × List ℕ)
    → Result Unit AskFault → Type 0
DocumentEnds g n id old new listed later (Ok u) =
    IsTrue old.base.tells → IsVolume old.cells old.image g → (body : List ℕ)
    → IsKept old.cells old.image g (document_of n id body)
    → ListsJust (RestsOn old.cells new.image g (document_of n id body)) new.image listed later
DocumentEnds g n id old new listed later (Err ReadFault) = Rose old.base.faults new.base.faults
DocumentEnds g n id old new listed later (Err (NoMemory lack)) = ⊤

pub record ListsDocument (g : Layout) (n : ℕ) (id : List ℕ) (old new : ViewState) (listed later : List (ℕ × List ℕ))
    (result : Result Unit AskFault) : Type 0 where
  pub viewed : Viewed old new
  pub ends : DocumentEnds g n id old new listed later result

-- A body of so many bytes is kept with this identifier in slot n, and just the cells are listed that this rests on.
pub record IsKeptListed (s : ViewState) (n : ℕ) (id : List ℕ) (bytes : ℕ) (listed later : List (ℕ × List ℕ)) : Type 0 where
  pub body : List ℕ
  pub count : length body ≡ bytes
  pub layout : Layout
  pub volume : IsVolume s.cells s.image layout
  pub kept : IsKept s.cells s.image layout (document_of n id body)
  pub just : ListsJust (RestsOn s.cells s.image layout (document_of n id body)) s.image listed later

-- Some: kept at exit, by just the cells that are listed. None: not kept at entry. Want of memory is free.
abbrev pub KeptListEnds : ℕ → List ℕ → ViewState → ViewState → List (ℕ × List ℕ) → List (ℕ × List ℕ)
    → Result (Option ℕ) AskFault → Type 0
KeptListEnds n id old new listed later (Ok (Some bytes)) =
    IsTrue old.base.tells → IsKeptListed new n id bytes listed later
KeptListEnds n id old new listed later (Ok None) = IsTrue old.base.tells → KeepsNone old n id
KeptListEnds n id old new listed later (Err ReadFault) = Rose old.base.faults new.base.faults
KeptListEnds n id old new listed later (Err (NoMemory lack)) = ⊤

-- what listing does, once it was asked whether the document is kept
pub record ListsKept (n : ℕ) (id : List ℕ) (old new : ViewState) (listed later : List (ℕ × List ℕ))
    (result : Result (Option ℕ) AskFault) : Type 0 where
  pub viewed : Viewed old new
  pub ends : KeptListEnds n id old new listed later result
