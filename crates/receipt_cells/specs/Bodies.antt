-- What listing the cells of the trails of a slot's document does, whose body is read first.
use Rattle.std.specs.Prelude.{ℕ, List, Option, Result, Ok, Err, IsTrue, ⊤}
use Rattle.cell_types.specs.Layout.{Layout}
use Rattle.volume_meaning.specs.Postings.{HasPostings}
use Rattle.volume_meaning.specs.Slots.{IsStampOf}
use Rattle.worm_device.specs.Counts.{Rose}
use Rattle.worm_device.specs.Views.{ViewState, Viewed}
use Rattle.document_store.specs.Standing.{HoldsDocument}
use Rattle.kept_documents.specs.Postings.{AreTrailed}
use Rattle.kept_documents.specs.declared.fault.AskFault.{AskFault}
use Rattle.kept_documents.specs.declared.fault.AskFault.TheVariants.{NoMemory, ReadFault}
use Rattle.receipt_cells.specs.Needed.{ListsJust}
use Rattle.receipt_cells.specs.Postings.{IsOfPostings}

-- Where the slot had a stamp at entry, the postings of a document with this body and that stamp exist and had their
-- trails, the cells of these are listed, and no others.
abbrev pub StampedEnds : Layout → ℕ → List ℕ → ViewState → ViewState → List (ℕ × List ℕ) → List (ℕ × List ℕ)
    → Result Unit AskFault → Type 0
StampedEnds g n body old new listed later (Ok u) =
    IsTrue old.base.tells → (stamp : Option ℕ) → IsStampOf g old.image n stamp → HasPostings g body
    → AreTrailed g n body stamp old → ListsJust (IsOfPostings g old.cells new.image n body stamp) new.image listed later
StampedEnds g n body old new listed later (Err ReadFault) = Rose old.base.faults new.base.faults
StampedEnds g n body old new listed later (Err (NoMemory lack)) = ⊤

pub record ListsStamped (g : Layout) (n : ℕ) (body : List ℕ) (old new : ViewState) (listed later : List (ℕ × List ℕ))
    (result : Result Unit AskFault) : Type 0 where
  pub viewed : Viewed old new
  pub ends : StampedEnds g n body old new listed later result

-- the same of the document that the slot held at entry
abbrev pub BodyEnds : Layout → ℕ → ViewState → ViewState → List (ℕ × List ℕ) → List (ℕ × List ℕ) → Result Unit AskFault
    → Type 0
BodyEnds g n old new listed later (Ok u) =
    IsTrue old.base.tells → (id body : List ℕ) → HoldsDocument g old.image n id body → (stamp : Option ℕ)
    → IsStampOf g old.image n stamp → HasPostings g body → AreTrailed g n body stamp old
    → ListsJust (IsOfPostings g old.cells new.image n body stamp) new.image listed later
BodyEnds g n old new listed later (Err ReadFault) = Rose old.base.faults new.base.faults
BodyEnds g n old new listed later (Err (NoMemory lack)) = ⊤

-- what listing them does
pub record ListsBody (g : Layout) (n : ℕ) (old new : ViewState) (listed later : List (ℕ × List ℕ))
    (result : Result Unit AskFault) : Type 0 where
  pub viewed : Viewed old new
  pub ends : BodyEnds g n old new listed later result
