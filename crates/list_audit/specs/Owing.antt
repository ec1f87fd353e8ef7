-- Which postings the documents of a volume are to have.
use Rattle.std.specs.Prelude.{◌≡◌, ◌<◌, ◌+◌, ◌↔◌, ℕ, List, Option}
use Rattle.cell_types.specs.Image.{Image}
use Rattle.cell_types.specs.Layout.{Layout, all_lists}
use Rattle.document_store.specs.Standing.{HoldsDocument}
use Rattle.volume_meaning.specs.Blocks.{PostingFields, posting_record}
use Rattle.volume_meaning.specs.Postings.{HasPostings, IsPostingOf}
use Rattle.volume_meaning.specs.Slots.{IsStampOf}
use Rattle.volume_meaning.specs.Volumes.{Holds}
use Rattle.list_audit.specs.Tables.{FitsRow, HasRow}

-- the posting is one of a document's, in list l
pub record IsPostingOwed (g : Layout) (image : Image) (l : ℕ) (p : PostingFields) : Type 0 where
  pub list : l < all_lists g
  pub slot : ℕ
  pub id : List ℕ
  pub body : List ℕ
  pub holds : HoldsDocument g image slot id body
  pub postings : HasPostings g body
  pub stamp : Option ℕ
  pub is_stamp : IsStampOf g image slot stamp
  pub is : IsPostingOf g stamp body slot l p

-- these are the postings of the documents of the slots below n
abbrev pub AreOwed : Layout → Image → ℕ → List (ℕ × List ℕ) → Type 0
AreOwed g image n rows =
    (l : ℕ) (p : PostingFields) → FitsRow l p → (HasRow rows l p ↔ ((o : IsPostingOwed g image l p) × (o.slot < n)))

-- the postings of each document of the slots below n exist
abbrev pub AllExist : Layout → Image → ℕ → Type 0
AllExist g image n = (m : ℕ) (id body : List ℕ) → m < n → HoldsDocument g image m id body → HasPostings g body

-- a posting at this place of a block of list l is one of a document's
abbrev pub KeepsPostingRule : Layout → Image → ℕ → ℕ → ℕ → Type 0
KeepsPostingRule g image l block place = (p : PostingFields) → Holds image (block + place) (posting_record p)
    → IsPostingOwed g image l p

-- what rule 9 asks of a cell on account of this block
abbrev pub BlockOwes : Layout → Image → ℕ → ℕ → ℕ → Type 0
BlockOwes g image l block cell =
    (place : ℕ) → place < 128 → cell ≡ block + place → KeepsPostingRule g image l block place
