-- What listing the cells of the trails of a document's postings does.
use Rattle.std.specs.Prelude.{◌≡◌, ◌<◌, ℕ, List, slice_get, Option, Some, Result, Ok, Err, IsTrue, ⊤}
use Rattle.cell_types.specs.Image.{Image}
use Rattle.cell_types.specs.Layout.{Layout, all_lists, list_at, pool_at}
use Rattle.volume_meaning.specs.Blocks.{PostingFields}
use Rattle.volume_meaning.specs.Postings.{HasPostings, IsPostingOf, ListedPosting}
use Rattle.worm_device.specs.Counts.{Rose}
use Rattle.worm_device.specs.Views.{ViewState, Viewed}
use Rattle.kept_documents.specs.Postings.{AreTrailed, IsTrailed}
use Rattle.kept_documents.specs.declared.fault.AskFault.{AskFault}
use Rattle.kept_documents.specs.declared.fault.AskFault.TheVariants.{NoMemory, ReadFault}
use Rattle.receipt_cells.specs.Needed.{ListsJust}
use Rattle.receipt_cells.specs.Trails.{ListsTrail, TrailCells}

-- the cells of one posting's trail
abbrev pub RowCells : Layout → ℕ → Image → ListedPosting → ℕ → Type 0
RowCells g cells image row c = TrailCells (pool_at g) cells image (list_at g row.list) row.posting c

-- cell c is one of the trail of a posting before this one
pub record IsOfRows (g : Layout) (cells : ℕ) (image : Image) (rows : List ListedPosting) (count c : ℕ) : Type 0 where
  pub i : ℕ
  pub row : ListedPosting
  pub before : i < count
  pub here : slice_get rows i ≡ Some row
  pub rests : RowCells g cells image row c

-- each posting had a trail
abbrev pub AreRowsTrailed : Layout → List ListedPosting → ViewState → Type 0
AreRowsTrailed g rows s = (i : ℕ) (row : ListedPosting) → slice_get rows i ≡ Some row → IsTrailed g s row

-- listing the cells of one posting's trail
abbrev pub ListsRow : Layout → ListedPosting → ViewState → ViewState → List (ℕ × List ℕ) → List (ℕ × List ℕ)
    → Result Unit AskFault → Type 0
ListsRow g row = ListsTrail (pool_at g) (list_at g row.list) row.posting

-- the cells of the trails of the postings before this one are listed
pub record RowsSoFar (g : Layout) (rows : List ListedPosting) (count : ℕ) (old now : ViewState)
    (listed later : List (ℕ × List ℕ)) : Type 0 where
  pub viewed : Viewed old now
  pub lists : IsTrue old.base.tells → AreRowsTrailed g rows old
      → ListsJust (IsOfRows g old.cells now.image rows count) now.image listed later

-- where each had a trail at entry, the cells of these are listed
abbrev pub RowsEnds : Layout → List ListedPosting → ViewState → ViewState → List (ℕ × List ℕ) → List (ℕ × List ℕ)
    → Result Unit AskFault → Type 0
RowsEnds g rows old new listed later (Ok u) =
    IsTrue old.base.tells → AreRowsTrailed g rows old → (count : ℕ) × ((i : ℕ) (row : ListedPosting)
    → slice_get rows i ≡ Some row → i < count) × ListsJust (IsOfRows g old.cells new.image rows count) new.image listed later
RowsEnds g rows old new listed later (Err ReadFault) = Rose old.base.faults new.base.faults
RowsEnds g rows old new listed later (Err (NoMemory lack)) = ⊤

pub record ListsRows (g : Layout) (rows : List ListedPosting) (old new : ViewState) (listed later : List (ℕ × List ℕ))
    (result : Result Unit AskFault) : Type 0 where
  pub viewed : Viewed old new
  pub ends : RowsEnds g rows old new listed later result

-- cell c is one of the trail of a posting of slot n's document, which has this stamp
pub record IsOfPostings (g : Layout) (cells : ℕ) (image : Image) (n : ℕ) (body : List ℕ) (stamp : Option ℕ) (c : ℕ)
    : Type 0 where
  pub list : ℕ
  pub posting : PostingFields
  pub lists : list < all_lists g
  pub is : IsPostingOf g stamp body n list posting
  pub rests : TrailCells (pool_at g) cells image (list_at g list) posting c

-- where the postings exist and had their trails at entry, the cells of these are listed
abbrev pub PostingsEnds : Layout → ℕ → List ℕ → Option ℕ → ViewState → ViewState → List (ℕ × List ℕ)
    → List (ℕ × List ℕ) → Result Unit AskFault → Type 0
PostingsEnds g n body stamp old new listed later (Ok u) =
    IsTrue old.base.tells → HasPostings g body → AreTrailed g n body stamp old
    → ListsJust (IsOfPostings g old.cells new.image n body stamp) new.image listed later
PostingsEnds g n body stamp old new listed later (Err ReadFault) = Rose old.base.faults new.base.faults
PostingsEnds g n body stamp old new listed later (Err (NoMemory lack)) = ⊤

pub record ListsPostings (g : Layout) (n : ℕ) (body : List ℕ) (stamp : Option ℕ) (old new : ViewState)
    (listed later : List (ℕ × List ℕ)) (result : Result Unit AskFault) : Type 0 where
  pub viewed : Viewed old new
  pub ends : PostingsEnds g n body stamp old new listed later result
