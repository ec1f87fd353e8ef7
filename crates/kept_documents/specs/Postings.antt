-- Whether the postings of a document have their trails, as a call over a view answers it.
use Rattle.std.specs.Prelude.{◌≡◌, ◌<◌, ℕ, Bool, true, false, List, slice_get, Option, Some, Result, Ok, Err, IsTrue, ⊤}
use Rattle.cell_types.specs.Layout.{Layout, all_lists, list_at, pool_at}
use Rattle.volume_meaning.specs.Blocks.{PostingFields}
use Rattle.volume_meaning.specs.Postings.{HasPostings, IsPostingOf, ListedPosting}
use Rattle.worm_device.specs.Counts.{Rose}
use Rattle.worm_device.specs.Views.{ViewState, Viewed}
use Rattle.worm_device.specs.declared.device.Failed.{Failed}
use Rattle.kept_documents.specs.Trails.{AsksTrail, HasTrailFrom}
use Rattle.kept_documents.specs.declared.fault.AskFault.{AskFault}
use Rattle.kept_documents.specs.declared.fault.AskFault.TheVariants.{NoMemory, ReadFault}

-- each posting's list is one of so many
abbrev pub AreOfLists : ℕ → List ListedPosting → Type 0
AreOfLists lists rows = (i : ℕ) (row : ListedPosting) → slice_get rows i ≡ Some row → row.list < lists

-- the posting has a trail from its list's first block
abbrev pub IsTrailed : Layout → ViewState → ListedPosting → Type 0
IsTrailed g s row = HasTrailFrom (pool_at g) s (list_at g row.list) row.posting

-- asking for one posting
abbrev pub AsksRow : Layout → ListedPosting → ViewState → ViewState → Result Bool Failed → Type 0
AsksRow g row = AsksTrail (pool_at g) (list_at g row.list) row.posting

-- Yes: each has one at exit. No: some one had none at entry.
abbrev pub RowsAnswer : Layout → List ListedPosting → ViewState → ViewState → Result Bool Failed → Type 0
RowsAnswer g rows old new (Ok true) =
    IsTrue old.base.tells → (i : ℕ) (row : ListedPosting) → slice_get rows i ≡ Some row → IsTrailed g new row
RowsAnswer g rows old new (Ok false) =
    (i : ℕ) × (row : ListedPosting) × (slice_get rows i ≡ Some row) × (IsTrue old.base.tells → IsTrailed g old row → ⊥)
RowsAnswer g rows old new (Err failed) = Rose old.base.faults new.base.faults

pub record AsksRows (g : Layout) (rows : List ListedPosting) (old new : ViewState) (result : Result Bool Failed)
    : Type 0 where
  pub viewed : Viewed old new
  pub ends : RowsAnswer g rows old new result

-- the postings before this one have their trails
pub record RowsSoFar (g : Layout) (rows : List ListedPosting) (count : ℕ) (old now : ViewState) : Type 0 where
  pub viewed : Viewed old now
  pub each : IsTrue old.base.tells → (i : ℕ) (row : ListedPosting) → i < count → slice_get rows i ≡ Some row
      → IsTrailed g now row

-- each posting of slot n's document, which has this stamp, has a trail
abbrev pub AreTrailed : Layout → ℕ → List ℕ → Option ℕ → ViewState → Type 0
AreTrailed g n body stamp s =
    (l : ℕ) (p : PostingFields) → l < all_lists g → IsPostingOf g stamp body n l p
    → HasTrailFrom (pool_at g) s (list_at g l) p

-- Yes: the postings exist, and have their trails at exit. No: not so at entry. Want of memory is free.
abbrev pub PostingsAnswer : Layout → ℕ → List ℕ → Option ℕ → ViewState → ViewState → Result Bool AskFault → Type 0
PostingsAnswer g n body stamp old new (Ok true) =
    HasPostings g body × (IsTrue old.base.tells → AreTrailed g n body stamp new)
PostingsAnswer g n body stamp old new (Ok false) =
    IsTrue old.base.tells → HasPostings g body → AreTrailed g n body stamp old → ⊥
PostingsAnswer g n body stamp old new (Err ReadFault) = Rose old.base.faults new.base.faults
PostingsAnswer g n body stamp old new (Err (NoMemory lack)) = ⊤

pub record AsksPostings (g : Layout) (n : ℕ) (body : List ℕ) (stamp : Option ℕ) (old new : ViewState)
    (result : Result Bool AskFault) : Type 0 where
  pub viewed : Viewed old new
  pub ends : PostingsAnswer g n body stamp old new result
