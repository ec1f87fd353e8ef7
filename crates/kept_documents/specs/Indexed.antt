-- Whether the index leads to a document, as a call over a view answers it.
use Rattle.std.specs.Prelude.{ℕ, Bool, true, false, List, Option, Result, Ok, Err, IsTrue, ⊤}
use Rattle.cell_types.specs.Layout.{Layout, root_at}
use Rattle.volume_meaning.specs.Slots.{IsStampOf}
use Rattle.volume_meaning.specs.Volumes.{IsVolume}
use Rattle.volume_meaning.specs.Postings.{HasPostings}
use Rattle.worm_device.specs.Counts.{Rose}
use Rattle.worm_device.specs.Views.{ViewState, Viewed}
use Rattle.kept_documents.specs.HashTrails.{HasHashTrail}
use Rattle.kept_documents.specs.Postings.{AreTrailed}
use Rattle.kept_documents.specs.declared.fault.AskFault.{AskFault}
use Rattle.kept_documents.specs.declared.fault.AskFault.TheVariants.{NoMemory, ReadFault}

-- What `IsKept` asks of a document besides that it stands: its postings exist, each of them has a trail, that of its
-- stamp too, and slot n has a hash trail.
pub record IsLedTo (g : Layout) (s : ViewState) (n : ℕ) (id body : List ℕ) : Type 0 where
  pub postings : HasPostings g body
  pub stamp : Option ℕ
  pub is_stamp : IsStampOf g s.image n stamp
  pub trails : AreTrailed g n body stamp s
  pub path : HasHashTrail g s id n (root_at g) 0

-- Yes: at exit. No: not at entry. Both are said where cell 0 stated this volume at entry. Want of memory is free.
abbrev pub IndexedAnswer : Layout → ℕ → List ℕ → List ℕ → ViewState → ViewState → Result Bool AskFault → Type 0
IndexedAnswer g n id body old new (Ok true) =
    IsTrue old.base.tells → IsVolume old.cells old.image g → IsLedTo g new n id body
IndexedAnswer g n id body old new (Ok false) =
    IsTrue old.base.tells → IsVolume old.cells old.image g → IsLedTo g old n id body → ⊥
IndexedAnswer g n id body old new (Err ReadFault) = Rose old.base.faults new.base.faults
IndexedAnswer g n id body old new (Err (NoMemory lack)) = ⊤

pub record AsksIndexed (g : Layout) (n : ℕ) (id body : List ℕ) (old new : ViewState) (result : Result Bool AskFault)
    : Type 0 where
  pub viewed : Viewed old new
  pub ends : IndexedAnswer g n id body old new result
