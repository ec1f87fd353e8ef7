-- Which stamp a slot has, as a call over a view answers it.
use Rattle.std.specs.Prelude.{ℕ, Option, Some, None, Result, Ok, Err, IsTrue}
use Rattle.cell_types.specs.Layout.{Layout}
use Rattle.volume_meaning.specs.Slots.{IsStampOf}
use Rattle.worm_device.specs.Counts.{Rose}
use Rattle.worm_device.specs.Views.{ViewState, Viewed}
use Rattle.worm_device.specs.declared.device.Failed.{Failed}
use Rattle.term_tags.specs.Listing.{MayHaveStamp}
use Rattle.kept_documents.specs.declared.stamps.SlotStamp.{SlotStamp}

-- Some: the slot's stamp at exit, which the volume's documents may have. None: the slot had no stamp at entry.
abbrev pub StampAnswer : Layout → ℕ → ViewState → ViewState → Result (Option SlotStamp) Failed → Type 0
StampAnswer g n old new (Ok (Some stamp)) =
    MayHaveStamp g stamp.seconds × (IsTrue old.base.tells → IsStampOf g new.image n stamp.seconds)
StampAnswer g n old new (Ok None) = IsTrue old.base.tells → (stamp : Option ℕ) → IsStampOf g old.image n stamp → ⊥
StampAnswer g n old new (Err failed) = Rose old.base.faults new.base.faults

pub record AsksStamp (g : Layout) (n : ℕ) (old new : ViewState) (result : Result (Option SlotStamp) Failed)
    : Type 0 where
  pub viewed : Viewed old new
  pub ends : StampAnswer g n old new result
