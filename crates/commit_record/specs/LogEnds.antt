-- What it means that the log ends at a slot.
use Rattle.std.specs.Prelude.{◌≡◌, ◌≤◌, ◌+◌, ◌-◌, ◌↔◌, ℕ, List, Option, Result, Ok, Err, IsNone, IsTrue}
use Rattle.cell_types.specs.Image.{Image}
use Rattle.cell_types.specs.Layout.{Layout, reserve_at}
use Rattle.volume_meaning.specs.Slots.{IsHorizon}
use Rattle.volume_meaning.specs.Volumes.{IsWritten}
use Rattle.worm_device.specs.Counts.{Rose}
use Rattle.worm_device.specs.Views.{ViewState}
use Rattle.worm_device.specs.declared.device.Failed.{Failed}
use Rattle.commit_record.specs.declared.log_end.LogEnd.{LogEnd}

-- u is a horizon, as seen between two images; and where the last slot was taken it is the number of slots
pub record IsLogEnd (g : Layout) (before after : Image) (u : ℕ) : Type 0 where
  pub horizon : IsHorizon g before after u
  pub full : IsWritten before (reserve_at (g.slots - 1)) → u ≡ g.slots

-- how a look for the horizon may end, and why
abbrev pub HorizonEnds : Layout → ViewState → ViewState → Result ℕ Failed → Type 0
HorizonEnds g old new (Ok u) =
    (u ≤ g.slots) × (new.base.faults ≡ old.base.faults)
    × (IsTrue old.base.tells → IsLogEnd g old.image new.image u)
HorizonEnds g old new (Err failed) = Rose old.base.faults new.base.faults

-- the last reserve cell below the horizon u stands in the image
abbrev pub IsLastReserve : Image → ℕ → Option (List ℕ) → Type 0
IsLastReserve image u last = (n : ℕ) → u ≡ n + 1 → image (reserve_at n) ≡ last

-- How a look for the end of the log may end, and why. Over every view a reserve cell is handed over unless the horizon
-- is 0.
abbrev pub LogEndEnds : Layout → ViewState → ViewState → Result LogEnd Failed → Type 0
LogEndEnds g old new (Ok log) =
    (log.horizon ≤ g.slots) × (new.base.faults ≡ old.base.faults) × (IsNone log.last ↔ (log.horizon ≡ 0))
    × (IsTrue old.base.tells
    → IsLogEnd g old.image new.image log.horizon × IsLastReserve new.image log.horizon log.last)
LogEndEnds g old new (Err failed) = Rose old.base.faults new.base.faults
