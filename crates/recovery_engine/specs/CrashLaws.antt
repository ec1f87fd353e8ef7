-- What a crash in the middle of settling leaves of the slot that is ended, where nobody else writes.
use Rattle.std.specs.Prelude.{◌≤◌, ℕ}
use Rattle.cell_types.specs.Image.{Image}
use Rattle.cell_types.specs.Layout.{Layout, IsLayout}
use Rattle.worm_device.specs.Counts.{IsStill}
use Rattle.worm_device.specs.State.{DeviceState}
use Rattle.recovery_engine.specs.Putting.{LeavesPhases}
use Rattle.commit_record.specs.States.{IsState}
use Rattle.commit_record.specs.declared.slot.SlotState.{SlotState}
use Rattle.commit_record.specs.declared.slot.SlotState.TheVariants.{Abandoned, Committed, Done, Reserved}
use Rattle.recovery_engine.specs.Ending.{HasJournal}
use Rattle.recovery_engine.specs.Settling.{settle_plan}

-- what becomes of a state by settling: the same, or its ending
pub data BecomesOf : SlotState → SlotState → Type 0 where
  same : (state : SlotState) → BecomesOf state state
  given_up : (start length : ℕ) → BecomesOf (Reserved start length) (Abandoned start length)
  finished : (start length bytes journal : ℕ)
      → BecomesOf (Committed start length bytes journal) (Done start length bytes journal)

-- This image is left by a crash once the first sync of settling was made, while slot n was ended by its state.
pub record IsLeftBySettling (g : Layout) (n : ℕ) (state : SlotState) (image : Image) : Type 0 where
  pub old : DeviceState
  pub new : DeviceState
  pub layout : IsLayout g
  pub is : IsState g old.image old.image n state
  pub journal : HasJournal g state old.image
  pub leaves : LeavesPhases (settle_plan old.image n state) 3 old new image
  pub synced : 1 ≤ leaves.phase
  pub alone : IsStill old.foreign_writes new.foreign_writes

-- then the slot is in its state still, or in the one that ends it
abbrev pub SettlingKeepsStates : Type 0
SettlingKeepsStates =
    (g : Layout) (n : ℕ) (state : SlotState) (image : Image) → IsLeftBySettling g n state image
    → (left : SlotState) × BecomesOf state left × IsState g image image n left
