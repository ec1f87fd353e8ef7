-- Slots by the cells that they reserve.
use Rattle.std.specs.Prelude.{◌≡◌, ◌<◌, ◌≤◌, ℕ, List, Some, slice_get}
use Rattle.log_audit.specs.Logs.{FitsOnDevice, start_of, end_of}
use Rattle.log_audit.specs.declared.ended.EndedSlot.{EndedSlot}

-- these slots reserve cells of a device, and each later one cells behind those of each lower one
pub record AreInRow (slots : List EndedSlot) : Type 0 where
  pub room : (n : ℕ) (slot : EndedSlot) → slice_get slots n ≡ Some slot → FitsOnDevice slot
  pub follow : (m n : ℕ) (lower upper : EndedSlot) → slice_get slots m ≡ Some lower → slice_get slots n ≡ Some upper
      → m < n → end_of lower ≤ start_of upper

-- slot n of these reserves the cell
pub record HasCell (slots : List EndedSlot) (n cell : ℕ) : Type 0 where
  pub slot : EndedSlot
  pub stands : slice_get slots n ≡ Some slot
  pub from : start_of slot ≤ cell
  pub below : cell < end_of slot
