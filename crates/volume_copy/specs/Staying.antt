-- What a crash leaves of a copy on either device, from a steady one on, where nobody else writes.
use Rattle.std.specs.Prelude.{◌≤◌, ◌⊎◌, ℕ}
use Rattle.cell_types.specs.Image.{Image}
use Rattle.tamper_rules.specs.Settling.{IsBlankOrSound}
use Rattle.worm_device.specs.State.{DeviceState, LeftSince}
use Rattle.crash_laws.specs.SettlingSteadiness.{IsSteady}
use Rattle.command_laws.specs.Begins.{BeginsSteady}
use Rattle.command_laws.specs.Telling.{LeavesHeld}

-- Whatever a crash could leave from old on, and could not before, has no written cell or is sound; and the device is steady
-- behind it.
pub record StaysSound (old new : DeviceState) : Type 0 where
  pub crashes : (since : ℕ) (image : Image) → since ≤ old.moment → LeftSince new since image
      → LeftSince old since image ⊎ IsBlankOrSound old.cells image
  pub steady : IsSteady new

-- so it is from a steady device on
abbrev pub IsSoundThroughout : DeviceState → DeviceState → Type 0
IsSoundThroughout old new = BeginsSteady old new → StaysSound old new

-- Calls that add no document, from a steady device on, leave the documents that it held, and so does a crash in them.
abbrev pub IsHeldThroughout : DeviceState → DeviceState → Type 0
IsHeldThroughout old new = BeginsSteady old new → LeavesHeld old new
