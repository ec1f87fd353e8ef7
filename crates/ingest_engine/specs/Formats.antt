-- What formatting a device does.
use Rattle.std.specs.Prelude.{◌≡◌, ◌<◌, ◌≤◌, ℕ, List, Some, None, Result, Ok, Err, IsOk, IsTrue}
use Rattle.cell_types.specs.Image.{Image, ChangesOnly, IsUnchanged}
use Rattle.cell_types.specs.Layout.{Layout, IsLayout}
use Rattle.cell_types.specs.Records.{record_bytes}
use Rattle.cell_types.specs.declared.refusal.Refusal.{Refusal}
use Rattle.cell_types.specs.declared.refusal.Refusal.TheVariants.{DeviceFault, NotBlank, TooSmall}
use Rattle.volume_meaning.specs.Volumes.{volume_record}
use Rattle.worm_device.specs.Calls.{Called}
use Rattle.worm_device.specs.Counts.{Rose, IsStill}
use Rattle.worm_device.specs.State.{DeviceState}

-- the volume cell that states this layout
abbrev pub volume_cell : Layout → List ℕ
volume_cell g = record_bytes (volume_record g) 0

-- each cell below this one is blank
pub record IsBlankBelow (n : ℕ) (image : Image) : Type 0 where
  pub blank : (cell : ℕ) → cell < n → image cell ≡ None

-- This cell is written at the end. Where nobody else wrote it was written before, and is the least such cell.
pub record IsLeastWritten (at : ℕ) (old new : DeviceState) : Type 0 where
  pub found : List ℕ
  pub stands : new.image at ≡ Some found
  pub stood : IsStill old.foreign_writes new.foreign_writes → old.image at ≡ Some found
  pub least : IsBlankBelow at old.image

-- How a look for written cells may end, and why. Each cell is read.
abbrev pub BlankLookEnds : DeviceState → DeviceState → Result Unit Refusal → Type 0
BlankLookEnds old new (Ok _) =
    (IsTrue old.tells → IsBlankBelow old.cells old.image)
    × (new.faults ≡ old.faults) × (1 ≤ old.cells → Rose old.reads new.reads)
BlankLookEnds old new (Err DeviceFault) = Rose old.faults new.faults
BlankLookEnds old new (Err (NotBlank at)) = IsTrue old.tells → IsLeastWritten at old new
BlankLookEnds old new (Err refusal) = ⊥

-- a look for written cells changes nothing
pub record Looks (old new : DeviceState) (result : Result Unit Refusal) : Type 0 where
  pub called : Called old new
  pub only : IsStill old.foreign_writes new.foreign_writes → IsUnchanged old.image new.image
  pub ends : BlankLookEnds old new result

-- How a blank device gets this as cell 0, and why it does not.
abbrev pub VolumeCellEnds : List ℕ → DeviceState → DeviceState → Result Unit Refusal → Type 0
VolumeCellEnds value old new (Ok _) =
    (IsTrue old.tells → new.sure 0 ≡ Some value) × (IsTrue old.tells → IsBlankBelow old.cells old.image)
VolumeCellEnds value old new (Err DeviceFault) = Rose old.faults new.faults
VolumeCellEnds value old new (Err (NotBlank at)) =
    (IsTrue old.tells → IsLeastWritten at old new)
    × (IsTrue old.tells → IsStill old.foreign_writes new.foreign_writes → IsUnchanged old.image new.image)
VolumeCellEnds value old new (Err refusal) = ⊥

-- How formatting may end, and why: a layout that can't be is `TooSmall`, and a written cell `NotBlank`.
abbrev pub FormatEnds : Layout → DeviceState → DeviceState → Result Unit Refusal → Type 0
FormatEnds g old new (Ok _) =
    IsLayout g × (IsTrue old.tells → new.sure 0 ≡ Some (volume_cell g))
    × (IsTrue old.tells → IsBlankBelow old.cells old.image)
FormatEnds g old new (Err TooSmall) = (IsLayout g → ⊥) × (new ≡ old)
FormatEnds g old new (Err DeviceFault) = IsLayout g × Rose old.faults new.faults
FormatEnds g old new (Err (NotBlank at)) =
    IsLayout g × (IsTrue old.tells → IsLeastWritten at old new)
    × (IsTrue old.tells → IsStill old.foreign_writes new.foreign_writes → IsUnchanged old.image new.image)
FormatEnds g old new (Err refusal) = ⊥

-- What it means that a device was formatted, or that this was ended. Where it is done the cells were read, and no call
-- of the device has failed.
pub record Formats (g : Layout) (old new : DeviceState) (result : Result Unit Refusal) : Type 0 where
  pub called : Called old new
  pub unfailed : IsOk result → new.faults ≡ old.faults
  pub read : IsOk result → Rose old.reads new.reads
  pub only : IsStill old.foreign_writes new.foreign_writes → ChangesOnly 0 (volume_cell g) old.image new.image
  pub ends : FormatEnds g old new result
