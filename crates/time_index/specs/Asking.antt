-- Whether the documents of the volume that a device holds are stamped, which cell 0 tells.
use Rattle.std.specs.Prelude.{◌≡◌, ◌≤◌, ◌+◌, ℕ, Result, Ok, Err, IsTrue}
use Rattle.cell_types.specs.Image.{Image, IsUnchanged}
use Rattle.cell_types.specs.Layout.{Layout, TakesNoStamps, TakesStamps}
use Rattle.cell_types.specs.declared.refusal.Refusal.{Refusal}
use Rattle.cell_types.specs.declared.refusal.Refusal.TheVariants.{DeviceFault, NoStamps, NotAVolume, NotFormatted, WrongSize}
use Rattle.volume_meaning.specs.Volumes.{IsVolume}
use Rattle.worm_device.specs.Calls.{Called}
use Rattle.worm_device.specs.Counts.{IsStill}
use Rattle.worm_device.specs.State.{DeviceState, IsDevice}
use Rattle.recovery_engine.specs.Settling.{SettleEnds}

-- a volume stands there whose documents are stamped
abbrev pub IsOfStamps : ℕ → Image → Type 0
IsOfStamps cells image = (g : Layout) × IsVolume cells image g × TakesStamps g

-- and one whose documents are not
abbrev pub IsWithoutStamps : ℕ → Image → Type 0
IsWithoutStamps cells image = (g : Layout) × IsVolume cells image g × TakesNoStamps g

-- How asking for it may end, and why: where there is no volume, as settling ends for that.
abbrev pub AskStampsEnd : DeviceState → DeviceState → Result Unit Refusal → Type 0
AskStampsEnd old new (Ok u) = (new.faults ≡ old.faults) × (IsTrue old.tells → IsOfStamps new.cells new.image)
AskStampsEnd old new (Err NoStamps) =
    (new.faults ≡ old.faults) × (IsTrue old.tells → IsWithoutStamps new.cells new.image)
AskStampsEnd old new (Err DeviceFault) = SettleEnds old new (Err DeviceFault)
AskStampsEnd old new (Err NotFormatted) = SettleEnds old new (Err NotFormatted)
AskStampsEnd old new (Err (NotAVolume found)) = SettleEnds old new (Err (NotAVolume found))
AskStampsEnd old new (Err (WrongSize stated real)) = SettleEnds old new (Err (WrongSize stated real))
AskStampsEnd old new (Err refusal) = ⊥

-- asking for it writes nothing, and costs one read at most
pub record AsksStamps (old new : DeviceState) (result : Result Unit Refusal) : Type 0 where
  pub device : IsDevice new
  pub called : Called old new
  pub quiet : IsStill old.foreign_writes new.foreign_writes → IsUnchanged old.image new.image
  pub reads : new.reads ≤ old.reads + 1
  pub ends : AskStampsEnd old new result
