-- A volume on which nothing hinders a command that reads and writes its log.
use Rattle.std.specs.Prelude.{ℕ, IsTrue}
use Rattle.cell_types.specs.Layout.{Layout}
use Rattle.volume_meaning.specs.Volumes.{IsVolume}
use Rattle.tamper_rules.specs.Rules.{IsBroken}
use Rattle.worm_device.specs.Counts.{IsStill}
use Rattle.worm_device.specs.State.{DeviceState}
use Rattle.crash_laws.specs.SettlingSteadiness.{IsSteady}

-- Nothing can be named as evidence: whatever a crash leaves of the device is blank or sound, as each command leaves it
-- where nobody else writes; or, whoever has written, none of the rules that are looked at is broken at any cell.
pub data IsUntampered (IsLookedAt : ℕ → Type 0) (s : DeviceState) : Type 0 where
  steady : IsSteady s → IsUntampered IsLookedAt s
  unbroken : ((number cell : ℕ) → IsLookedAt number → IsBroken s.cells s.image number cell → ⊥)
      → IsUntampered IsLookedAt s

-- The device holds a volume of this layout, and whatever a crash leaves of it is blank or sound. Nobody else writes,
-- and no call of the device fails.
pub record HasSteadyVolume (g : Layout) (old new : DeviceState) : Type 0 where
  pub tells : IsTrue old.tells
  pub volume : IsVolume old.cells old.image g
  pub is : IsSteady old
  pub alone : IsStill old.foreign_writes new.foreign_writes
  pub no_fault : IsStill old.faults new.faults

-- The device holds a volume of this layout, and nothing there can be named. Nobody else writes, and no call of the
-- device fails.
pub record HasWholeLog (IsLookedAt : ℕ → Type 0) (g : Layout) (old new : DeviceState) : Type 0 where
  pub tells : IsTrue old.tells
  pub volume : IsVolume old.cells old.image g
  pub untampered : IsUntampered IsLookedAt old
  pub alone : IsStill old.foreign_writes new.foreign_writes
  pub no_fault : IsStill old.faults new.faults
