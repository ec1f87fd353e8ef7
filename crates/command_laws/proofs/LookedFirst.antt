-- A command that looks first, and writes nothing in that: what is said of the rest of it holds of the whole.
use Rattle.std.proofs.Common.{◌≡◌, ℕ, List, sym, subst}
use Rattle.std.specs.Prelude.{IsTrue}
use Rattle.cell_types.specs.Image.{Image, IsUnchanged}
use Rattle.cell_types.specs.Layout.{Layout}
use Rattle.volume_meaning.specs.Documents.{Document}
use Rattle.volume_meaning.proofs.Extending.{volume_on}
use Rattle.volume_meaning.specs.Volumes.{IsVolume}
use Rattle.tamper_rules.specs.Settling.{Held}
use Rattle.tamper_rules.proofs.Images.{same_image}
use Rattle.worm_device.specs.Calls.{Called}
use Rattle.worm_device.specs.Counts.{IsStill}
use Rattle.worm_device.specs.State.{DeviceState, IsDevice}
use Rattle.worm_device.proofs.Counting.{still_first, still_second}
use Rattle.crash_laws.specs.SettlingSteadiness.{StaysSteady}
use Rattle.command_laws.specs.Begins.{BeginsSteady}
use Rattle.command_laws.specs.Telling.{LeavesHeld}
use Rattle.command_laws.specs.WholeLogs.{HasSteadyVolume}
use Rattle.command_laws.proofs.Formatting.{quiet_steady}
use Rattle.command_laws.proofs.LeavesThen.{leaves_then}

module _ (old mid new : DeviceState) (device : IsDevice old) (first : Called old mid) (second : Called mid new)
    (quiet : IsStill old.foreign_writes mid.foreign_writes → IsUnchanged old.image mid.image) where
  module _ (begins : BeginsSteady old new) where
    alone_first : IsStill old.foreign_writes mid.foreign_writes
    alone_first = still_first first.foreign_writes second.foreign_writes begins.alone

    pub same_mid : mid.image ≡ old.image
    same_mid = same_image (quiet alone_first)

    stays_mid : StaysSteady old mid
    stays_mid = quiet_steady old mid device begins.steady first same_mid

    -- the rest begins so, too
    pub begins_mid : BeginsSteady mid new
    begins_mid = record {
      tells = subst IsTrue (sym first.tells) begins.tells;
      steady = stays_mid.steady;
      alone = still_second first.foreign_writes second.foreign_writes begins.alone;
    }

    -- what was held is held
    pub held_mid : (documents : List Document) → Held old.cells old.image documents → Held mid.cells mid.image documents
    held_mid documents held = subst (λ (k : ℕ). Held k mid.image documents) (sym first.cells)
        (subst (λ (i : Image). Held old.cells i documents) (sym same_mid) held)

    module _ (device_mid : IsDevice mid) where
      -- the look leaves what was held
      pub looked_leaves : LeavesHeld old mid
      looked_leaves = record { stays = stays_mid; keeps = held_mid }

      -- and the whole leaves what the rest leaves
      pub leaves_both : LeavesHeld mid new → LeavesHeld old new
      leaves_both = leaves_then device first begins.steady device_mid looked_leaves

  -- the volume on which the rest begins is as steady
  pub steady_mid : {g : Layout} → HasSteadyVolume g old new → HasSteadyVolume g mid new
  steady_mid {g} log =
      let begins : BeginsSteady old new = record { tells = log.tells; steady = log.is; alone = log.alone } in
      record {
        tells = (begins_mid begins).tells;
        volume = subst (λ (k : ℕ). IsVolume k mid.image g) (sym first.cells) (volume_on first.image log.volume);
        is = (begins_mid begins).steady;
        alone = (begins_mid begins).alone;
        no_fault = still_second first.faults second.faults log.no_fault;
      }
