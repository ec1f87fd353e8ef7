-- The command `recover`: it settles the volume, and says what it did.
use Rattle.std.specs.Prelude.{◌≡◌, ℕ, List, codes, Result, Ok, Err, IsTrue, ⊤}
use Rattle.cell_types.specs.Layout.{Layout}
use Rattle.cell_types.specs.declared.refusal.Refusal.{Refusal}
use Rattle.tamper_rules.specs.Settling.{Sound}
use Rattle.worm_device.specs.Counts.{IsStill}
use Rattle.worm_device.specs.State.{DeviceState}
use Rattle.recovery_engine.specs.Settling.{IsSettlingRule, Settles}
use Rattle.recovery_engine.specs.declared.settling.Ready.{Ready}
use Rattle.recovery_engine.specs.declared.settling.Step.{Step}
use Rattle.crash_laws.specs.SettlingSteadiness.{EndsAs}
use Rattle.recovery_engine.specs.declared.settling.Step.TheVariants.{Nothing, Abandoned, Completed}
use Rattle.command_line.specs.Lines.{slot_line}
use Rattle.volume_commands.specs.Ports.{Ports, Tells}
use Rattle.command_laws.specs.WholeLogs.{HasWholeLog}

-- the text that tells of a step
abbrev pub step_text : Step → List ℕ
step_text Nothing = codes "nothing to settle\n"
step_text (Abandoned n) = slot_line (codes "slot ") n (codes " abandoned\n")
step_text (Completed n) = slot_line (codes "slot ") n (codes " completed\n")

-- the text that tells of a settled volume
abbrev pub recovered : Ready → List ℕ
recovered ready = step_text ready.step

-- Where nobody else writes, a sound volume becomes just what settling makes of it; all of it is sure, and the step is
-- the one of its last slot.
abbrev pub MakesWhole : DeviceState → DeviceState → Result Ready Refusal → Type 0
MakesWhole old new (Ok r) =
    IsTrue old.tells → IsStill old.foreign_writes new.foreign_writes → (sound : Sound old.cells old.image)
    → EndsAs old new sound.after r.step
MakesWhole old new (Err refusal) = ⊤

-- What the command does: the volume is settled, or that is ended, as the engine says, and its answer is told. It takes
-- no memory.
pub record DoesRecover (old new : Ports) (result : Result Unit Refusal) : Type 0 where
  pub answer : Result Ready Refusal
  pub settles : Settles old.device new.device answer
  pub makes : MakesWhole old.device new.device answer
  pub source : new.source ≡ old.source
  pub tells : Tells recovered answer old new result

-- all is as the command wants it
pub record IsReadyToRecover (g : Layout) (old new : Ports) : Type 0 where
  pub log : HasWholeLog IsSettlingRule g old.device new.device
  pub no_sink_fault : IsStill old.sink.faults new.sink.faults
