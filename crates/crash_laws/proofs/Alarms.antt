-- What is named as evidence of tampering was broken in the log, or in the volume as settling has left it, and none is.
use Rattle.std.specs.Prelude.{ℕ, List, IsTrue, Option}
use Rattle.cell_types.specs.declared.refusal.Evidence.{Evidence}
use Rattle.worm_device.specs.Counts.{IsStill}
use Rattle.worm_device.specs.State.{DeviceState, IsDevice}
use Rattle.commit_record.specs.Licences.{IsLicensed}
use Rattle.recovery_engine.specs.declared.settling.Ready.{Ready}
use Rattle.ingest_engine.specs.Ingesting.{HasFreeSlot, IsIngestEvidence, among_stamps, behind_path, by_plan, by_settling, on_path}
use Rattle.ingest_engine.proofs.Named.{slot_still}
use Rattle.crash_laws.specs.SettlingSteadiness.{IsSteady}
use Rattle.crash_laws.proofs.SettlingAlarms.{looked_unbroken, settling_named}

module _ (old new : DeviceState) (e : Evidence) (device : IsDevice old) (device_new : IsDevice new)
    (tells : IsTrue old.tells) (still : IsStill old.foreign_writes new.foreign_writes) (steady : IsSteady old) where
  none_behind : {stamp : Option ℕ} (r : Ready) → HasFreeSlot stamp old new r → IsLicensed old new e → ⊥
  none_behind r slot licensed =
      looked_unbroken old new r e.rule e.cell device device_new tells slot.settled still steady
      (licensed.broken still)

  pub none_named : {id : List ℕ} {stamp : Option ℕ} {body : List ℕ} → IsIngestEvidence id stamp body old new e → ⊥
  none_named (by_settling settles found) = settling_named old new e device tells settles still steady
  none_named (by_plan way) = none_behind way.ready (slot_still way still) way.found.licensed
  none_named (among_stamps r slot given rule licensed) = none_behind r slot licensed
  none_named (on_path r slot past rule lies licensed) = none_behind r slot licensed
  none_named (behind_path r slot past growth licensed) = none_behind r slot licensed
