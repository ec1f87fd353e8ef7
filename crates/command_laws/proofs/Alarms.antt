-- From a steady device, where nobody else writes, settling names no tampering, and no query does.
use Rattle.std.proofs.Common.{◌≡◌, Result, Err, subst}
use Rattle.std.specs.Prelude.{IsTrue}
use Rattle.cell_types.specs.declared.refusal.Evidence.{Evidence}
use Rattle.cell_types.specs.declared.refusal.Refusal.{Refusal}
use Rattle.cell_types.specs.declared.refusal.Refusal.TheVariants.{Tampered}
use Rattle.worm_device.specs.Counts.{IsStill}
use Rattle.worm_device.specs.State.{DeviceState, IsDevice}
use Rattle.commit_record.specs.Licences.{IsLicensed}
use Rattle.recovery_engine.specs.Settling.{Settles, SettlesFirst, settled, settling}
use Rattle.crash_laws.specs.SettlingSteadiness.{IsSteady}
use Rattle.crash_laws.proofs.SettlingAlarms.{looked_unbroken, settling_named}
use Rattle.command_laws.proofs.Results.{one_refusal}

module _ (old new : DeviceState) (device : IsDevice old) (tells : IsTrue old.tells)
    (alone : IsStill old.foreign_writes new.foreign_writes) (steady : IsSteady old) where
  pub settling_alarms : (refusal : Refusal) (e : Evidence) → Settles old new (Err refusal) → refusal ≡ Tampered e → ⊥
  settling_alarms refusal e settles same = settling_named old new e device tells
      (subst (λ (r : Refusal). Settles old new (Err r)) same settles) alone steady

  pub query_alarms : {X : Type 0} {answer : Result X Refusal} → IsDevice new → SettlesFirst X old new answer
      → (e : Evidence) → answer ≡ Err (Tampered e) → IsLicensed old new e → ⊥
  query_alarms {X} {answer} device_new (settling refusal is settles) e named found =
      settling_alarms refusal e settles (one_refusal answer refusal (Tampered e) is named)
  query_alarms device_new (settled r has) e named found =
      looked_unbroken old new r e.rule e.cell device device_new tells has alone steady (found.broken alone)
