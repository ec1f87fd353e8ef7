-- How an ingest and a settling end: over what every call of the device keeps, and never with `Usage`.
use Rattle.std.proofs.Common.{◌≡◌, ℕ, List, Option, Result, Ok, Err, refl, subst, sym, ap}
use Rattle.cell_types.specs.declared.refusal.Refusal.{Refusal}
use Rattle.cell_types.specs.declared.refusal.Refusal.TheVariants.{Usage, BadIdentifier}
use Rattle.worm_device.specs.Calls.{Called}
use Rattle.worm_device.specs.State.{DeviceState}
use Rattle.worm_device.proofs.Elapsing.{called_self}
use Rattle.recovery_engine.specs.Settling.{SettleEnds, Settles}
use Rattle.recovery_engine.specs.declared.settling.Ready.{Ready}
use Rattle.ingest_engine.specs.Ingesting.{IngestEnds}
use Rattle.volume_commands.specs.Ingesting.{DoesIngest, acknowledgement, misnamed, untaken, taken}
use Rattle.volume_commands.specs.Ports.{Ports, Tells}
use Rattle.volume_commands.specs.Recovering.{recovered}
use Rattle.volume_commands.specs.Taking.{refusal_of_body_fault}
use Rattle.volume_commands.specs.declared.body.BodyFault.{BodyFault}
use Rattle.volume_commands.specs.declared.body.BodyFault.TheVariants as faults
use Rattle.command_laws.proofs.Results.{one_refusal}

no_name : Usage ≡ BadIdentifier → ⊥
no_name e = absurd cc

no_fault : (fault : BodyFault) → Usage ≡ refusal_of_body_fault fault → ⊥
no_fault faults.TooLong e = absurd cc
no_fault faults.SourceFailed e = absurd cc
no_fault (faults.NoMemory lack) e = absurd cc

-- what the engine answered is no `Usage`, and so nothing that is told of it is
told : {A : Type 0} (text : A → List ℕ) (answer : Result A Refusal) (old new : Ports)
    → (answer ≡ Err Usage → ⊥) → Tells text answer old new (Err Usage) → ⊥
told text (Ok a) old new apart tells = tells
told text (Err refused) old new apart tells = apart (ap Err (sym tells.0))

module _ (old new : Ports) where
  settling_is_used : (answer : Result Ready Refusal) → Settles old.device new.device answer → answer ≡ Err Usage → ⊥
  settling_is_used answer s e = subst (λ (r : Result Ready Refusal). SettleEnds old.device new.device r) e s.ends

  -- settling never ends with `Usage`
  pub recover_is_used : (answer : Result Ready Refusal) → Settles old.device new.device answer
      → Tells recovered answer old new (Err Usage) → ⊥
  recover_is_used answer s tells = told recovered answer old new (settling_is_used answer s) tells

module _ (id : List ℕ) (stamp : Option ℕ) (old new : Ports) where
  -- an ingest keeps what every call of the device keeps
  pub ingest_called : (result : Result Unit Refusal) → DoesIngest id stamp old new result → Called old.device new.device
  ingest_called result (misnamed bad is same) =
      subst (λ (p : Ports). Called old.device p.device) (sym same) (called_self old.device)
  ingest_called result (untaken given fault name gives fails is same keeps) =
      subst (λ (d : DeviceState). Called old.device d) (sym same) (called_self old.device)
  ingest_called result (taken body answer name is gives end ingests tells) = ingests.called

  -- and never ends with `Usage`
  pub ingest_is_used : DoesIngest id stamp old new (Err Usage) → ⊥
  ingest_is_used (misnamed bad is same) = no_name (one_refusal (Err Usage) Usage BadIdentifier refl is)
  ingest_is_used (untaken given fault name gives fails is same keeps) =
      no_fault fault (one_refusal (Err Usage) Usage (refusal_of_body_fault fault) refl is)
  ingest_is_used (taken body answer name is gives end ingests tells) = told acknowledgement answer old new
      (λ (e : answer ≡ Err Usage).
      subst (λ (r : Result ℕ Refusal). IngestEnds id stamp body old.device new.device r) e ingests.ends)
      tells
