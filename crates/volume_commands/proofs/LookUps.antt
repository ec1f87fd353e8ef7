-- How a look-up ends: over what every call of the device keeps, never with `Usage`, and where nothing hinders it with
-- no refusal but that no document has the identifier.
use Rattle.std.proofs.Common.{◌≡◌, ℕ, List, Result, Ok, Err, refl, subst, sym}
use Rattle.cell_types.specs.Layout.{Layout}
use Rattle.cell_types.specs.declared.refusal.Refusal.{Refusal}
use Rattle.cell_types.specs.declared.refusal.Refusal.TheVariants as refusals
use Rattle.worm_device.specs.Calls.{Called}
use Rattle.worm_device.specs.State.{IsDevice}
use Rattle.worm_device.proofs.Counting.{rose_or_still}
use Rattle.worm_device.proofs.Elapsing.{called_self}
use Rattle.record_query.specs.LookingUp.{LookUpEnds, LooksUp}
use Rattle.record_query.specs.declared.found.Found.{Found}
use Rattle.volume_commands.specs.LookingUp.{Answers, DoesLookUp, IsReadyToLookUp, looked, misnamed}
use Rattle.volume_commands.specs.Ports.{Ports, IsOkOrAbsent}
use Rattle.command_laws.proofs.Results.{no_answer, one_refusal, other_refusal}
use Rattle.command_laws.proofs.Completing.{looks_whole}

module _ (id : List ℕ) (old new : Ports) where
  -- a look-up keeps what every call of the device keeps
  pub look_up_called : (result : Result Unit Refusal) → DoesLookUp id old new result → Called old.device new.device
  look_up_called result (misnamed bad is same) =
      subst (λ (p : Ports). Called old.device p.device) (sym same) (called_self old.device)
  look_up_called result (looked answer name looks source answers) = looks.called

  answers_used : (answer : Result Found Refusal) → LookUpEnds id old.device new.device old.sink new.sink answer
      → Answers answer (Err refusals.Usage) → ⊥
  answers_used (Ok found) ends answers = no_answer (Err refusals.Usage) tt refusals.Usage answers refl
  answers_used (Err refused) ends answers =
      subst (λ (r : Refusal). LookUpEnds id old.device new.device old.sink new.sink (Err r))
      (sym (one_refusal (Err refusals.Usage) refusals.Usage refused refl answers)) ends

  -- and never ends with `Usage`
  pub look_up_is_used : DoesLookUp id old new (Err refusals.Usage) → ⊥
  look_up_is_used (misnamed bad is same) = other_refusal (Err refusals.Usage) refusals.Usage
      refusals.BadIdentifier (λ s. absurd cc) refl is
  look_up_is_used (looked answer name looks source answers) = answers_used answer looks.ends answers

module _ (id : List ℕ) (g : Layout) (old new : Ports) (ready : IsReadyToLookUp id g old new)
    (device : IsDevice old.device)
    (device_new : IsDevice new.device) where
  -- the sink does not fail
  no_sink_fault : (refusal : Refusal) → LookUpEnds id old.device new.device old.sink new.sink (Err refusal)
      → refusal ≡ refusals.SinkFault → ⊥
  no_sink_fault refusal ends same = rose_or_still _ _ (subst
      (λ (r : Refusal). LookUpEnds id old.device new.device old.sink new.sink (Err r)) same ends).0 ready.no_sink_fault

  answered : (result : Result Unit Refusal) (answer : Result Found Refusal)
      → LooksUp id old.device new.device old.sink new.sink answer → Answers answer result → IsOkOrAbsent result
  answered result (Ok found) looks answers = subst IsOkOrAbsent (sym answers) tt
  answered result (Err refusal) looks answers =
      subst IsOkOrAbsent (sym answers)
      (subst (λ (r : Refusal). IsOkOrAbsent (Err r)) (sym (looks_whole ready.log device device_new
      looks.called id old.sink
      new.sink refusal looks.comes (no_sink_fault refusal looks.ends) looks.ends)) tt)

  -- the answer is Ok, or no document has the identifier
  pub look_up_completes : (result : Result Unit Refusal) → DoesLookUp id old new result → IsOkOrAbsent result
  look_up_completes result (misnamed bad is same) = absurd (bad ready.identifier)
  look_up_completes result (looked answer name looks source answers) = answered result answer looks answers
