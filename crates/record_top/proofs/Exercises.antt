-- How an exercise ends: the device that was handed in is untouched, never with `Usage` or tampering, and where no call
-- of the sink fails with no refusal but want of memory and a full path.
use Rattle.std.proofs.Common.{◌≡◌, ℕ, Result, Err, refl, subst, sym}
use Rattle.cell_types.specs.declared.refusal.Evidence.{Evidence}
use Rattle.cell_types.specs.declared.refusal.Refusal.{Refusal}
use Rattle.cell_types.specs.declared.refusal.Refusal.TheVariants as refusals
use Rattle.host_ports.specs.Sinks.{SinkState}
use Rattle.worm_device.specs.Calls.{Called}
use Rattle.worm_device.specs.Counts.{IsStill}
use Rattle.worm_device.specs.State.{DeviceState}
use Rattle.worm_device.proofs.Counting.{rose_or_still}
use Rattle.worm_device.proofs.Elapsing.{called_self}
use Rattle.worm_memory.specs.Memory.{Memory}
use Rattle.volume_exercise.specs.Exercising.{ExerciseEnds, exercise_device, refused, told, unmade, untold}
use Rattle.volume_exercise.specs.Refusing.{IsOfExercise}
use Rattle.command_laws.proofs.Results.{no_answer, one_refusal, other_refusal}
use Rattle.record_top.specs.Exercising.{DoesExercise, IsOkOrOfExercise}
use Rattle.volume_commands.specs.Ports.{Ports}

-- the device is untouched
pub exercise_called : (n : ℕ) (old new : Ports) (result : Result Unit Refusal) → DoesExercise n old new result
    → Called old.device new.device
exercise_called n old new result does =
    subst (λ (d : DeviceState). Called old.device d) (sym does.device) (called_self old.device)

ends_other : (x : Refusal) → (x ≡ refusals.NoMemory → ⊥) → (x ≡ refusals.SinkFault → ⊥) → (IsOfExercise x → ⊥)
    → (n : ℕ) (from to : Memory) (old new : SinkState) → ExerciseEnds n from to old new (Err x) → ⊥
ends_other x no_memory no_sink no_event n from to old new (unmade is same) =
    other_refusal (Err x) x refusals.NoMemory no_memory refl is
ends_other x no_memory no_sink no_event n from to old new (refused replies refusal world first of untroubled is same) =
    no_event (subst IsOfExercise (sym (one_refusal (Err x) x refusal refl is)) of)
ends_other x no_memory no_sink no_event n from to old new (told replies world first leaves is gets) =
    no_answer (Err x) tt x is refl
ends_other x no_memory no_sink no_event n from to old new (untold replies world first leaves is part) =
    other_refusal (Err x) x refusals.SinkFault no_sink refl is

-- it never ends with `Usage`
pub exercise_is_used : (n : ℕ) (old new : Ports) → DoesExercise n old new (Err refusals.Usage) → ⊥
exercise_is_used n old new does =
    ends_other refusals.Usage (λ s. absurd cc) (λ s. absurd cc) (λ of. of) n
    (exercise_device n) does.left old.sink new.sink
    does.ends

-- and names no tampering
pub exercise_names_none : (n : ℕ) (old new : Ports) (e : Evidence) → DoesExercise n old new (Err (refusals.Tampered e))
    → ⊥
exercise_names_none n old new e does =
    ends_other (refusals.Tampered e) (λ s. absurd cc) (λ s. absurd cc) (λ of. of) n
    (exercise_device n) does.left old.sink
    new.sink does.ends

ends_complete : (n : ℕ) (from to : Memory) (old new : SinkState) (result : Result Unit Refusal)
    → IsStill old.faults new.faults → ExerciseEnds n from to old new result → IsOkOrOfExercise result
ends_complete n from to old new result still (unmade is same) = subst IsOkOrOfExercise (sym is) tt
ends_complete n from to old new result still (refused replies refusal world first of untroubled is same) =
    subst IsOkOrOfExercise (sym is) of
ends_complete n from to old new result still (told replies world first leaves is gets) =
    subst IsOkOrOfExercise (sym is) tt
ends_complete n from to old new result still (untold replies world first leaves is part) =
    absurd (rose_or_still _ _ part.faults still)

-- the answer is Ok, or want of memory, or that a path is full
pub exercise_completes : (n : ℕ) (old new : Ports) (result : Result Unit Refusal) → DoesExercise n old new result
    → IsStill old.sink.faults new.sink.faults → IsOkOrOfExercise result
exercise_completes n old new result does still =
    ends_complete n (exercise_device n) does.left old.sink new.sink result still does.ends
