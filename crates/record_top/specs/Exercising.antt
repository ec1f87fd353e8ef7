-- The command `exercise`: it does the exercise with so many documents on a new device in memory, and puts out its
-- lines. The device that it is handed is left alone.
use Rattle.std.specs.Prelude.{◌≡◌, ℕ, Result, Ok, Err, ⊤}
use Rattle.cell_types.specs.declared.refusal.Refusal.{Refusal}
use Rattle.worm_device.specs.Counts.{IsStill}
use Rattle.worm_memory.specs.Memory.{Memory}
use Rattle.volume_exercise.specs.Exercising.{ExerciseEnds, exercise_device}
use Rattle.volume_exercise.specs.Refusing.{IsOfExercise}
use Rattle.volume_commands.specs.Ports.{Ports}

-- The exercise was done on a new device, and what it tells went into the sink; nothing was taken from the source.
pub record DoesExercise (n : ℕ) (old new : Ports) (result : Result Unit Refusal) : Type 0 where
  pub left : Memory
  pub ends : ExerciseEnds n (exercise_device n) left old.sink new.sink result
  pub device : new.device ≡ old.device
  pub source : new.source ≡ old.source

-- no call of the sink fails
abbrev pub IsReadyToExercise : Ports → Ports → Type 0
IsReadyToExercise old new = IsStill old.sink.faults new.sink.faults

-- the answer is Ok, or want of memory, or that the path of an identifier is full
abbrev pub IsOkOrOfExercise : Result Unit Refusal → Type 0
IsOkOrOfExercise (Ok _) = ⊤
IsOkOrOfExercise (Err refusal) = IsOfExercise refusal
