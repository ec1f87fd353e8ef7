-- The exercise was done on the device as it was made.
use Rattle.std.proofs.Common.{refl, subst}
use Rattle.cell_types.proofs.Passed.{handed}
use Rattle.cell_types.specs.declared.refusal.Refusal.TheVariants as refusals
use Rattle.worm_memory.specs.Device.{memory_of}
use Rattle.worm_memory.specs.Memory.{Memory}
use Rattle.volume_exercise.specs.Exercising.{ExerciseEnds, exercise_device, unmade}
use Rattle.record_top.proofs.exercising.exercise_volume.Goals as goal

pub returns-in_err-device : goal.returns-in_err-device
returns-in_err-device g c = record {
  left = exercise_device c.args.documents;
  ends = unmade (handed c.from_residual.result refusals.NoMemory c.from_residual.ensures.1) refl;
  device = refl;
  source = refl;
}

pub returns : goal.returns
returns g c = record {
  left = memory_of c.exercise.new.device;
  ends = subst (λ (m : Memory). ExerciseEnds c.args.documents m (memory_of c.exercise.new.device)
      (g.K.Sink.state c.args.sink.now) (g.K.Sink.state c.exercise.new.sink) c.exercise.result) c.in_ok-device.ensures.blank
      c.exercise.ensures;
  device = refl;
  source = refl;
}
