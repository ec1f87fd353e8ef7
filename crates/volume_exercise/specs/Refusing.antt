-- Which refusals an event of the exercise may meet.
use Rattle.std.specs.Prelude.{⊤}
use Rattle.cell_types.specs.declared.refusal.Refusal.{Refusal}
use Rattle.cell_types.specs.declared.refusal.Refusal.TheVariants as refusals

-- No memory was to be had, or the path of an identifier is full: all its buckets are taken by others. Whether one is hangs
-- on the digests of the identifiers, and is not said here.
abbrev pub IsOfExercise : Refusal → Type 0
IsOfExercise refusals.NoMemory = ⊤
IsOfExercise refusals.PathFull = ⊤
IsOfExercise refusal = ⊥
