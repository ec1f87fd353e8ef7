-- How an exercise ends.
use Rattle.std.specs.Prelude.{◌≡◌, ◌+◌, ◌*◌, ℕ, List, [], ◌∷◌, length, map, false, Some, None, Result, Ok, Err, ⊤}
use Rattle.cell_types.specs.declared.refusal.Refusal.{Refusal}
use Rattle.cell_types.specs.declared.refusal.Refusal.TheVariants.{NoMemory, SinkFault}
use Rattle.volume_meaning.specs.Documents.{AreDocuments, Document}
use Rattle.tamper_rules.specs.Settling.{Settled}
use Rattle.worm_device.specs.Counts.{Rose}
use Rattle.host_ports.specs.Sinks.{Gets, PutsPart, SinkState}
use Rattle.worm_memory.specs.Memory.{Memory, device_of}
use Rattle.worm_memory.specs.Plans.{no_plan}
use Rattle.worm_memory.specs.Worlds.{foreign_writes_in}
use Rattle.worm_memory.specs.declared.mark.Mark.{Mark}
use Rattle.script_replies.specs.declared.reply.Reply.{Reply}
use Rattle.hostile_replay.specs.Worlds.{IsWorld}
use Rattle.volume_exercise.specs.Events.{exercise_events}
use Rattle.volume_exercise.specs.Documents.{body_of, identifier_of, up_to}
use Rattle.volume_exercise.specs.Refusing.{IsOfExercise}
use Rattle.volume_exercise.specs.Tallies.{first_refusal}
use Rattle.volume_exercise.specs.Telling.{exercise_text}
use Rattle.volume_exercise.specs.declared.limits.TheConstants.{BASE_CELLS, CELLS_PER_DOCUMENT}

-- how many cells the device of an exercise has
abbrev pub exercise_cells : ℕ → ℕ
exercise_cells n = BASE_CELLS + CELLS_PER_DOCUMENT * n

-- the device of an exercise as it is made: each cell is blank, nothing is planned, and all counts are 0
abbrev pub exercise_device : ℕ → Memory
exercise_device n = record {
  cells = exercise_cells n;
  changes = [];
  made_in = [];
  marks = [];
  steps = 0;
  calls = 0;
  plan = no_plan;
  faults = 0;
  reads = 0;
  foreign_writes = 0;
  by_plan = false;
}

-- document i, in slot i
abbrev pub exercise_document : ℕ → Document
exercise_document i = record { slot = i; id = identifier_of i; body = body_of i }

-- the documents of the exercise, in order
unfoldable pub exercise_documents : ℕ → List Document
exercise_documents n = map exercise_document (up_to n)

-- how many reads there had been as the next command began, or so far if there is none
abbrev pub next_reads : List Mark → ℕ → ℕ
next_reads [] reads = reads
next_reads (mark ∷ marks) reads = mark.reads

-- in each of the commands that left these marks the count of reads rose, up to this one
abbrev pub ReadsRise : List Mark → ℕ → Type 0
ReadsRise [] reads = ⊤
ReadsRise (mark ∷ marks) reads = Rose mark.reads (next_reads marks reads) × ReadsRise marks reads

-- nothing has befallen the device: not one change of its record is somebody else's, and no call has failed
pub record IsUntroubled (to : Memory) : Type 0 where
  pub undisturbed : foreign_writes_in to.changes ≡ 0
  pub unfailed : to.faults ≡ 0

-- What the exercise with n documents leaves on its device where each event was done: a settled volume that holds just the
-- n documents, in the slots from 0 on. Its record shows 2 n + 401 commands, each of which has read the device, and that
-- nothing has befallen it.
pub record LeavesExercise (n : ℕ) (to : Memory) : Type 0 where
  pub settled : Settled to.cells (device_of to).image
  pub documents : AreDocuments to.cells (device_of to).image (exercise_documents n)
  pub commands : length to.marks ≡ 2 * n + 401
  pub read : ReadsRise to.marks to.reads
  pub untroubled : IsUntroubled to

-- How the exercise with n documents ends, by how far it comes. Wherever it tells anything of events, the events were
-- just those of the exercise, and they were answered so in a world that led from the one state of the device to the other.
pub data ExerciseEnds (n : ℕ) (from to : Memory) (old new : SinkState) (result : Result Unit Refusal) : Type 0 where
  -- no memory was to be had for the exercise itself
  unmade : result ≡ Err NoMemory → new ≡ old → ExerciseEnds n from to old new result
  -- an event was refused: the first refusal is handed on, which is want of memory, or that a path is full
  refused : (replies : List Reply) (refusal : Refusal) → IsWorld (exercise_events n) replies from to
      → first_refusal replies ≡ Some refusal → IsOfExercise refusal → IsUntroubled to → result ≡ Err refusal
      → new ≡ old → ExerciseEnds n from to old new result
  -- none was refused, so each document was acknowledged, found by just its words, and came back; and the lines were put out
  told : (replies : List Reply) → IsWorld (exercise_events n) replies from to → first_refusal replies ≡ None
      → LeavesExercise n to → result ≡ Ok tt → Gets old.held new.held (exercise_text n)
      → ExerciseEnds n from to old new result
  -- none was refused, and the sink failed
  untold : (replies : List Reply) → IsWorld (exercise_events n) replies from to → first_refusal replies ≡ None
      → LeavesExercise n to → result ≡ Err SinkFault → PutsPart (exercise_text n) old new
      → ExerciseEnds n from to old new result
