-- What a device in memory is for contracts, and what its calls do: its record of changes, from which each
-- state and each image that a crash could have left follow, its counts, and the present command's numbers and plan.
use Rattle.std.specs.Prelude.{zero, suc, ◌≡◌, ◌≤◌, ◌<◌, ◌+◌, ◌-◌, ◌*◌, ◌^◌, ◌==◌, ◌&&◌, nat_le, ℕ, Bool, false, true, List, [], ◌∷◌, ◌++◌, length, take, drop, Some}
use Rattle.std.specs.List.{list_all}
use Rattle.worm_device.specs.Counts.{Rose, next_count}
use Rattle.worm_device.specs.Calls.{Remembers}
use Rattle.worm_device.specs.State.{DeviceState}
use Rattle.worm_memory.specs.Moments.{made_if_blank}
use Rattle.worm_memory.specs.Plans.{CommandPlan, no_plan, next_step, begun_rows, failures_reached, stands_if_reached, is_called_for, last_changes, last_faults, last_foreign_writes, may_be_written, may_fail, may_stop, must_fail, writes_reached}
use Rattle.worm_memory.specs.Runs.{Course, HasRun, IsInStep}
use Rattle.worm_memory.specs.Worlds.{world}
use Rattle.worm_memory.specs.declared.change.Change.{Change}
use Rattle.worm_memory.specs.declared.change.Change.TheVariants.{Wrote, Foreign, Synced, Lost, Crashed}
use Rattle.worm_memory.specs.declared.mark.CallNumbers.{CallNumbers}
use Rattle.worm_memory.specs.declared.mark.Mark.{Mark}
use Rattle.worm_memory.specs.declared.moment.Moment.{Moment}
use Rattle.worm_memory.specs.declared.moment.Timed.{Timed}

-- all that a device in memory tells
pub record Memory : Type 0 where
  -- how many cells it has
  pub cells : ℕ
  -- its record: what has changed, in order
  pub changes : List Change
  -- of each change which call made it
  pub made_in : List CallNumbers
  -- what it kept when each command began, in order
  pub marks : List Mark
  -- how many steps the present command has made so far: writes and syncs
  pub steps : ℕ
  -- how many calls: reads, writes and syncs
  pub calls : ℕ
  -- what is planned for the present command
  pub plan : CommandPlan
  -- how many of its calls have failed
  pub faults : ℕ
  -- how many reads it was asked for
  pub reads : ℕ
  -- how many cells somebody else has written
  pub foreign_writes : ℕ
  -- whether the present command goes by its plan: it began with room for all that its calls can record, it was planned
  -- before its first call, and nobody called `foreign` or `crash` since
  pub by_plan : Bool

-- the step that made a change, or comes behind it: what a command changes itself it changes in a step
abbrev pub change_step : Change → CallNumbers → ℕ
change_step (Wrote at value) call = call.steps
change_step (Foreign at value) call = next_count call.steps
change_step Synced call = call.steps
change_step (Lost at) call = next_count call.steps
change_step Crashed call = next_count call.steps

-- the same of the change at this place
abbrev pub change_steps : List Change → List CallNumbers → ℕ → ℕ
change_steps [] made_in place = 0
change_steps (change ∷ changes) [] place = 0
change_steps (change ∷ changes) (call ∷ made_in) zero = change_step change call
change_steps (change ∷ changes) (call ∷ made_in) (suc place) = change_steps changes made_in place

-- As a device. The moment is the number of changes so far, and the steps are those of the present command.
abbrev pub device_of : Memory → DeviceState
device_of m = record {
  cells = m.cells;
  tells = true;
  image = (world m.changes).image;
  sure = (world m.changes).sure;
  faults = m.faults;
  foreign_writes = m.foreign_writes;
  reads = m.reads;
  begun = begun_rows m.marks m.plan m.by_plan;
  moment = length m.changes;
  past = λ moment. world (take moment m.changes);
  steps = m.steps;
  steps_at = change_steps m.changes m.made_in;
}

-- a device as it was before its last steps were counted
abbrev pub at_step : ℕ → DeviceState → DeviceState
at_step before s = record s { steps = before }

-- a step has come, before which there were so many
pub record IsBeforeStep (before : ℕ) (m : Memory) : Type 0 where
  pub counted : Rose before m.steps
  pub below : before ≤ m.steps

-- the numbers of the call that has come
abbrev pub call_of : Memory → CallNumbers
call_of m = record { steps = m.steps; calls = m.calls }

-- one more change, made in the call that has come
abbrev pub with_change : Memory → Change → Memory
with_change m change = record m { changes = m.changes ++ change ∷ []; made_in = m.made_in ++ call_of m ∷ [] }

-- a count of foreign writes, with this change more
abbrev pub counted_with : Change → ℕ → ℕ
counted_with (Wrote at value) count = count
counted_with (Foreign at value) count = next_count count
counted_with Synced count = count
counted_with (Lost at) count = count
counted_with Crashed count = count

-- one more change, which is counted if it is somebody else's
abbrev pub with_put : Memory → Change → Memory
with_put m change = record m {
  changes = m.changes ++ change ∷ [];
  made_in = m.made_in ++ call_of m ∷ [];
  foreign_writes = counted_with change m.foreign_writes;
}

-- one more foreign write
abbrev pub with_foreign : Memory → ℕ → List ℕ → Memory
with_foreign m at value = with_put m (Foreign at value)

-- one more fault
abbrev pub with_fault : Memory → Memory
with_fault m = record m { faults = next_count m.faults }

-- one more read
abbrev pub with_read : Memory → Memory
with_read m = record m { reads = next_count m.reads }

-- one more call, which is a step or not
abbrev pub with_call : Bool → Memory → Memory
with_call is_step m = record m { steps = next_step is_step m.steps; calls = next_count m.calls }

-- the mark of a command that begins here: the numbers of the command before, and how much there has been so far
abbrev pub mark_of : Memory → Mark
mark_of m = record {
  steps = m.steps;
  calls = m.calls;
  changes = length m.changes;
  faults = m.faults;
  foreign_writes = m.foreign_writes;
  reads = m.reads;
}

-- all that calls can record has room: two changes for each cell, one that writes it and one that makes it sure
abbrev pub is_ample : ℕ → ℕ → Bool
is_ample cells room = nat_le (2 * cells) room

-- a command begins, with ample room or not
abbrev pub with_begin : Bool → Memory → Memory
with_begin ample m = record m {
  marks = m.marks ++ mark_of m ∷ [];
  steps = 0;
  calls = 0;
  plan = no_plan;
  by_plan = ample;
}

-- the present command does not go by its plan any more
abbrev pub with_hand : Memory → Memory
with_hand m = record m { by_plan = false }

-- it still does if it does so far, and no call has been made
abbrev pub is_early : Memory → Bool
is_early m = m.by_plan && (m.calls == 0)

-- another plan for the present command
abbrev pub with_plan : Memory → CommandPlan → Memory
with_plan m plan = record m { plan = plan; by_plan = is_early m }

-- one more moment that fails
abbrev pub with_failure : Memory → Moment → Memory
with_failure m moment = with_plan m (record m.plan { fails = m.plan.fails ++ moment ∷ [] })

-- the moment after which each call fails
abbrev pub with_stop : Memory → Moment → Memory
with_stop m moment = with_plan m (record m.plan { stop = Some moment })

-- one more foreign write before a moment
abbrev pub with_planned : Memory → Timed → Memory
with_planned m timed = with_plan m (record m.plan { foreign = m.plan.foreign ++ timed ∷ [] })

-- how far the present command has come
abbrev pub course_of : Memory → Course
course_of m = record {
  changes = m.changes;
  made_in = m.made_in;
  steps = m.steps;
  calls = m.calls;
  faults = m.faults;
  foreign_writes = m.foreign_writes;
}

-- the present command's last call is a step that goes on, and has changed nothing itself so far
abbrev pub IsStepOpen : Memory → Type 0
IsStepOpen m = ∥ IsInStep m.plan m.marks (course_of m) ∥₁

-- Faults and foreign writes of the present command are those of its plan, as far as it has come.
pub record KeepsPlan (m : Memory) : Type 0 where
  -- call by call: each planned foreign write was made exactly where its moment named the call and its cell was blank
  -- then, and each call failed exactly where a moment that fails named it, or the stop was reached before it
  pub run : ∥ HasRun m.plan m.marks (course_of m) ∥₁
  -- no call failed where no moment that fails was reached, nor the stop
  pub none : may_fail m.plan m.steps m.calls ≡ false → m.faults ≡ last_faults m.marks
  -- up to the stop no more calls failed than moments that fail were reached
  pub most : may_stop m.plan.stop m.steps m.calls ≡ false → m.calls < 2 ^ 64 - 1
      → m.faults ≤ last_faults m.marks + failures_reached m.plan m.steps m.calls
  -- one failed where such a moment was reached, or the stop was passed
  pub some : must_fail m.plan m.steps m.calls ≡ true → Rose (last_faults m.marks) m.faults
  -- nobody else wrote where the moment of no planned foreign write was reached
  pub unwritten : may_be_written m.plan m.steps m.calls ≡ false → m.foreign_writes ≡ last_foreign_writes m.marks
  -- others wrote no more cells than there were such moments
  pub few : m.calls < 2 ^ 64 - 1
      → m.foreign_writes ≤ last_foreign_writes m.marks + writes_reached m.plan m.steps m.calls
  -- each foreign write since the command began was planned, and its moment was reached
  pub named : list_all (is_called_for m.steps m.calls m.plan.foreign) (drop (last_changes m.marks) m.changes) ≡ true
  -- each that was planned, and whose moment was reached, was made if its cell was blank then
  pub made : list_all (made_if_blank m.steps m.calls (take (last_changes m.marks) m.changes)
      (drop (last_changes m.marks) m.changes) (drop (last_changes m.marks) m.made_in)) m.plan.foreign ≡ true
  -- and so its cell is written in the end
  pub stands : list_all (stands_if_reached m.steps m.calls (world m.changes).image) m.plan.foreign ≡ true

-- What stood in a device is told by its record from then on: it is what the changes up to then make of blank cells.
abbrev pub TheRecordTells : Type 0
TheRecordTells =
    (old new : Memory) → Remembers (device_of old) (device_of new)
    → world (take (length old.changes) new.changes) ≡ world old.changes

-- What a device keeps from a command's beginning on are its marks, the command's plan, and whether it goes by that.
abbrev pub BeginningsTell : Type 0
BeginningsTell =
    (old new : Memory) → (device_of new).begun ≡ (device_of old).begun
    → (new.marks ≡ old.marks) × (new.plan ≡ old.plan) × (new.by_plan ≡ old.by_plan)
