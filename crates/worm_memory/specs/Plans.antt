-- What is planned for a command, which of its calls a moment names, and how a device's counts stood when it began.
use Rattle.std.specs.Prelude.{◌≡◌, ◌<◌, ◌+◌, ◌==◌, ◌&&◌, ◌||◌, if◌then◌else◌, is_some, nat_le, slice_get, ℕ, Bool, false, true, List, [], ◌∷◌, ◌++◌, map, Option, Some, None}
use Rattle.std.specs.List.{count_by, list_any}
use Rattle.std.specs.Str.{bytes_eq}
use Rattle.cell_types.specs.Image.{Image}
use Rattle.worm_device.specs.Counts.{next_count}
use Rattle.worm_memory.specs.declared.change.Change.{Change}
use Rattle.worm_memory.specs.declared.change.Change.TheVariants.{Wrote, Foreign, Synced, Lost, Crashed}
use Rattle.worm_memory.specs.declared.mark.Mark.{Mark}
use Rattle.worm_memory.specs.declared.moment.Moment.{Moment}
use Rattle.worm_memory.specs.declared.moment.Moment.TheVariants.{Step, Call}
use Rattle.worm_memory.specs.declared.moment.Timed.{Timed}
use Rattle.worm_memory.specs.declared.schedule.Schedule.{Schedule}

-- what is planned for the present command
pub record CommandPlan : Type 0 where
  -- the moments whose calls fail
  pub fails : List Moment
  -- the moment after which each call fails
  pub stop : Option Moment
  -- what others write before which calls, in the order in which it was planned
  pub foreign : List Timed

abbrev pub plan_of : Schedule → CommandPlan
plan_of schedule = record {
  fails = schedule.fails.items;
  stop = schedule.stop;
  foreign = schedule.foreign.items;
}

-- nothing is planned
abbrev pub no_plan : CommandPlan
no_plan = record { fails = []; stop = None; foreign = [] }

-- the number of steps once one more call has come, which is a step or not
abbrev pub next_step : Bool → ℕ → ℕ
next_step is_step steps = if is_step then next_count steps else steps

-- The moment names the call that has come, with which there are so many steps and calls. Both are numbered from 1, so
-- a moment of number 0 names none, and a call that is no step has no number as one.
abbrev pub names : Moment → Bool → ℕ → ℕ → Bool
names (Step number) is_step steps calls = is_step && (steps == number)
names (Call number) is_step steps calls = calls == number

-- so many steps or calls as the moment says have been made
abbrev pub is_past : Moment → ℕ → ℕ → Bool
is_past (Step number) steps calls = nat_le number steps
is_past (Call number) steps calls = nat_le number calls

-- the stop was reached before a call, where there were so many steps and calls before it
abbrev pub is_stopped : Option Moment → ℕ → ℕ → Bool
is_stopped None steps calls = false
is_stopped (Some moment) steps calls = is_past moment steps calls

-- the plan makes the next call fail, where there were so many steps and calls before it
abbrev pub is_refused : Bool → CommandPlan → ℕ → ℕ → Bool
is_refused is_step plan steps calls =
    is_stopped plan.stop steps calls
    || list_any (λ moment. names moment is_step (next_step is_step steps) (next_count calls)) plan.fails

-- a command of so many steps and calls came to this moment, and the moment names one of its calls
abbrev pub is_reached : ℕ → ℕ → Moment → Bool
is_reached steps calls (Step number) = nat_le 1 number && nat_le number steps
is_reached steps calls (Call number) = nat_le 1 number && nat_le number calls

-- the stop was reached, and calls were made
abbrev pub may_stop : Option Moment → ℕ → ℕ → Bool
may_stop None steps calls = false
may_stop (Some moment) steps calls = is_past moment steps calls && nat_le 1 calls

-- more steps or calls were made than the stop lets
abbrev pub must_stop : Option Moment → ℕ → ℕ → Bool
must_stop None steps calls = false
must_stop (Some (Step number)) steps calls = nat_le (number + 1) steps
must_stop (Some (Call number)) steps calls = nat_le (number + 1) calls

-- some call of a command of so many steps and calls may have failed by the plan
abbrev pub may_fail : CommandPlan → ℕ → ℕ → Bool
may_fail plan steps calls = may_stop plan.stop steps calls || list_any (is_reached steps calls) plan.fails

-- some call did
abbrev pub must_fail : CommandPlan → ℕ → ℕ → Bool
must_fail plan steps calls = must_stop plan.stop steps calls || list_any (is_reached steps calls) plan.fails

-- how many moments that fail a command of so many steps and calls came to
abbrev pub failures_reached : CommandPlan → ℕ → ℕ → ℕ
failures_reached plan steps calls = count_by (is_reached steps calls) plan.fails

-- the moment of a planned foreign write was reached
abbrev pub is_due : ℕ → ℕ → Timed → Bool
is_due steps calls timed = is_reached steps calls timed.before

-- somebody else may have written by the plan, in a command of so many steps and calls
abbrev pub may_be_written : CommandPlan → ℕ → ℕ → Bool
may_be_written plan steps calls = list_any (is_due steps calls) plan.foreign

-- how many planned foreign writes such a command came to
abbrev pub writes_reached : CommandPlan → ℕ → ℕ → ℕ
writes_reached plan steps calls = count_by (is_due steps calls) plan.foreign

-- how many calls had failed as the present command began
abbrev pub faults_from : ℕ → List Mark → ℕ
faults_from n [] = n
faults_from n (mark ∷ marks) = faults_from mark.faults marks

abbrev pub last_faults : List Mark → ℕ
last_faults marks = faults_from 0 marks

-- how many cells somebody else had written as the present command began
abbrev pub foreign_writes_from : ℕ → List Mark → ℕ
foreign_writes_from n [] = n
foreign_writes_from n (mark ∷ marks) = foreign_writes_from mark.foreign_writes marks

abbrev pub last_foreign_writes : List Mark → ℕ
last_foreign_writes marks = foreign_writes_from 0 marks

-- how many changes stood in the record as the present command began
abbrev pub changes_from : ℕ → List Mark → ℕ
changes_from n [] = n
changes_from n (mark ∷ marks) = changes_from mark.changes marks

abbrev pub last_changes : List Mark → ℕ
last_changes marks = changes_from 0 marks

-- what was planned has come to its moment, and calls for this value in this cell
abbrev pub calls_for : ℕ → ℕ → ℕ → List ℕ → Timed → Bool
calls_for steps calls at value timed =
    is_reached steps calls timed.before && ((timed.at == at) && bytes_eq timed.value value)

-- if the change is somebody else's, it was planned and has come to its moment
abbrev pub is_called_for : ℕ → ℕ → List Timed → Change → Bool
is_called_for steps calls planned (Foreign at value) = list_any (calls_for steps calls at value) planned
is_called_for steps calls planned (Wrote at value) = true
is_called_for steps calls planned Synced = true
is_called_for steps calls planned (Lost at) = true
is_called_for steps calls planned Crashed = true

-- if what was planned has come to its moment, its cell is written
abbrev pub stands_if_reached : ℕ → ℕ → Image → Timed → Bool
stands_if_reached steps calls image timed =
    if is_reached steps calls timed.before then is_some (image timed.at) else true

-- each of these foreign writes is of a cell of the device
abbrev pub AreWritesInside : ℕ → List Timed → Type 0
AreWritesInside cells planned = (place : ℕ) (timed : Timed) → slice_get planned place ≡ Some timed → timed.at < cells

-- A moment as two numbers, and what a device keeps from a command's beginning on as rows of numbers: of each mark a
-- row that begins with 0, of each moment that fails one that begins with 1, of the stop one that begins with 2, of each
-- foreign write one that begins with 3, and the row 4 where the command goes by its plan.
abbrev pub numbers_of : Moment → List ℕ
numbers_of (Step number) = 0 ∷ number ∷ []
numbers_of (Call number) = 1 ∷ number ∷ []

abbrev pub mark_row : Mark → List ℕ
mark_row mark =
    0 ∷ mark.steps ∷ mark.calls ∷ mark.changes ∷ mark.faults ∷ mark.foreign_writes ∷ mark.reads ∷ []

abbrev pub fail_row : Moment → List ℕ
fail_row moment = 1 ∷ numbers_of moment

abbrev pub stop_rows : Option Moment → List (List ℕ)
stop_rows None = []
stop_rows (Some moment) = (2 ∷ numbers_of moment) ∷ []

abbrev pub foreign_row : Timed → List ℕ
foreign_row timed = 3 ∷ (numbers_of timed.before ++ timed.at ∷ timed.value)

abbrev pub by_plan_rows : Bool → List (List ℕ)
by_plan_rows false = []
by_plan_rows true = (4 ∷ []) ∷ []

abbrev pub begun_rows : List Mark → CommandPlan → Bool → List (List ℕ)
begun_rows marks plan by_plan =
    map mark_row marks ++ map fail_row plan.fails ++ stop_rows plan.stop ++ map foreign_row plan.foreign
    ++ by_plan_rows by_plan
