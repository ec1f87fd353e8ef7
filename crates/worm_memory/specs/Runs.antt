-- A command as a row of its calls: how each of them came by the plan, and what it changed itself.
use Rattle.std.specs.Prelude.{◌≡◌, if◌then◌else◌, ℕ, Bool, false, true, List, [], ◌∷◌, ◌++◌, length, map, Option, Some, None}
use Rattle.worm_device.specs.Counts.{next_count}
use Rattle.worm_memory.specs.Plans.{CommandPlan, is_refused, last_changes, last_faults, last_foreign_writes, names, next_step}
use Rattle.worm_memory.specs.Worlds.{world}
use Rattle.worm_memory.specs.declared.change.Change.{Change}
use Rattle.worm_memory.specs.declared.change.Change.TheVariants.{Wrote, Foreign, Synced}
use Rattle.worm_memory.specs.declared.mark.CallNumbers.{CallNumbers}
use Rattle.worm_memory.specs.declared.mark.Mark.{Mark}
use Rattle.worm_memory.specs.declared.moment.Timed.{Timed}

-- how far a command has come: the record of changes, of each change which call made it, and the counts
pub record Course : Type 0 where
  pub changes : List Change
  pub made_in : List CallNumbers
  pub steps : ℕ
  pub calls : ℕ
  pub faults : ℕ
  pub foreign_writes : ℕ

-- What a call is, and what it changes itself if it does not fail: a read changes nothing; a step changes nothing where
-- its cell is written, or nothing is left to be made sure, and else it writes a cell or makes sure what stands.
pub data OneCall : Type 0 where
  a_read : OneCall
  a_step : OneCall
  a_write : ℕ → List ℕ → OneCall
  a_sync : OneCall

abbrev pub is_step_of : OneCall → Bool
is_step_of a_read = false
is_step_of a_step = true
is_step_of (a_write at value) = true
is_step_of a_sync = true

abbrev pub own_changes : OneCall → List Change
own_changes a_read = []
own_changes a_step = []
own_changes (a_write at value) = Wrote at value ∷ []
own_changes a_sync = Synced ∷ []

-- a call is counted, and so is the step that it may be
abbrev pub counted_call : Bool → Course → Course
counted_call is_step now = record now { steps = next_step is_step now.steps; calls = next_count now.calls }

-- the numbers of the call that has come
abbrev pub call_in : Course → CallNumbers
call_in now = record { steps = now.steps; calls = now.calls }

-- somebody else writes into a cell in which this stands: a written one stays
abbrev pub planned_into : Option (List ℕ) → Timed → Course → Course
planned_into (Some found) timed now = now
planned_into None timed now = record now {
  changes = now.changes ++ Foreign timed.at timed.value ∷ [];
  made_in = now.made_in ++ call_in now ∷ [];
  foreign_writes = next_count now.foreign_writes;
}

-- A planned foreign write is made exactly where its moment names the call that has come, and its cell is blank then.
abbrev pub planned_write : Bool → Timed → Course → Course
planned_write is_step timed now =
    if names timed.before is_step now.steps now.calls
    then planned_into ((world now.changes).image timed.at) timed now
    else now

-- and so is each of these, in order
abbrev pub planned_writes : Bool → List Timed → Course → Course
planned_writes is_step [] now = now
planned_writes is_step (timed ∷ rest) now = planned_writes is_step rest (planned_write is_step timed now)

-- A call comes: it is counted, and then others write what was planned before it.
abbrev pub after_coming : CommandPlan → Bool → Course → Course
after_coming plan is_step now = planned_writes is_step plan.foreign (counted_call is_step now)

-- A call that has come fails or not. Where it fails, that is one fault more, and it changes nothing itself; else there is
-- no fault more, and it changes what it is to.
abbrev pub called_so : Bool → OneCall → Course → Course
called_so refused call came =
    if refused then record came { faults = next_count came.faults }
    else record came {
      changes = came.changes ++ own_changes call;
      made_in = came.made_in ++ map (λ change. call_in came) (own_changes call);
    }

-- And it fails exactly where a moment that fails names it, or the stop was reached before it.
abbrev pub after_call : CommandPlan → OneCall → Course → Course
after_call plan call now =
    called_so (is_refused (is_step_of call) plan now.steps now.calls) call (after_coming plan (is_step_of call) now)

-- these calls, in order
abbrev pub after_calls : CommandPlan → List OneCall → Course → Course
after_calls plan [] now = now
after_calls plan (call ∷ calls) now = after_calls plan calls (after_call plan call now)

-- How a command begins, by the last of these marks: no step and no call was made, and the record and the counts are those
-- of the mark.
pub record IsBegun (marks : List Mark) (begun : Course) : Type 0 where
  pub no_steps : begun.steps ≡ 0
  pub no_calls : begun.calls ≡ 0
  pub changes : length begun.changes ≡ last_changes marks
  pub made_in : length begun.made_in ≡ last_changes marks
  pub faults : begun.faults ≡ last_faults marks
  pub foreign_writes : begun.foreign_writes ≡ last_foreign_writes marks

-- The command went by its plan, call by call: from its beginning on, these calls make of it what it has come to.
pub record HasRun (plan : CommandPlan) (marks : List Mark) (now : Course) : Type 0 where
  pub begun : Course
  pub begins : IsBegun marks begun
  pub calls : List OneCall
  pub is : now ≡ after_calls plan calls begun

-- The last call is a step that has come, does not fail by the plan, and has changed nothing itself so far.
pub record IsInStep (plan : CommandPlan) (marks : List Mark) (now : Course) : Type 0 where
  pub before : Course
  pub ran : HasRun plan marks before
  pub goes_on : is_refused true plan before.steps before.calls ≡ false
  pub is : now ≡ after_coming plan true before
