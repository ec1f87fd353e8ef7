-- What a call makes of a device in memory: what becomes of all that it tells, of its room, and whether the call fails.
use Rattle.std.specs.Prelude.{◌==◌, ◌-◌, ◌++◌, if◌then◌else◌, length, replicate, ℕ, Bool, true, false, List, [], ◌∷◌, Option, Some, None}
use Rattle.worm_memory.specs.Losses.{crash_changes}
use Rattle.worm_memory.specs.Memory.{Memory, call_of, with_call, with_change, with_fault, with_foreign, with_hand}
use Rattle.worm_memory.specs.Plans.{names, is_refused}
use Rattle.worm_memory.specs.Unsure.{unsure_of}
use Rattle.worm_memory.specs.Worlds.{world}
use Rattle.worm_memory.specs.declared.change.Change.TheVariants.{Wrote, Synced}
use Rattle.worm_memory.specs.declared.moment.Timed.{Timed}

-- how a device stands in a call or after it
pub record Outcome : Type 0 where
  -- all that it tells
  pub memory : Memory
  -- the room that is left
  pub room : ℕ
  -- whether the call has failed
  pub failed : Bool

-- the call goes on, or it failed, which is counted
abbrev pub goes_on : Memory → ℕ → Outcome
goes_on m room = record { memory = m; room = room; failed = false }

abbrev pub fails : Memory → ℕ → Outcome
fails m room = record { memory = with_fault m; room = room; failed = true }

-- a change goes into the record where that has room, and else the call fails and changes nothing
abbrev pub recorded : Memory → ℕ → Memory → Outcome
recorded m room changed = if room == 0 then fails m room else goes_on changed (room - 1)

-- somebody else writes a cell in which this stands: a written one stays
abbrev pub foreign_into : Option (List ℕ) → ℕ → List ℕ → Memory → ℕ → Outcome
foreign_into (Some found) at value m room = goes_on m room
foreign_into None at value m room = recorded m room (with_foreign m at value)

-- a foreign write that is planned is made where its moment names the call that has come
abbrev pub after_timed : Bool → Timed → Memory → ℕ → Outcome
after_timed is_step timed m room =
    if names timed.before is_step m.steps m.calls
    then foreign_into ((world m.changes).image timed.at) timed.at timed.value m room
    else goes_on m room

-- and so is each of these, in order, up to one that fails
abbrev pub after_others : Bool → List Timed → Outcome → Outcome
after_others is_step [] now = now
after_others is_step (timed ∷ rest) now =
    if now.failed then now else after_others is_step rest (after_timed is_step timed now.memory now.room)

-- the call fails by the plan, if it has not failed before
abbrev pub after_plan : Bool → Outcome → Outcome
after_plan refused now = if now.failed then now else if refused then fails now.memory now.room else now

-- A call has come, which is a step or not: it is counted, and then others write what was planned before it.
abbrev pub others_done : Bool → Memory → ℕ → Outcome
others_done is_step m room = after_others is_step m.plan.foreign (goes_on (with_call is_step m) room)

-- and then it fails where the plan says so
abbrev pub arrived : Bool → Memory → ℕ → Outcome
arrived is_step m room = after_plan (is_refused is_step m.plan m.steps m.calls) (others_done is_step m room)

-- a cell in which this stands is written: a written one stays
abbrev pub written_into : Option (List ℕ) → ℕ → List ℕ → Memory → ℕ → Outcome
written_into (Some found) at value m room = goes_on m room
written_into None at value m room = recorded m room (with_change m (Wrote at value))

-- and then a write is made, if the call has not failed
abbrev pub after_write : ℕ → List ℕ → Outcome → Outcome
after_write at value now =
    if now.failed then now else written_into ((world now.memory.changes).image at) at value now.memory now.room

-- a sync where these cells are not sure: where there are none, nothing changes
abbrev pub synced_over : List ℕ → Memory → ℕ → Outcome
synced_over [] m room = goes_on m room
synced_over (at ∷ unsure) m room = recorded m room (with_change m Synced)

abbrev pub after_sync : Outcome → Outcome
after_sync now = if now.failed then now else synced_over (unsure_of now.memory.changes) now.memory now.room

-- all that a device tells after a crash that keeps these cells
abbrev pub with_crash : Memory → List ℕ → Memory
with_crash m keep = record (with_hand m) {
  changes = m.changes ++ crash_changes keep (unsure_of m.changes);
  made_in = m.made_in ++ replicate (length (crash_changes keep (unsure_of m.changes))) (call_of m);
}
