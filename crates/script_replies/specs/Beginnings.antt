-- How a device in memory stands as a command begins with the plan of an event.
use Rattle.std.specs.Prelude.{◌++◌, List, map, true}
use Rattle.worm_memory.specs.Memory.{Memory, with_begin}
use Rattle.worm_memory.specs.Plans.{CommandPlan}
use Rattle.worm_memory.specs.declared.moment.Moment.{Moment}
use Rattle.worm_memory.specs.declared.moment.Timed as planned
use Rattle.script_events.specs.declared.event.Schedule.{Schedule}
use Rattle.script_events.specs.declared.event.Timed.{Timed}

-- a foreign write as the device plans it
abbrev pub planned_of : Timed → planned.Timed
planned_of t = record { before = t.before; at = t.at; value = t.cell }

-- what befalls a command, as the device plans it
abbrev pub plan_by : Schedule → CommandPlan
plan_by s = record {
  fails = s.fail;
  stop = s.stop;
  foreign = map planned_of s.foreign;
}

-- The device as a command begins with this plan: its mark is kept, no step and no call has been made, and with ample room
-- it goes by the plan.
abbrev pub begun_with : Schedule → Memory → Memory
begun_with s m = record (with_begin true m) { plan = plan_by s }

-- these failures are planned besides
abbrev pub with_failures : List Moment → Memory → Memory
with_failures fails m = record m { plan = record m.plan { fails = m.plan.fails ++ fails } }

-- these foreign writes are planned besides
abbrev pub with_foreign_planned : List Timed → Memory → Memory
with_foreign_planned foreign m = record m { plan = record m.plan { foreign = m.plan.foreign ++ map planned_of foreign } }
