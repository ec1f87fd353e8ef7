-- A command that goes by its plan, and has made no call yet: no call failed, and nothing that is planned has come.
use Rattle.std.proofs.Common.{◌≡◌, ◌≤◌, ◌<◌, ◌+◌, ◌-◌, ◌^◌, ◌==◌, Bool, true, false, length, sym, ◌∙◌, arith}
use Rattle.std.proofs.lemmas.Bool.{and_parts, eqb-true}
use Rattle.worm_device.specs.Counts.{Rose}
use Rattle.worm_memory.specs.Device.{memory_of}
use Rattle.worm_memory.specs.Memory.{course_of, is_early}
use Rattle.worm_memory.specs.Runs.{HasRun, IsBegun}
use Rattle.worm_memory.specs.Plans.{CommandPlan, failures_reached, last_changes, last_faults, last_foreign_writes, may_stop, must_fail, plan_of}
use Rattle.worm_memory.specs.declared.memory_device.MemoryDevice.{MemoryDevice}
use Rattle.worm_memory.proofs.Accounts.{none_due, none_may_yet, none_yet}
use Rattle.worm_memory.proofs.Running.{begun_still, runs_yet}

pub record HasYetToCall (d : MemoryDevice) : Type 0 where
  pub by_plan : d.by_plan ≡ true
  pub calls : d.schedule.calls ≡ 0
  pub faults : d.faults ≡ last_faults d.marks.items
  pub foreign_writes : d.foreign_writes ≡ last_foreign_writes d.marks.items
  pub begins : IsBegun d.marks.items (course_of (memory_of d))

pub yet_to_call : (d : MemoryDevice) (test : Bool) → test ≡ is_early (memory_of d) → test ≡ true → HasYetToCall d
yet_to_call d test told is =
    let both = and_parts d.by_plan (d.schedule.calls == 0) (sym told ∙ is) in
    let calls = eqb-true d.schedule.calls 0 both.1 in
    let faults : d.faults ≡ last_faults d.marks.items = d.none_failed both.0
    (none_may_yet (plan_of d.schedule) d.schedule.steps d.schedule.calls d.steps_fit calls) in
    let foreign_writes : d.foreign_writes ≡ last_foreign_writes d.marks.items = d.none_written both.0
    (none_due d.schedule.steps d.schedule.calls d.steps_fit calls d.schedule.foreign.items) in
    let still : length d.changes.items ≡ last_changes d.marks.items =
    begun_still (plan_of d.schedule) d.marks.items (course_of (memory_of d)) (d.ran both.0) calls in
    record {
      by_plan = both.0;
      calls = calls;
      faults = faults;
      foreign_writes = foreign_writes;
      begins = record {
        no_steps = omega (arith, d.steps_fit, calls);
        no_calls = calls;
        changes = still;
        made_in = omega (arith, d.one_each, still);
        faults = faults;
        foreign_writes = foreign_writes;
      };
    }

-- so it is with another plan too
module _ (d : MemoryDevice) (yet : HasYetToCall d) (p : CommandPlan) where
  pub ran_yet : ∥ HasRun p d.marks.items (course_of (memory_of d)) ∥₁
  ran_yet = runs_yet p d.marks.items (course_of (memory_of d)) yet.begins

  pub most_yet : may_stop p.stop d.schedule.steps d.schedule.calls ≡ false → d.schedule.calls < 2 ^ 64 - 1
      → d.faults ≤ last_faults d.marks.items + failures_reached p d.schedule.steps d.schedule.calls
  most_yet may few = omega (arith, yet.faults)

  pub some_yet : must_fail p d.schedule.steps d.schedule.calls ≡ true → Rose (last_faults d.marks.items) d.faults
  some_yet must = none_yet p d.schedule.steps d.schedule.calls d.steps_fit yet.calls must
