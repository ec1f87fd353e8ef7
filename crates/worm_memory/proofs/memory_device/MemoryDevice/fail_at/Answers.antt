-- Before the first call no call has failed, whatever is planned.
use Rattle.std.proofs.Common.{◌≡◌, true, ap, sym, subst, ◌∙◌, arith, List}
use Rattle.worm_memory.specs.Device.{memory_of}
use Rattle.worm_memory.specs.Memory.{course_of}
use Rattle.worm_memory.specs.Runs.{HasRun}
use Rattle.worm_memory.specs.Plans.{CommandPlan, failures_reached, may_fail, must_fail}
use Rattle.worm_memory.specs.declared.moment.Moment.{Moment}
use Rattle.worm_memory.specs.declared.schedule.Schedule.{Schedule}
use Rattle.worm_memory.proofs.Planning.{HasYetToCall, most_yet, ran_yet, some_yet, yet_to_call}
use Rattle.worm_memory.proofs.memory_device.MemoryDevice.fail_at.Goals as goal
use Rattle.worm_memory.proofs.memory_device.MemoryDevice.fail_at.Goals.{In-Ok}

yet : (c : In-Ok) → c.is_early-is_early.result ≡ true → HasYetToCall c.args.self.now
yet c is = yet_to_call c.args.self.now c.is_early-is_early.result c.is_early-is_early.ensures is

abbrev planned : In-Ok → CommandPlan
planned c = let d = c.args.self.now.schedule in record {
  fails = c.push.new.self.items;
  stop = d.stop;
  foreign = d.foreign.items;
}

pub invariant_of-self-2-clause-backed : goal.invariant_of-self-2-clause-backed
invariant_of-self-2-clause-backed c = λ is. c.args.self.now.backed (yet c is).by_plan

pub invariant_of-self-2-clause-ran : goal.invariant_of-self-2-clause-ran
invariant_of-self-2-clause-ran c = λ is. ran_yet c.args.self.now (yet c is) (planned c)

pub invariant_of-self-2-clause-none_failed : goal.invariant_of-self-2-clause-none_failed
invariant_of-self-2-clause-none_failed c = λ is may. (yet c is).faults

pub invariant_of-self-2-clause-most_failed : goal.invariant_of-self-2-clause-most_failed
invariant_of-self-2-clause-most_failed c = λ is. most_yet c.args.self.now (yet c is) (planned c)

pub invariant_of-self-2-clause-some_failed : goal.invariant_of-self-2-clause-some_failed
invariant_of-self-2-clause-some_failed c = λ is. some_yet c.args.self.now (yet c is) (planned c)

pub invariant_of-self-2-clause-none_written : goal.invariant_of-self-2-clause-none_written
invariant_of-self-2-clause-none_written c = λ is may.
    (yet c is).foreign_writes

pub invariant_of-self-2-clause-most_written : goal.invariant_of-self-2-clause-most_written
invariant_of-self-2-clause-most_written c = λ is few.
    omega (arith, (yet c is).foreign_writes)

pub invariant_of-self-2-clause-named : goal.invariant_of-self-2-clause-named
invariant_of-self-2-clause-named c = λ is. c.args.self.now.named (yet c is).by_plan

pub invariant_of-self-2-clause-stands : goal.invariant_of-self-2-clause-stands
invariant_of-self-2-clause-stands c = λ is. c.args.self.now.stands (yet c is).by_plan

-- where there was no memory nothing is planned
abbrev with_fails : Schedule → List Moment → CommandPlan
with_fails d l = record { fails = l; stop = d.stop; foreign = d.foreign.items }

pub invariant_of-self-clause-ran : goal.invariant_of-self-clause-ran
invariant_of-self-clause-ran c = λ is. let d = c.args.self.now in
    subst (λ l. ∥ HasRun (with_fails d.schedule l) d.marks.items (course_of (memory_of d)) ∥₁)
    (sym c.in_default.ensures.items) (d.ran is)

pub invariant_of-self-clause-none_failed : goal.invariant_of-self-clause-none_failed
invariant_of-self-clause-none_failed c = λ is may. let d = c.args.self.now in d.none_failed is
    (sym (ap (λ l. may_fail (with_fails d.schedule l) d.schedule.steps d.schedule.calls) c.in_default.ensures.items) ∙ may)

pub invariant_of-self-clause-most_failed : goal.invariant_of-self-clause-most_failed
invariant_of-self-clause-most_failed c = λ is may few. let d = c.args.self.now in
    let same = ap (λ l. failures_reached (with_fails d.schedule l) d.schedule.steps d.schedule.calls) c.in_default.ensures.items in
    omega (arith, same, d.most_failed is may few)

pub invariant_of-self-clause-some_failed : goal.invariant_of-self-clause-some_failed
invariant_of-self-clause-some_failed c = λ is must. let d = c.args.self.now in d.some_failed is
    (sym (ap (λ l. must_fail (with_fails d.schedule l) d.schedule.steps d.schedule.calls) c.in_default.ensures.items) ∙ must)

pub invariant_of-self-clause-none_written : goal.invariant_of-self-clause-none_written
invariant_of-self-clause-none_written c = c.args.self.now.none_written

pub invariant_of-self-clause-most_written : goal.invariant_of-self-clause-most_written
invariant_of-self-clause-most_written c = c.args.self.now.most_written
