-- Before the first call no call has failed, whatever is planned.
use Rattle.std.proofs.Common.{arith, List, ◌≡◌, ◌++◌, ◌∷◌, [], drop, true, vec_len, sym, subst, ap, ◌∙◌}
use Rattle.std.specs.List.{count_by, list_all, list_any}
use Rattle.worm_memory.specs.Plans.{AreWritesInside, is_due, stands_if_reached, is_called_for, last_changes}
use Rattle.worm_memory.specs.Worlds.{world}
use Rattle.worm_memory.specs.declared.moment.Timed.{Timed}
use Rattle.worm_memory.proofs.Others.{inside_append}
use Rattle.worm_memory.proofs.Following.{named_longer, none_come}
use Rattle.worm_memory.specs.Plans.{CommandPlan, plan_of}
use Rattle.worm_memory.specs.Device.{memory_of}
use Rattle.worm_memory.specs.Memory.{course_of}
use Rattle.worm_memory.specs.Runs.{HasRun}
use Rattle.worm_memory.proofs.Planning.{HasYetToCall, most_yet, ran_yet, some_yet, yet_to_call}
use Rattle.worm_memory.proofs.memory_device.MemoryDevice.foreign_before.Goals as goal
use Rattle.worm_memory.proofs.memory_device.MemoryDevice.foreign_before.Goals.{In-Ok}

yet : (c : In-Ok) → c.is_early-is_early.result ≡ true → HasYetToCall c.args.self.now
yet c is = yet_to_call c.args.self.now c.is_early-is_early.result c.is_early-is_early.ensures is

abbrev planned : In-Ok → CommandPlan
planned c = let d = c.args.self.now.schedule in record {
  fails = d.fails.items;
  stop = d.stop;
  foreign = c.push.new.self.items;
}

pub invariant_of-self-2-clause-backed : goal.invariant_of-self-2-clause-backed
invariant_of-self-2-clause-backed c = λ is. c.args.self.now.backed (yet c is).by_plan

pub invariant_of-self-2-clause-ran : goal.invariant_of-self-2-clause-ran
invariant_of-self-2-clause-ran c = λ is. ran_yet c.args.self.now (yet c is) (planned c)

pub invariant_of-self-2-clause-none_failed : goal.invariant_of-self-2-clause-none_failed
invariant_of-self-2-clause-none_failed c = λ is may. (yet c is).faults

pub invariant_of-self-2-clause-most_failed : goal.invariant_of-self-2-clause-most_failed
invariant_of-self-2-clause-most_failed c = λ is. most_yet c.args.self.now (yet c is) (planned c)

pub invariant_of-self-2-clause-some_failed : goal.invariant_of-self-2-clause-some_failed
invariant_of-self-2-clause-some_failed c = λ is. some_yet c.args.self.now (yet c is) (planned c)

abbrev timed : In-Ok → Timed
timed c = record { before = c.args.moment; at = c.args.at; value = c.args.value }

pushed : (c : In-Ok) → c.push.new.self.items ≡ c.args.self.now.schedule.foreign.items ++ timed c ∷ []
pushed c = c.in-Ok.ensures.items

pub invariant_of-self-2-clause-none_written : goal.invariant_of-self-2-clause-none_written
invariant_of-self-2-clause-none_written c = λ is may.
    (yet c is).foreign_writes

pub invariant_of-self-2-clause-most_written : goal.invariant_of-self-2-clause-most_written
invariant_of-self-2-clause-most_written c = λ is few.
    omega (arith, (yet c is).foreign_writes)

-- what was called for before is called for still, and what is planned has not come
pub invariant_of-self-2-clause-named : goal.invariant_of-self-2-clause-named
invariant_of-self-2-clause-named c = λ is.
    let d = c.args.self.now in
    ap (λ l. list_all (is_called_for d.schedule.steps d.schedule.calls l)
    (drop (last_changes d.marks.items) d.changes.items)) (pushed c)
    ∙ named_longer d.schedule.steps d.schedule.calls d.schedule.foreign.items (timed c ∷ [])
    (drop (last_changes d.marks.items) d.changes.items) (d.named (yet c is).by_plan)

pub invariant_of-self-2-clause-stands : goal.invariant_of-self-2-clause-stands
invariant_of-self-2-clause-stands c = λ is.
    let d = c.args.self.now in
    none_come d.schedule.steps d.schedule.calls (world d.changes.items).image c.push.new.self.items d.steps_fit
    (yet c is).calls

-- one more foreign write lies inside the device too
pub invariant_of-self-2-clause-planned_inside : goal.invariant_of-self-2-clause-planned_inside
invariant_of-self-2-clause-planned_inside c =
    let device = c.args.self.now in
    subst (AreWritesInside (vec_len device.cells)) (sym (pushed c))
    (inside_append (vec_len device.cells) device.schedule.foreign.items (timed c) device.planned_inside c.requires)

-- where there was no memory nothing is planned
pub invariant_of-self-clause-ran : goal.invariant_of-self-clause-ran
invariant_of-self-clause-ran c = λ is.
    let d = c.args.self.now in
    subst (λ (l : List Timed). ∥ HasRun (record (plan_of d.schedule) { foreign = l }) d.marks.items
    (course_of (memory_of d)) ∥₁) (sym c.in_default.ensures.items) (d.ran is)

pub invariant_of-self-clause-none_written : goal.invariant_of-self-clause-none_written
invariant_of-self-clause-none_written c = λ is may.
    let d = c.args.self.now in
    d.none_written is
    (sym (ap (list_any (is_due d.schedule.steps d.schedule.calls)) c.in_default.ensures.items) ∙ may)

pub invariant_of-self-clause-most_written : goal.invariant_of-self-clause-most_written
invariant_of-self-clause-most_written c = λ is few.
    let d = c.args.self.now in
    let same = ap (count_by (is_due d.schedule.steps d.schedule.calls)) c.in_default.ensures.items in
    omega (arith, same, d.most_written is few)

pub invariant_of-self-clause-named : goal.invariant_of-self-clause-named
invariant_of-self-clause-named c = λ is.
    let d = c.args.self.now in
    ap (λ l. list_all (is_called_for d.schedule.steps d.schedule.calls l)
    (drop (last_changes d.marks.items) d.changes.items)) c.in_default.ensures.items ∙ d.named is

pub invariant_of-self-clause-stands : goal.invariant_of-self-clause-stands
invariant_of-self-clause-stands c = λ is.
    let d = c.args.self.now in
    ap (list_all (stands_if_reached d.schedule.steps d.schedule.calls (world d.changes.items).image))
    c.in_default.ensures.items ∙ d.stands is

pub invariant_of-self-clause-planned_inside : goal.invariant_of-self-clause-planned_inside
invariant_of-self-clause-planned_inside c =
    let device = c.args.self.now in
    subst (AreWritesInside (vec_len device.cells)) (sym c.in_default.ensures.items) device.planned_inside
