-- The marks stay.
use Rattle.std.proofs.Common.{◌≡◌, ap, sym, subst, ◌∙◌, drop, arith}
use Rattle.worm_memory.specs.Device.{memory_of}
use Rattle.worm_memory.specs.Memory.{course_of}
use Rattle.worm_memory.specs.Plans.{plan_of}
use Rattle.worm_memory.specs.Runs.{HasRun}
use Rattle.std.specs.List.{list_all}
use Rattle.worm_memory.specs.Plans.{is_called_for, last_changes, last_faults, last_foreign_writes}
use Rattle.worm_memory.proofs.memory_device.MemoryDevice.reserve_mark.Goals as goal
use Rattle.worm_memory.proofs.memory_device.MemoryDevice.reserve_mark.Goals.{After-reserve}

faults_are : (c : After-reserve) → last_faults c.reserve.new.items.items ≡ last_faults c.args.self.now.marks.items
faults_are c = ap last_faults c.reserve.ensures.items

foreign_writes_are : (c : After-reserve)
    → last_foreign_writes c.reserve.new.items.items ≡ last_foreign_writes c.args.self.now.marks.items
foreign_writes_are c = ap last_foreign_writes c.reserve.ensures.items

changes_are : (c : After-reserve) → last_changes c.reserve.new.items.items ≡ last_changes c.args.self.now.marks.items
changes_are c = ap last_changes c.reserve.ensures.items

pub invariant_of-self-clause-later : goal.invariant_of-self-clause-later
invariant_of-self-clause-later c = omega (arith, faults_are c, c.args.self.now.later)

pub invariant_of-self-clause-longer : goal.invariant_of-self-clause-longer
invariant_of-self-clause-longer c = omega (arith, changes_are c, c.args.self.now.longer)

pub invariant_of-self-clause-ran : goal.invariant_of-self-clause-ran
invariant_of-self-clause-ran c = λ is.
    let d = c.args.self.now in
    subst (λ marks. ∥ HasRun (plan_of d.schedule) marks (course_of (memory_of d)) ∥₁) (sym c.reserve.ensures.items)
    (d.ran is)

pub invariant_of-self-clause-none_failed : goal.invariant_of-self-clause-none_failed
invariant_of-self-clause-none_failed c = λ is may. c.args.self.now.none_failed is may ∙ sym (faults_are c)

pub invariant_of-self-clause-most_failed : goal.invariant_of-self-clause-most_failed
invariant_of-self-clause-most_failed c = λ is may few.
    omega (arith, faults_are c, c.args.self.now.most_failed is may few)

pub invariant_of-self-clause-some_failed : goal.invariant_of-self-clause-some_failed
invariant_of-self-clause-some_failed c = λ is must. omega (arith, faults_are c, c.args.self.now.some_failed is must)

pub invariant_of-self-clause-none_written : goal.invariant_of-self-clause-none_written
invariant_of-self-clause-none_written c = λ is may. c.args.self.now.none_written is may ∙ sym (foreign_writes_are c)

pub invariant_of-self-clause-most_written : goal.invariant_of-self-clause-most_written
invariant_of-self-clause-most_written c = λ is few.
    omega (arith, foreign_writes_are c, c.args.self.now.most_written is few)

pub invariant_of-self-clause-named : goal.invariant_of-self-clause-named
invariant_of-self-clause-named c = λ is.
    let d = c.args.self.now in
    ap (λ n. list_all (is_called_for d.schedule.steps d.schedule.calls d.schedule.foreign.items)
    (drop n d.changes.items)) (changes_are c) ∙ d.named is
