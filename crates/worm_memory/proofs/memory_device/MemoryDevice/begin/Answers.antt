-- The account begins anew: no call was made, and no change since.
use Rattle.std.proofs.Common.{◌≡◌, ◌≤◌, ◌*◌, drop, length, vec_len, true, sym, ap, ◌∙◌, arith}
use Rattle.std.specs.List.{list_all}
use Rattle.std.proofs.Math.Seq.{drop-length}
use Rattle.std.proofs.lemmas.Bool.{leb-true}
use Rattle.worm_memory.specs.Device.{memory_of}
use Rattle.worm_memory.specs.Memory.{is_ample, mark_of}
use Rattle.worm_memory.specs.declared.mark.Mark.{Mark}
use Rattle.worm_memory.specs.Plans.{CommandPlan, stands_if_reached, is_called_for, last_changes, last_faults, last_foreign_writes, plan_of}
use Rattle.worm_memory.specs.Worlds.{world}
use Rattle.worm_memory.proofs.Accounts.{changes_append, faults_append, foreign_writes_append, none_yet}
use Rattle.worm_memory.proofs.Running.{runs_yet}
use Rattle.worm_memory.proofs.memory_device.MemoryDevice.begin.Goals as goal
use Rattle.worm_memory.proofs.memory_device.MemoryDevice.begin.Goals.{After-begin}

-- the new mark is the last one
abbrev mark : After-begin → Mark
mark c = record (mark_of (memory_of c.args.self.now)) { changes = c.len.result }

faults_are : (c : After-begin) → last_faults c.push_reserved.new.self.items ≡ c.args.self.now.faults
faults_are c = ap last_faults c.push_reserved.ensures.items ∙ faults_append 0 c.args.self.now.marks.items (mark c)

foreign_writes_are : (c : After-begin)
    → last_foreign_writes c.push_reserved.new.self.items ≡ c.args.self.now.foreign_writes
foreign_writes_are c = ap last_foreign_writes c.push_reserved.ensures.items
    ∙ foreign_writes_append 0 c.args.self.now.marks.items (mark c)

changes_are : (c : After-begin) → last_changes c.push_reserved.new.self.items ≡ vec_len c.args.self.now.changes
changes_are c = ap last_changes c.push_reserved.ensures.items
    ∙ changes_append 0 c.args.self.now.marks.items (mark c) ∙ c.len.ensures

pub invariant_of-self-clause-later : goal.invariant_of-self-clause-later
invariant_of-self-clause-later c = omega (arith, faults_are c)

pub invariant_of-self-clause-longer : goal.invariant_of-self-clause-longer
invariant_of-self-clause-longer c = omega (arith, changes_are c)

pub invariant_of-self-clause-ran : goal.invariant_of-self-clause-ran
invariant_of-self-clause-ran c = λ is.
    let d = c.args.self.now in
    runs_yet (plan_of c.begin.new.self) c.push_reserved.new.self.items (record {
      changes = d.changes.items;
      made_in = d.made_in.items;
      steps = c.begin.new.self.steps;
      calls = c.begin.new.self.calls;
      faults = d.faults;
      foreign_writes = d.foreign_writes;
    }) (record {
      no_steps = c.begin.ensures.steps;
      no_calls = c.begin.ensures.calls;
      changes = omega (arith, changes_are c);
      made_in = omega (arith, d.one_each, changes_are c);
      faults = sym (faults_are c);
      foreign_writes = sym (foreign_writes_are c);
    })

pub invariant_of-self-clause-none_failed : goal.invariant_of-self-clause-none_failed
invariant_of-self-clause-none_failed c = λ is may. sym (faults_are c)

pub invariant_of-self-clause-most_failed : goal.invariant_of-self-clause-most_failed
invariant_of-self-clause-most_failed c = λ is may few. omega (arith, faults_are c)

pub invariant_of-self-clause-some_failed : goal.invariant_of-self-clause-some_failed
invariant_of-self-clause-some_failed c = λ is must.
    none_yet (plan_of c.begin.new.self) c.begin.new.self.steps c.begin.new.self.calls
    (omega (arith, c.begin.ensures.steps, c.begin.ensures.calls)) c.begin.ensures.calls must

pub invariant_of-self-clause-none_written : goal.invariant_of-self-clause-none_written
invariant_of-self-clause-none_written c = λ is may. sym (foreign_writes_are c)

pub invariant_of-self-clause-most_written : goal.invariant_of-self-clause-most_written
invariant_of-self-clause-most_written c = λ is few. omega (arith, foreign_writes_are c)

pub invariant_of-self-clause-named : goal.invariant_of-self-clause-named
invariant_of-self-clause-named c = λ is.
    let device = c.args.self.now in
    let called = is_called_for c.begin.new.self.steps c.begin.new.self.calls c.begin.new.self.foreign.items in
    let all : last_changes c.push_reserved.new.self.items ≡ length device.changes.items =
    omega (arith, changes_are c) in
    ap (λ n. list_all called (drop n device.changes.items)) all
    ∙ ap (list_all called) (drop-length device.changes.items)

pub invariant_of-self-clause-stands : goal.invariant_of-self-clause-stands
invariant_of-self-clause-stands c = λ is.
    let device = c.args.self.now in
    let calls = c.begin.new.self in
    ap (λ (p : CommandPlan). list_all (stands_if_reached calls.steps calls.calls (world device.changes.items).image) p.foreign)
    c.begin.ensures.plan

pub invariant_of-self-clause-roomy : goal.invariant_of-self-clause-roomy
invariant_of-self-clause-roomy c = λ is.
    let device = c.args.self.now in
    let test : is_ample (vec_len device.cells) device.spare ≡ true = sym c.has_ample_room-ample.ensures ∙ is in
    let room : 2 * vec_len device.cells ≤ device.spare =
    leb-true (2 * vec_len device.cells) device.spare test in
    omega (arith, device.few, room)
