-- A call that came leaves the command going by its plan, and comes the same whether that is so or not.
use Rattle.std.proofs.Common.{◌≡◌, is_err, true, false, ap, ◌∙◌, arith}
use Rattle.std.proofs.Math.Logic.{∥∥₁_map}
use Rattle.worm_memory.specs.Device.{memory_of, outcome, room_of}
use Rattle.worm_memory.specs.Memory.{KeepsPlan, Memory}
use Rattle.worm_memory.proofs.Apart.{arrived_with, with_by}
use Rattle.worm_memory.proofs.Following.{arrived_keeps}
use Rattle.worm_memory.proofs.Running.{in_step}
use Rattle.worm_memory.proofs.Telling.{keeps_plan}
use Rattle.worm_memory.proofs.memory_device.MemoryDevice.arrive.Goals as goal
use Rattle.worm_memory.proofs.memory_device.MemoryDevice.arrive.Goals.{After-come-come}

-- the command does not go by its plan while the call comes
kept : (c : After-come-come) → c.args.self.now.by_plan ≡ true → KeepsPlan (memory_of c.come-come.new.self)
kept c is =
    let old = c.args.self.now in
    let keeps = keeps_plan old is in
    arrived_keeps c.args.is_step (record (memory_of old) { by_plan = false }) (room_of old)
    (outcome c.come-come.new.self (is_err c.come-come.result)) c.come-come.ensures.arrives
    (c.come-come.ensures.roomy (old.backed is)) old.steps_fit
    c.read_counts.ensures.steps c.read_counts.ensures.calls c.read_counts.ensures.faults
    c.read_counts.ensures.foreign_writes old.later (omega (arith, old.longer)) (omega (arith, old.one_each))
    (record {
      run = keeps.run;
      none = keeps.none;
      most = keeps.most;
      some = keeps.some;
      unwritten = keeps.unwritten;
      few = keeps.few;
      named = keeps.named;
      made = keeps.made;
      stands = keeps.stands;
    })

pub invariant_of-self-2-clause-ran : goal.invariant_of-self-2-clause-ran
invariant_of-self-2-clause-ran c = λ is. (kept c is).run

pub invariant_of-self-2-clause-none_failed : goal.invariant_of-self-2-clause-none_failed
invariant_of-self-2-clause-none_failed c = λ is. (kept c is).none

pub invariant_of-self-2-clause-most_failed : goal.invariant_of-self-2-clause-most_failed
invariant_of-self-2-clause-most_failed c = λ is. (kept c is).most

pub invariant_of-self-2-clause-some_failed : goal.invariant_of-self-2-clause-some_failed
invariant_of-self-2-clause-some_failed c = λ is. (kept c is).some

pub invariant_of-self-2-clause-none_written : goal.invariant_of-self-2-clause-none_written
invariant_of-self-2-clause-none_written c = λ is. (kept c is).unwritten

pub invariant_of-self-2-clause-most_written : goal.invariant_of-self-2-clause-most_written
invariant_of-self-2-clause-most_written c = λ is. (kept c is).few

pub invariant_of-self-2-clause-named : goal.invariant_of-self-2-clause-named
invariant_of-self-2-clause-named c = λ is. (kept c is).named

pub invariant_of-self-2-clause-stands : goal.invariant_of-self-2-clause-stands
invariant_of-self-2-clause-stands c = λ is. (kept c is).stands

pub invariant_of-self-2-clause-backed : goal.invariant_of-self-2-clause-backed
invariant_of-self-2-clause-backed c = λ is. c.come-come.ensures.ample ∙ c.args.self.now.backed is

pub returns-clause-arrives : goal.returns-clause-arrives
returns-clause-arrives c =
    let old = c.args.self.now in
    let apart : Memory = record (memory_of old) { by_plan = false } in
    ap (with_by old.by_plan) c.come-come.ensures.arrives
    ∙ arrived_with old.by_plan c.args.is_step apart (room_of old)

-- a step that goes on has changed nothing itself so far
pub returns-clause-in_step : goal.returns-clause-in_step
returns-clause-in_step c = λ goes step is.
    let old = c.args.self.now in
    ∥∥₁_map (old.ran is) (in_step c.args.is_step (record (memory_of old) { by_plan = false }) (room_of old)
    (outcome c.come-come.new.self (is_err c.come-come.result)) c.come-come.ensures.arrives
    (c.come-come.ensures.roomy (old.backed is)) step goes)
