-- Before the first call no call has failed, whatever is planned.
use Rattle.std.proofs.Common.{arith, Some}
use Rattle.worm_memory.proofs.Planning.{most_yet, ran_yet, some_yet, yet_to_call}
use Rattle.worm_memory.proofs.memory_device.MemoryDevice.stop_after.Goals as goal

pub invariant_of-self-clause-backed : goal.invariant_of-self-clause-backed
invariant_of-self-clause-backed c = λ is.
    let d = c.args.self.now in d.backed (yet_to_call d c.is_early-self.result c.is_early-self.ensures is).by_plan

pub invariant_of-self-clause-ran : goal.invariant_of-self-clause-ran
invariant_of-self-clause-ran c = λ is.
    let d = c.args.self.now in
    ran_yet d (yet_to_call d c.is_early-self.result c.is_early-self.ensures is)
    (record { fails = d.schedule.fails.items; stop = Some c.args.moment; foreign = d.schedule.foreign.items })

pub invariant_of-self-clause-none_failed : goal.invariant_of-self-clause-none_failed
invariant_of-self-clause-none_failed c = λ is may.
    (yet_to_call c.args.self.now c.is_early-self.result c.is_early-self.ensures is).faults

pub invariant_of-self-clause-most_failed : goal.invariant_of-self-clause-most_failed
invariant_of-self-clause-most_failed c = λ is.
    let d = c.args.self.now in
    most_yet d (yet_to_call d c.is_early-self.result c.is_early-self.ensures is)
    (record { fails = d.schedule.fails.items; stop = Some c.args.moment; foreign = d.schedule.foreign.items })

pub invariant_of-self-clause-some_failed : goal.invariant_of-self-clause-some_failed
invariant_of-self-clause-some_failed c = λ is.
    let d = c.args.self.now in
    some_yet d (yet_to_call d c.is_early-self.result c.is_early-self.ensures is)
    (record { fails = d.schedule.fails.items; stop = Some c.args.moment; foreign = d.schedule.foreign.items })

pub invariant_of-self-clause-none_written : goal.invariant_of-self-clause-none_written
invariant_of-self-clause-none_written c = λ is may.
    (yet_to_call c.args.self.now c.is_early-self.result c.is_early-self.ensures is).foreign_writes

pub invariant_of-self-clause-most_written : goal.invariant_of-self-clause-most_written
invariant_of-self-clause-most_written c = λ is few.
    omega (arith, (yet_to_call c.args.self.now c.is_early-self.result c.is_early-self.ensures is).foreign_writes)

pub invariant_of-self-clause-named : goal.invariant_of-self-clause-named
invariant_of-self-clause-named c = λ is.
    let d = c.args.self.now in d.named (yet_to_call d c.is_early-self.result c.is_early-self.ensures is).by_plan

pub invariant_of-self-clause-stands : goal.invariant_of-self-clause-stands
invariant_of-self-clause-stands c = λ is.
    let d = c.args.self.now in d.stands (yet_to_call d c.is_early-self.result c.is_early-self.ensures is).by_plan
