-- While a call comes, the command does not go by its plan.
use Rattle.std.proofs.Common.{ap, subst, sym, vec_len, arith}
use Rattle.worm_memory.specs.Plans.{AreWritesInside, CommandPlan}
use Rattle.worm_memory.proofs.Accounts.{no_true, ordered_next}
use Rattle.worm_memory.proofs.memory_device.MemoryDevice.count_call.Goals as goal

pub invariant_of-self-clause-ran : goal.invariant_of-self-clause-ran
invariant_of-self-clause-ran c = λ is. no_true c.args.self.now.by_plan is c.requires.apart

pub invariant_of-self-clause-none_failed : goal.invariant_of-self-clause-none_failed
invariant_of-self-clause-none_failed c = λ is. no_true c.args.self.now.by_plan is c.requires.apart

pub invariant_of-self-clause-most_failed : goal.invariant_of-self-clause-most_failed
invariant_of-self-clause-most_failed c = λ is. no_true c.args.self.now.by_plan is c.requires.apart

pub invariant_of-self-clause-some_failed : goal.invariant_of-self-clause-some_failed
invariant_of-self-clause-some_failed c = λ is. no_true c.args.self.now.by_plan is c.requires.apart

pub invariant_of-self-clause-none_written : goal.invariant_of-self-clause-none_written
invariant_of-self-clause-none_written c = λ is. no_true c.args.self.now.by_plan is c.requires.apart

pub invariant_of-self-clause-most_written : goal.invariant_of-self-clause-most_written
invariant_of-self-clause-most_written c = λ is. no_true c.args.self.now.by_plan is c.requires.apart

pub invariant_of-self-clause-named : goal.invariant_of-self-clause-named
invariant_of-self-clause-named c = λ is. no_true c.args.self.now.by_plan is c.requires.apart

pub invariant_of-self-clause-stands : goal.invariant_of-self-clause-stands
invariant_of-self-clause-stands c = λ is. no_true c.args.self.now.by_plan is c.requires.apart

pub invariant_of-self-clause-planned_inside : goal.invariant_of-self-clause-planned_inside
invariant_of-self-clause-planned_inside c =
    let device = c.args.self.now in
    subst (AreWritesInside (vec_len device.cells)) (sym (ap (λ (p : CommandPlan). p.foreign) c.count_call.ensures.plan))
    device.planned_inside

pub invariant_of-self-clause-steps_fit : goal.invariant_of-self-clause-steps_fit
invariant_of-self-clause-steps_fit c =
    let d = c.args.self.now.schedule in
    let q = c.count_call in
    omega (
      arith,
      q.ensures.steps,
      q.ensures.calls,
      ordered_next c.args.is_step d.steps d.calls c.args.self.now.steps_fit q.ensures.fits,
    )
