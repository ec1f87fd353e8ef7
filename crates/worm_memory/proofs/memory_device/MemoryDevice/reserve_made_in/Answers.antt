-- What is noted of the changes stays.
use Rattle.std.proofs.Common.{sym, subst}
use Rattle.worm_memory.specs.Device.{memory_of}
use Rattle.worm_memory.specs.Memory.{course_of}
use Rattle.worm_memory.specs.Plans.{plan_of}
use Rattle.worm_memory.specs.Runs.{HasRun}
use Rattle.worm_memory.proofs.memory_device.MemoryDevice.reserve_made_in.Goals as goal

pub invariant_of-self-clause-ran : goal.invariant_of-self-clause-ran
invariant_of-self-clause-ran c = λ is.
    let d = c.args.self.now in
    subst (λ made_in. ∥ HasRun (plan_of d.schedule) d.marks.items
    (record (course_of (memory_of d)) { made_in = made_in }) ∥₁) (sym c.reserve.ensures.items) (d.ran is)
