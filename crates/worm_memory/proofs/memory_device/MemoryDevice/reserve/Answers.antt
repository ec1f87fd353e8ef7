-- More room is enough room.
use Rattle.std.proofs.Common.{arith}
use Rattle.worm_memory.proofs.memory_device.MemoryDevice.reserve.Goals as goal

pub invariant_of-self-clause-roomy : goal.invariant_of-self-clause-roomy
invariant_of-self-clause-roomy c = λ is.
    omega (arith, c.reserve_made_in.new.self.roomy is, c.if-changes-self.false)
