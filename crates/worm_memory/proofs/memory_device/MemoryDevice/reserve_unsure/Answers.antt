-- How the command has run does not speak of what is unsure.
use Rattle.worm_memory.proofs.memory_device.MemoryDevice.reserve_unsure.Goals as goal

pub invariant_of-self-clause-ran : goal.invariant_of-self-clause-ran
invariant_of-self-clause-ran c = c.args.self.now.ran
