-- A command that goes by its plan has kept it.
use Rattle.worm_memory.proofs.Telling.{keeps_plan}
use Rattle.worm_memory.proofs.memory_device.MemoryDevice.kept_plan.Goals as goal

pub returns-clause-kept : goal.returns-clause-kept
returns-clause-kept c = keeps_plan c.args.self.now
