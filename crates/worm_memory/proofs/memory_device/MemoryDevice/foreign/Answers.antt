-- A foreign write, made or not: the command does not go by its plan any more, and else all is as with each call.
use Rattle.worm_memory.specs.Device.{memory_of, state_of}
use Rattle.worm_memory.proofs.Calls.{foreign_taken, foreign_by_hand}
use Rattle.worm_memory.proofs.memory_device.MemoryDevice.foreign.Goals as goal

pub returns-clause-writes : goal.returns-clause-writes
returns-clause-writes c =
    foreign_by_hand (memory_of c.args.self.now) (state_of c.put_foreign.new.self) c.put_foreign.ensures.called

pub returns-in_err-put_foreign-clause-writes : goal.returns-in_err-put_foreign-clause-writes
returns-in_err-put_foreign-clause-writes c =
    foreign_by_hand (memory_of c.args.self.now) (state_of c.put_foreign.new.self) c.put_foreign.ensures.called

-- a cell that was written stays
pub returns-in-Some-clause-writes : goal.returns-in-Some-clause-writes
returns-in-Some-clause-writes c = foreign_taken (memory_of c.args.self.now)
