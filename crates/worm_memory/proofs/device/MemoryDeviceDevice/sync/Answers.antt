-- A sync from where it came on, and one that came to fail.
use Rattle.std.proofs.Common.{false, true}
use Rattle.worm_memory.specs.Device.{memory_of, outcome, room_of}
use Rattle.worm_memory.proofs.Arriving.{IsReadyToCome, comes_as, comes_before, is_before_step, syncs_since, syncs_refused}
use Rattle.worm_memory.proofs.device.MemoryDeviceDevice.sync.Goals as goal

pub returns-in_err-arrive-clause-syncs : goal.returns-in_err-arrive-clause-syncs
returns-in_err-arrive-clause-syncs c =
    let old = c.args.self.now in
    syncs_refused c.from_residual.result c.from_residual.ensures.0
    (comes_as true (memory_of old) (room_of old) (outcome c.arrive.new.self true) c.in_err-arrive.ensures.arrives
    (record {
      faults = c.arrive.ensures.faults;
      foreign_writes = c.arrive.ensures.foreign_writes;
      steps = c.arrive.ensures.steps;
      one_each = c.arrive.ensures.one_each;
    }))

pub returns-clause-syncs : goal.returns-clause-syncs
returns-clause-syncs c =
    let old = c.args.self.now in
    let now = outcome c.arrive.new.self false in
    let ready : IsReadyToCome (memory_of old) = record {
      faults = c.arrive.ensures.faults;
      foreign_writes = c.arrive.ensures.foreign_writes;
      steps = c.arrive.ensures.steps;
      one_each = c.arrive.ensures.one_each;
    } in
    syncs_since c.finish_sync.result
    (comes_before (memory_of old) (room_of old) now c.in_ok-arrive.ensures.arrives ready)
    (c.finish_sync.ensures.syncs (memory_of old).steps
    (is_before_step (memory_of old) (room_of old) now c.in_ok-arrive.ensures.arrives ready))
