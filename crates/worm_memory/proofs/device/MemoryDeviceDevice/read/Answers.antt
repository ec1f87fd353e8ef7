-- What was found stands in the cell, and a read that came to fail is counted too.
use Rattle.std.proofs.Common.{Ok, false, true, sym, subst}
use Rattle.worm_device.specs.Calls.{Reads}
use Rattle.worm_memory.specs.Memory.{Memory, device_of}
use Rattle.worm_memory.specs.Device.{memory_of, outcome, room_of}
use Rattle.worm_memory.proofs.Arriving.{Comes, comes_as, reads_come, reads_refused}
use Rattle.worm_memory.proofs.device.MemoryDeviceDevice.read.Goals as goal

pub returns-in_err-arrive-clause-reads : goal.returns-in_err-arrive-clause-reads
returns-in_err-arrive-clause-reads c =
    let counted = c.count_read.new.self in
    let new = c.arrive.new.self in
    reads_refused (memory_of c.args.self.now) (device_of (memory_of new)) c.args.at c.from_residual.result
    c.count_read.ensures.fits c.from_residual.ensures.0
    (subst (λ (m : Memory). Comes (device_of m) (device_of (memory_of new)) true) c.count_read.ensures.counted
    (comes_as false (memory_of counted) (room_of counted) (outcome new true) c.in_err-arrive.ensures.arrives
    (record {
      faults = c.arrive.ensures.faults;
      foreign_writes = c.arrive.ensures.foreign_writes;
      steps = c.arrive.ensures.steps;
      one_each = c.arrive.ensures.one_each;
    })))

pub returns-clause-reads : goal.returns-clause-reads
returns-clause-reads c =
    let old = memory_of c.args.self.now in
    let counted = c.count_read.new.self in
    let new = c.arrive.new.self in
    subst (λ found. Reads c.args.at (device_of old) (device_of (memory_of new)) (Ok found)) (sym c.found.ensures)
    (reads_come old (device_of (memory_of new)) c.args.at c.count_read.ensures.fits
    (subst (λ (m : Memory). Comes (device_of m) (device_of (memory_of new)) false) c.count_read.ensures.counted
    (comes_as false (memory_of counted) (room_of counted) (outcome new false) c.in_ok-arrive.ensures.arrives
    (record {
      faults = c.arrive.ensures.faults;
      foreign_writes = c.arrive.ensures.foreign_writes;
      steps = c.arrive.ensures.steps;
      one_each = c.arrive.ensures.one_each;
    }))))
