-- What stands after a crash, and that it is sure.
use Rattle.std.proofs.Common.{◌≡◌, vec_len, ap, sym, subst, ◌∙◌}
use Rattle.worm_memory.specs.Memory.{Memory, device_of}
use Rattle.worm_memory.specs.Device.{memory_of}
use Rattle.worm_memory.proofs.Losing.{crashed_image, crashed_sure}
use Rattle.worm_memory.proofs.Unsure.{right_world}
use Rattle.worm_memory.proofs.memory_device.MemoryDevice.crash.Goals as goal

pub returns-clause-image : goal.returns-clause-image
returns-clause-image c = λ cell.
    let device = c.args.self.now in
    ap (λ (m : Memory). (device_of m).image cell) c.take.ensures.taken
    ∙ crashed_image (memory_of device) c.args.keep.now (right_world
    (vec_len device.cells) device.changes.items device.are_changes) cell

pub returns-clause-sure : goal.returns-clause-sure
returns-clause-sure c = λ cell.
    subst (λ (m : Memory). (device_of m).sure cell ≡ (device_of m).image cell) (sym c.take.ensures.taken)
    (crashed_sure (memory_of c.args.self.now) c.args.keep.now cell)
