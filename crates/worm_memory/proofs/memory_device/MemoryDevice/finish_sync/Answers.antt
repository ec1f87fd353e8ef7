-- A sync where nothing was unsure, where there was no room, and where it was recorded.
use Rattle.std.proofs.Common.{◌≡◌, Ok, Err, ap, sym, subst, length, vec_len, arith}
use Rattle.std.proofs.lemmas.Bool.Decides.{nat_tests}
use Rattle.worm_device.specs.Calls.{Syncs}
use Rattle.worm_memory.specs.Memory.{at_step, device_of}
use Rattle.worm_memory.specs.Device.{memory_of}
use Rattle.worm_memory.specs.Unsure.{unsure_of}
use Rattle.worm_memory.specs.Worlds.{world}
use Rattle.worm_memory.proofs.Calls.{syncs_done, syncs_idle, syncs_failed}
use Rattle.worm_memory.proofs.Unsure.{right_world, all_sure, not_all_sure}
use Rattle.worm_memory.proofs.memory_device.MemoryDevice.finish_sync.Goals as goal

pub returns-then-is_empty-clause-syncs : goal.returns-then-is_empty-clause-syncs
returns-then-is_empty-clause-syncs c = λ before step.
    let device = c.args.self.now in
    let same = ap length device.are_unsure in
    let none : length (unsure_of device.changes.items) ≡ 0 = grind (arith, nat_tests) in
    syncs_idle (memory_of device) before step (all_sure (world device.changes.items) (unsure_of device.changes.items) none
    (right_world (vec_len device.cells) device.changes.items device.are_changes))

pub record_sync-requires-clause-unsure : goal.record_sync-requires-clause-unsure
record_sync-requires-clause-unsure c =
    let device = c.args.self.now in
    let same = ap length device.are_unsure in
    not_all_sure (world device.changes.items) (unsure_of device.changes.items) (λ none. grind (arith, nat_tests))
    (right_world (vec_len device.cells) device.changes.items device.are_changes)

pub returns-then-room-eq0-clause-syncs : goal.returns-then-room-eq0-clause-syncs
returns-then-room-eq0-clause-syncs c = λ before step.
    let old = memory_of c.args.self.now in
    subst (λ m. Syncs (at_step before (device_of old)) (device_of m) (Err c.fail.result)) (sym c.fail.ensures.counted.0)
    (syncs_failed old before c.fail.result step c.fail.ensures.fits)

pub returns-clause-syncs : goal.returns-clause-syncs
returns-clause-syncs c = λ before step.
    let old = memory_of c.args.self.now in
    subst (λ m. Syncs (at_step before (device_of old)) (device_of m) (Ok tt)) (sym c.record_sync.ensures.0)
    (syncs_done old before (omega (arith, c.args.self.now.one_each)) step)
