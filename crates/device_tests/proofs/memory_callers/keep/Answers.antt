-- A blank cell that is written is sure after the sync.
use Rattle.std.proofs.Common.{◌≡◌, ◌∙◌, false, is_err, refl, arith}
use Rattle.worm_memory.specs.Device.{memory_of, outcome, room_of}
use Rattle.worm_memory.proofs.Keeping.{has_written, sync_goes_on, sync_makes_sure}
use Rattle.device_tests.proofs.memory_callers.keep.Goals as goal

pub returns-then-is_ok-clause-sure : goal.returns-then-is_ok-clause-sure
returns-then-is_ok-clause-sure c =
    let old = c.args.device.now in
    let mid = c.write.new.self in
    let new = c.sync.new.self in
    let written = has_written (memory_of old) (room_of old) c.args.at c.args.value
    (outcome mid (is_err c.write.result)) c.requires.free (omega arith)
    (c.write.ensures.unplanned c.requires.unplanned) in
    let is : is_err c.sync.result ≡ false = sync_goes_on (memory_of mid) (room_of mid)
    (outcome new (is_err c.sync.result)) (omega (arith, written.left))
    (c.sync.ensures.unplanned (written.plan ∙ c.requires.unplanned)) in
    let kept = sync_makes_sure c.sync.result is c.sync.ensures.syncs refl in
    kept.keeps c.args.at c.args.value written.stands
