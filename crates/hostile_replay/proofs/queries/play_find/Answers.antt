-- These were found.
use Rattle.worm_memory.specs.Device.{memory_of}
use Rattle.hostile_replay.proofs.Playing.{found}
use Rattle.hostile_replay.proofs.queries.play_find.Goals as goal

pub returns-in-Ok : goal.returns-in-Ok
returns-in-Ok c = found c.a_plan_is_kept.ensures c.args.plan.now (memory_of c.args.device.now) c.begin_with.new.device
    c.find.new.device c.in_ok-begin_with.ensures c.args.terms.now c.as_slice.result.now c.as_slice.ensures
    c.in-Ok.matches
    _ c.new.ensures c.in-Ok.ensures
