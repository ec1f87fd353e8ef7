-- It was ingested.
use Rattle.worm_memory.specs.Device.{memory_of}
use Rattle.hostile_replay.proofs.Playing.{ingested}
use Rattle.hostile_replay.proofs.commands.play_ingest.Goals as goal

pub returns-in-Ok : goal.returns-in-Ok
returns-in-Ok c = ingested c.a_plan_is_kept.ensures c.args.plan.now
    (memory_of c.args.device.now) c.begin_with.new.device
    c.ingest.new.device c.in_ok-begin_with.ensures c.args.id.now c.args.stamp c.args.body.now c.bytes.result.now
    c.bytes-2.result.now
    c.bytes.ensures c.bytes-2.ensures c.in-Ok.slot c.in-Ok.ensures
