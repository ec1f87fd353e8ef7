-- It was settled.
use Rattle.worm_memory.specs.Device.{memory_of}
use Rattle.hostile_replay.proofs.Playing.{recovered}
use Rattle.hostile_replay.proofs.commands.play_recover.Goals as goal

pub returns-in-Ok : goal.returns-in-Ok
returns-in-Ok c = recovered c.a_plan_is_kept.ensures c.args.plan.now
    (memory_of c.args.device.now) c.begin_with.new.device
    c.settle.new.device c.in_ok-begin_with.ensures c.in-Ok.ready c.in-Ok.ensures
