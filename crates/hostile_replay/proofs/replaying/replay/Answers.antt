-- One event more is one turn more.
use Rattle.worm_memory.specs.Device.{memory_of}
use Rattle.hostile_replay.proofs.Rows.{one_more_turn}
use Rattle.hostile_replay.proofs.replaying.replay.Goals as goal

pub loop-event-preserved : goal.loop-event-preserved
loop-event-preserved c =
    one_more_turn c.args.events.now c.loop-event.event-index c.event-item.result c.in_ok-reply.reply
    c.loop-event.replies.items _ (memory_of c.args.device.now) (memory_of c.loop-event.device)
    (memory_of c.play.new.device)
    c.loop-event-test.true c.event-item.is c.loop-event.invariant c.in_ok-reply.ensures c.is_device.ensures
    c.in_ok-push.ensures.items
