-- What was looked up is what the sink holds, which held nothing before; or it was refused.
use Rattle.std.proofs.Common.{Some, ap, ◌∙◌}
use Rattle.host_ports.specs.Memories.{SinkMemory}
use Rattle.worm_memory.specs.Device.{memory_of}
use Rattle.hostile_replay.proofs.Playing.{looked, not_looked, whole_body}
use Rattle.hostile_replay.proofs.queries.play_lookup.Goals as goal

pub returns-in-Ok : goal.returns-in-Ok
returns-in-Ok c = looked c.a_plan_is_kept.ensures c.args.plan.now (memory_of c.args.device.now) c.begin_with.new.device
    c.lookup_into.new.device c.in_ok-begin_with.ensures c.args.id.now c.bytes.result.now c.bytes.ensures _
    _ c.in-Ok.found
    c.in-Ok.ensures
    (ap (λ (m : SinkMemory). Some m.held) c.reserve-room.ensures.only
    ∙ ap (λ (m : SinkMemory). Some m.held) c.new-sink.ensures)
    _ (whole_body c.new-body.ensures.items c.in_ok-extend_from_slice-in-Ok.ensures.items c.bytes-in-Ok.ensures c.new.ensures)

pub returns : goal.returns
returns c = not_looked c.a_plan_is_kept.ensures c.args.plan.now (memory_of c.args.device.now) c.begin_with.new.device
    c.lookup_into.new.device c.in_ok-begin_with.ensures c.args.id.now c.bytes.result.now c.bytes.ensures _ _
    c.in-Err.refusal
    _ c.in-Err.ensures c.without_sink.ensures
