-- The request that was read is the one that the words ask for.
use Rattle.std.proofs.Common.{refl}
use Rattle.worm_device.proofs.Elapsing.{called_self}
use Rattle.command_line.specs.Requests.{request_of}
use Rattle.volume_commands.specs.Ports.{ports_of}
use Rattle.record_top.proofs.Running.{runs}
use Rattle.record_top.proofs.command.run_metered.Goals as goal

-- the words ask for nothing
pub returns-in_default : goal.returns-in_default
returns-in_default g c = record {
  called = called_self _;
  usage = (λ is. c.in_default.ensures.none, λ none. refl);
  unused = λ is. (refl, refl, refl);
  does = λ request asks. absurd (c.in_default.ensures.none request asks);
  complete = λ request asks. absurd (c.in_default.ensures.none request asks);
  steady = λ request asks. absurd (c.in_default.ensures.none request asks);
}

-- they ask for something
pub returns : goal.returns
returns g c =
    let device = g.D.Device.state in
    let source = g.S.Source.state in
    let sink = g.K.Sink.state in
    let ran = c.carry_out in
    runs _ (ports_of (device c.args.device.now) (source c.args.source.now) (sink c.args.sink.now))
    (ports_of (device ran.new.device) (source ran.new.source) (sink ran.new.sink))
    (g.met.D.Device.proper c.args.device.now) (g.met.D.Device.proper ran.new.device) (request_of c.in-Some.command)
    c.in-Some.ensures.some ran.result ran.ensures
