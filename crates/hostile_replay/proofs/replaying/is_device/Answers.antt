-- By the law of devices.
use Rattle.hostile_replay.proofs.replaying.is_device.Goals as goal

pub returns : goal.returns
returns g c = g.met.D.Device.proper c.args.device.now
