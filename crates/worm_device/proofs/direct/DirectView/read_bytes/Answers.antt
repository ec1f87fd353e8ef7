-- What the device answers is what the view shows.
use Rattle.worm_device.proofs.Resting.{viewed_directly}
use Rattle.worm_device.proofs.direct.DirectView.read_bytes.Goals as goal

pub returns : goal.returns
returns g c = record {
  viewed = viewed_directly c.args.self.now.device.ghost_name (g.D.Device.state c.args.self.now.device.now)
      (g.D.Device.state c.read_bytes.new.self) c.read_bytes.ensures.called c.read_bytes.ensures.only;
  size = c.read_bytes.ensures.size;
  answer = c.read_bytes.ensures.answer;
  cause = c.read_bytes.ensures.cause;
  count = c.read_bytes.ensures.count;
}
