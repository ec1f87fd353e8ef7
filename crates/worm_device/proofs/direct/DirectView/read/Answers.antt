-- What the device answers is what the view shows.
use Rattle.std.proofs.Common.{arith}
use Rattle.worm_device.proofs.Resting.{viewed_directly}
use Rattle.worm_device.proofs.direct.DirectView.read.Goals as goal

pub returns-clause-reads : goal.returns-clause-reads
returns-clause-reads g c = record {
  viewed = viewed_directly c.args.self.now.device.ghost_name (g.D.Device.state c.args.self.now.device.now)
      (g.D.Device.state c.read.new.self) c.read.ensures.called c.read.ensures.only;
  answer = c.read.ensures.answer;
  cause = c.read.ensures.cause;
  count = omega (arith, c.read.ensures.count);
}
