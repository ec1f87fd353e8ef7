-- One cell after another.
use Rattle.worm_device.proofs.ReadBytes.{bytes_read_more}
use Rattle.worm_device.proofs.device.Device.read_bytes.Goals as goal

pub loop-place-preserved : goal.loop-place-preserved
loop-place-preserved g c = bytes_read_more c.args.at c.loop-place.place c.args.bytes.now c.loop-place.bytes
    c.put_found.new.bytes c.in_ok-found.found (g.Self.Device.state c.args.self.now)
    (g.Self.Device.state c.loop-place.self) (g.Self.Device.state c.read.new.self) c.loop-place.invariant
    (rw c.in_ok-found.was at c.read.ensures) (record {
      size = c.put_found.ensures.size;
      holds = c.put_found.ensures.holds;
      others = c.put_found.ensures.others;
    })
