use Rattle.std.proofs.Common.{subst, sym, arith}
use Rattle.worm_device.specs.Calls.{Reads}
use Rattle.host_files.specs.Device.{device_over}
use Rattle.host_files.proofs.Reading.{reads_over, from_pages}
use Rattle.host_files.proofs.device.FileDeviceDevice.read.Goals as goal

pub returns : goal.returns
returns g c =
    let self = c.args.self.now in
    let old = g.F.HostFile.state self.file in
    let new = g.F.HostFile.state c.read.new.file in
    subst (λ n. Reads c.args.at (device_over self.cells self.reads old) (device_over self.cells n new) c.read.result)
    (sym c.saturating_add-self.ensures)
    (reads_over self.cells self.reads c.args.at old new c.read.result (omega arith) c.requires c.read.ensures.asks
    (from_pages self.cells c.args.at old.told self.pages.pages.items c.read.result self.mirror
    c.read.ensures.answers))
