-- The pages answer, and each cell is a read that is counted.
use Rattle.std.proofs.Common.{arith}
use Rattle.host_files.proofs.Reading.{row_over}
use Rattle.host_files.proofs.device.FileDeviceDevice.read_row.Goals as goal

pub returns : goal.returns
returns g c =
    let self = c.args.self.now in
    row_over self.cells self.reads c.saturating_add-self.result c.args.at c.args.cells.now c.read_row.new.found
    (g.F.HostFile.state self.file) (g.F.HostFile.state c.read_row.new.file) self.pages.pages.items c.read_row.result
    (omega arith) (omega arith) (omega arith) c.read_row.ensures.size c.read_row.ensures.asks self.mirror
    c.read_row.ensures.answers
