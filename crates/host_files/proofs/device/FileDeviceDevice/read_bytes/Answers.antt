-- A page or the file answers, and each cell is a read that is counted.
use Rattle.std.proofs.Common.{◌*◌, arith, subst}
use Rattle.host_files.specs.File.{ReadsAt}
use Rattle.host_files.proofs.ReadDirectly.{bytes_held, bytes_over}
use Rattle.host_files.proofs.device.FileDeviceDevice.read_bytes.Goals as goal

-- a page that is held
pub returns-then-copy_held : goal.returns-then-copy_held
returns-then-copy_held g c =
    let self = c.args.self.now in
    bytes_held self.cells self.reads c.saturating_add-self.result c.args.at c.args.bytes.now c.copy_held.new.bytes
    (g.F.HostFile.state self.file) self.pages.pages.items
    (omega (arith, c.copy_held.ensures.size)) (omega (arith, c.copy_held.ensures.size))
    (omega (arith, c.copy_held.ensures.size)) c.copy_held.ensures.size
    (omega arith) (g.met.F.HostFile.proper self.file) self.mirror (c.copy_held.ensures.held c.if-copy_held.true)

-- the file
pub returns : goal.returns
returns g c =
    let self = c.args.self.now in
    bytes_over self.cells self.reads c.saturating_add-self.result c.args.at c.args.bytes.now c.read_at.new.into
    (g.F.HostFile.state self.file) (g.F.HostFile.state c.read_at.new.self) c.read_at.result
    (omega arith) (omega arith) (omega arith) (omega arith) (omega arith)
    (g.met.F.HostFile.proper self.file) (subst (λ n. ReadsAt (16 * n) c.read_at.new.into (g.F.HostFile.state self.file)
    (g.F.HostFile.state c.read_at.new.self) c.read_at.result) c.from.ensures c.read_at.ensures)
