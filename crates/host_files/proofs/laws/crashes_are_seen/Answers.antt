-- What is sure of the file stands at each moment, so what lies between its bytes lies between its images.
use Rattle.host_files.proofs.Crashing.{crashes_seen}
use Rattle.host_files.proofs.laws.crashes_are_seen.Goals as goal

pub returns : goal.returns
returns g c =
    let device = c.args.device.now in
    crashes_seen device.cells device.reads (g.F.HostFile.state device.file) device.stands
