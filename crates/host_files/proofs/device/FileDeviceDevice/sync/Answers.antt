use Rattle.host_files.proofs.Standing.{stands_synced, mirror_synced}
use Rattle.host_files.proofs.Syncing.{syncs_over}
use Rattle.host_files.proofs.device.FileDeviceDevice.sync.Goals as goal

pub returns : goal.returns
returns g c =
    let self = c.args.self.now in
    syncs_over self.cells self.reads (g.F.HostFile.state self.file) (g.F.HostFile.state c.sync.new.self)
    c.sync.result self.stands c.sync.ensures

pub invariant_of-self-clause-stands : goal.invariant_of-self-clause-stands
invariant_of-self-clause-stands g c =
    let self = c.args.self.now in
    stands_synced self.cells (g.F.HostFile.state self.file).told (g.F.HostFile.state c.sync.new.self).told
    c.sync.result self.stands c.sync.ensures.told

pub invariant_of-self-clause-mirror : goal.invariant_of-self-clause-mirror
invariant_of-self-clause-mirror g c =
    let self = c.args.self.now in
    mirror_synced self.cells (g.F.HostFile.state self.file).told (g.F.HostFile.state c.sync.new.self).told
    self.pages.pages.items c.sync.result self.mirror c.sync.ensures.told
