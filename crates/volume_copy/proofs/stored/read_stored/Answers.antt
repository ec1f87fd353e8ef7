-- The loan is not spoken of.
use Rattle.std.proofs.Common.{rules}
use Rattle.volume_copy.proofs.Slots.{reads_stored}
use Rattle.volume_copy.proofs.Walked.{found_by_any}
use Rattle.volume_copy.proofs.stored.read_stored.Goals as goal

pub read_in-requires-clause-part : goal.read_in-requires-clause-part
read_in-requires-clause-part g c =
    let part = found_by_any c.args.volume.now.geometry (g.D.Device.state c.new.result.device.now) 0
    c.new.result.device.ghost_name c.args.part.now in
    search (rules, part)

pub returns : goal.returns
returns g c =
    let reads = reads_stored c.args.volume.now.geometry c.args.part.now.slot (g.D.Device.state c.new.result.device.now)
    (g.D.Device.state c.read_in.new.view.device.now) c.new.result.device.ghost_name
    c.read_in.new.view.device.ghost_name c.read_in.ensures.viewed c.read_in.result c.read_in.ensures.ends in
    search (rules, reads)
