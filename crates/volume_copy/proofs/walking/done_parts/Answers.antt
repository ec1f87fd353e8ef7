-- The loan is not spoken of.
use Rattle.std.proofs.Common.{rules}
use Rattle.volume_copy.proofs.Slots.{only_read}
use Rattle.volume_copy.proofs.Walked.{walked}
use Rattle.volume_copy.proofs.walking.done_parts.Goals as goal

pub returns-clause-read : goal.returns-clause-read
returns-clause-read g c =
    let read = only_read c.args.volume.now.geometry 0 (g.D.Device.state c.new.result.device.now)
    (g.D.Device.state c.done_in.new.view.device.now) c.new.result.device.ghost_name
    c.done_in.new.view.device.ghost_name c.done_in.ensures.viewed in
    search (rules, read)

pub returns-clause-ends : goal.returns-clause-ends
returns-clause-ends g c =
    let ends = walked c.args.volume.now.geometry c.args.horizon (g.D.Device.state c.new.result.device.now)
    (g.D.Device.state c.done_in.new.view.device.now) c.new.result.device.ghost_name
    c.done_in.new.view.device.ghost_name c.done_in.ensures.viewed c.done_in.result c.done_in.ensures.ends in
    search (rules, ends)
