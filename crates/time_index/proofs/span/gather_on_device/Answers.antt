-- The loan is not spoken of.
use Rattle.std.proofs.Common.{rules}
use Rattle.time_index.proofs.Searched.{gathers_by_any}
use Rattle.time_index.proofs.span.gather_on_device.Goals as goal

pub returns : goal.returns
returns g c =
    let gathers = gathers_by_any c.args.ready.now c.args.from c.args.to (g.D.Device.state c.new.result.device.now)
    (g.D.Device.state c.gather.new.view.device.now) c.new.result.device.ghost_name c.gather.new.view.device.ghost_name
    c.gather.result (rw c.reach_of.ensures at c.gather.ensures) in
    search (rules, gathers)
