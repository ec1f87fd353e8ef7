-- The loan is not spoken of.
use Rattle.std.proofs.Common.{rules}
use Rattle.record_query.proofs.Loans.{part_by_any, puts_by_any}
use Rattle.record_query.proofs.looking_up.put_body.Goals as goal

pub put_part-requires-clause-part : goal.put_part-requires-clause-part
put_part-requires-clause-part g c =
    let part = part_by_any (g.D.Device.state c.new.result.device.now) (g.D.Device.state c.new.result.device.now) 0 0
    c.args.geometry.now c.args.part.now c.new.result.device.ghost_name in
    search (rules, part)

pub returns : goal.returns
returns g c =
    let put = c.put_part.ensures in
    let puts = puts_by_any (g.D.Device.state c.new.result.device.now)
    (g.D.Device.state c.put_part.new.view.device.now) c.new.result.device.ghost_name
    c.put_part.new.view.device.ghost_name c.args.geometry.now c.args.part.now (g.K.Sink.state c.args.sink.now)
    (g.K.Sink.state c.put_part.new.sink) c.put_part.result put.viewed put.reads put.ends in
    search (rules, puts)
