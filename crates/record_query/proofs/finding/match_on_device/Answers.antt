-- The loan is not spoken of.
use Rattle.std.proofs.Common.{rules}
use Rattle.record_query.proofs.Loans.{part_by_any, slot_by_any, viewed_by_any}
use Rattle.record_query.proofs.finding.match_on_device.Goals as goal

pub match_part-requires-clause-part : goal.match_part-requires-clause-part
match_part-requires-clause-part g c =
    let part = part_by_any (g.D.Device.state c.args.device.now) (g.D.Device.state c.args.device.now) 0 0
    c.args.geometry.now c.args.part.now c.new.result.device.ghost_name c.requires.part in
    search (rules, part)

pub returns-clause-viewed : goal.returns-clause-viewed
returns-clause-viewed g c =
    let viewed = viewed_by_any (g.D.Device.state c.new.result.device.now)
    (g.D.Device.state c.match_part.new.view.device.now) c.new.result.device.ghost_name
    c.match_part.new.view.device.ghost_name c.match_part.ensures.viewed in
    search (rules, viewed)

pub returns-clause-ends : goal.returns-clause-ends
returns-clause-ends g c = λ terms was.
    let ends = slot_by_any (g.D.Device.state c.new.result.device.now) (g.D.Device.state c.match_part.new.view.device.now)
    c.new.result.device.ghost_name c.match_part.new.view.device.ghost_name c.args.geometry.now c.args.part.now.slot terms
    c.match_part.result (c.match_part.ensures.ends terms was) in
    search (rules, ends)
