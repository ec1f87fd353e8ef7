-- Settling, and then the time list.
use Rattle.std.proofs.lemmas.Bool.{iff_false}
use Rattle.cell_types.proofs.Passed.{handed}
use Rattle.time_index.proofs.Searched.{settled_search, unsettled, without_stamps}
use Rattle.time_index.proofs.span.search.Goals as goal

-- settling was ended
pub returns-in_err-ready : goal.returns-in_err-ready
returns-in_err-ready g c =
    let refusal = c.in_err-ready.field-0.0 in
    rw (handed c.from_residual.result refusal c.from_residual.ensures.1)
    (unsettled c.args.from c.args.to (g.D.Device.state c.args.device.now) (g.D.Device.state c.settle.new.device) refusal
    c.in_err-ready.ensures)

-- what was settled has no stamps
pub returns-then-not-is_stamped : goal.returns-then-not-is_stamped
returns-then-not-is_stamped g c =
    without_stamps c.args.from c.args.to (g.D.Device.state c.args.device.now) (g.D.Device.state c.settle.new.device)
    c.in_ok-ready.ready c.in_ok-ready.ensures (iff_false c.is_stamped.ensures.stamped c.if-not-is_stamped.true)

-- the time list was searched
pub returns : goal.returns
returns g c =
    settled_search c.in_ok-ready.ready c.args.from c.args.to (g.D.Device.state c.args.device.now)
    (g.D.Device.state c.settle.new.device) (g.D.Device.state c.gather_on_device.new.device) c.in_ok-ready.ensures
    (c.is_stamped.ensures.stamped.0 c.if-not-is_stamped.false) c.gather_on_device.ensures.viewed
    c.gather_on_device.result c.gather_on_device.ensures
