-- Cell 0, and then the search.
use Rattle.cell_types.proofs.Passed.{handed}
use Rattle.time_index.proofs.Searched.{refused_stamps, searched_between}
use Rattle.time_index.proofs.span.between.Goals as goal

-- no stamps stand there
pub returns-in_err-check_stamps : goal.returns-in_err-check_stamps
returns-in_err-check_stamps g c =
    let refusal = c.in_err-check_stamps.field-0.0 in
    rw (handed c.from_residual.result refusal c.from_residual.ensures.1)
    (refused_stamps c.args.from c.args.to (g.D.Device.state c.args.device.now) (g.D.Device.state c.check_stamps.new.device)
    refusal c.in_err-check_stamps.ensures)

-- the volume was searched
pub returns : goal.returns
returns g c =
    searched_between c.args.from c.args.to (g.D.Device.state c.args.device.now)
    (g.D.Device.state c.check_stamps.new.device) (g.D.Device.state c.search.new.device) c.in_ok-check_stamps.ensures
    c.search.result c.search.ensures
