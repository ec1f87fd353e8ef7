-- The loan is not spoken of.
use Rattle.std.proofs.Common.{rules}
use Rattle.std.proofs.lemmas.Bool.{iff_false}
use Rattle.cell_types.proofs.Passed.{handed}
use Rattle.commit_record.specs.Opening.{refusal_of}
use Rattle.time_index.proofs.AskingStamps.{no_volume, with_stamps, without_stamps}
use Rattle.time_index.proofs.stamped.check_stamps.Goals as goal

pub returns-in_err-volume : goal.returns-in_err-volume
returns-in_err-volume g c =
    let asks = no_volume (g.D.Device.state c.new.result.device.now) (g.D.Device.state c.open.new.view.device.now)
    c.new.result.device.ghost_name c.open.new.view.device.ghost_name (g.met.D.Device.proper c.open.new.view.device.now)
    c.open.ensures.viewed c.open.ensures.reads c.in_err-volume.field-0.0 c.in_err-volume.ensures.ends in
    rw (handed c.from_residual.result (refusal_of c.in_err-volume.field-0.0) c.from_residual.ensures.1)
    (search (rules, asks))

pub returns-then-not-is_stamped : goal.returns-then-not-is_stamped
returns-then-not-is_stamped g c =
    let asks = without_stamps (g.D.Device.state c.new.result.device.now) (g.D.Device.state c.open.new.view.device.now)
    c.new.result.device.ghost_name c.open.new.view.device.ghost_name (g.met.D.Device.proper c.open.new.view.device.now)
    c.open.ensures.viewed c.open.ensures.reads c.in_ok-volume.volume c.in_ok-volume.ensures.ends
    (iff_false c.is_stamped.ensures.stamped c.if-not-is_stamped.true) in
    search (rules, asks)

pub returns : goal.returns
returns g c =
    let asks = with_stamps (g.D.Device.state c.new.result.device.now) (g.D.Device.state c.open.new.view.device.now)
    c.new.result.device.ghost_name c.open.new.view.device.ghost_name (g.met.D.Device.proper c.open.new.view.device.now)
    c.open.ensures.viewed c.open.ensures.reads c.in_ok-volume.volume c.in_ok-volume.ensures.ends
    (c.is_stamped.ensures.stamped.0 c.if-not-is_stamped.false) in
    search (rules, asks)
