-- Row after row.
use Rattle.std.proofs.Common.{arith}
use Rattle.cell_types.proofs.Passed.{handed}
use Rattle.commit_record.specs.declared.reservation.Reservation.{Reservation}
use Rattle.plan_writer.proofs.BlankSoFar.{blank_ended, blank_more, blank_none, blank_whole}
use Rattle.plan_writer.proofs.blank.look_along.Goals as goal

pub loop-start-init : goal.loop-start-init
loop-start-init g c = blank_none c.args.cells (g.D.Device.state c.args.device.now)

pub look_at_row-requires-clause-inside : goal.look_at_row-requires-clause-inside
look_at_row-requires-clause-inside g c =
    omega (
      arith,
      c.min-length.ensures,
      c.end-end.ensures,
      c.loop-start.invariant.called.cells,
      c.loop-start-test.true,
      c.requires,
    )

-- a row was not blank, or not read
pub returns-in_err-look_at_row : goal.returns-in_err-look_at_row
returns-in_err-look_at_row g c =
    let row : Reservation = record { start = c.loop-start.start; length = c.min-length.result } in
    rw (handed c.from_residual.result c.in_err-look_at_row.field-0.0 c.from_residual.ensures.1)
    (blank_ended c.args.cells row (g.D.Device.state c.args.device.now) (g.D.Device.state c.loop-start.device)
    (g.D.Device.state c.look_at_row.new.device) c.loop-start.invariant
    (omega (arith, c.min-length.ensures, c.end-end.ensures, c.loop-start-test.true)) c.in_err-look_at_row.field-0.0
    c.in_err-look_at_row.ensures)

-- a row more
pub loop-start-preserved : goal.loop-start-preserved
loop-start-preserved g c =
    let row : Reservation = record { start = c.loop-start.start; length = c.min-length.result } in
    blank_more c.args.cells row (g.D.Device.state c.args.device.now) (g.D.Device.state c.loop-start.device)
    (g.D.Device.state c.look_at_row.new.device) c.loop-start.invariant
    (omega (arith, c.min-length.ensures, c.end-end.ensures, c.loop-start-test.true)) c.in_ok-look_at_row.ensures

-- all of them
pub returns : goal.returns
returns g c =
    blank_whole c.args.cells c.loop-start.start (g.D.Device.state c.args.device.now)
    (g.D.Device.state c.loop-start.device) c.loop-start.invariant
    (omega (arith, c.end-end.ensures, c.loop-start-test.false))
