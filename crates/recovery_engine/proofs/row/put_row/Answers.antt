-- One call of the device.
use Rattle.std.proofs.Common.{Ok, subst}
use Rattle.cell_types.proofs.Passed.{handed}
use Rattle.cell_types.specs.declared.refusal.Fault.TheVariants as faults
use Rattle.worm_device.specs.Rows.{WritesRow}
use Rattle.recovery_engine.proofs.Rows.{row_put, row_taken, row_unput}
use Rattle.recovery_engine.proofs.row.put_row.Goals as goal

pub returns-in_err-written : goal.returns-in_err-written
returns-in_err-written g c =
    rw (handed c.from_residual.result faults.Failed c.from_residual.ensures.1)
    (row_unput c.args.from c.args.cells.now c.args.rule c.in_err-written.field-0.0 c.in_err-written.ensures)

pub returns-in-Other : goal.returns-in-Other
returns-in-Other g c = rw c.breach.ensures
    (row_taken c.args.from c.args.cells.now c.args.rule c.in-Other.cell c.in-Other.found
    (subst (λ w. WritesRow c.args.from c.args.cells.now (g.D.Device.state c.args.device.now)
    (g.D.Device.state c.write_row.new.self) (Ok w)) c.in-Other.is c.in_ok-written.ensures))

pub returns : goal.returns
returns g c = row_put c.args.from c.args.cells.now c.args.rule
    (subst (λ w. WritesRow c.args.from c.args.cells.now (g.D.Device.state c.args.device.now)
    (g.D.Device.state c.write_row.new.self) (Ok w)) c.in_default.is c.in_ok-written.ensures)
