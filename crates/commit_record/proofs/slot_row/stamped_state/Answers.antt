-- The row, as one look.
use Rattle.std.proofs.Common.{arith}
use Rattle.cell_types.proofs.Passed.{handed}
use Rattle.cell_types.specs.declared.refusal.Fault.TheVariants.{Tampered}
use Rattle.commit_record.proofs.RowStates.{row_reads, short_row_state, short_row_tampered}
use Rattle.commit_record.proofs.slot_row.stamped_state.Goals as goal

-- the cells are a state
pub returns-clause-ends : goal.returns-clause-ends
returns-clause-ends g c =
    let read = c.in_ok-read_row.ensures in
    short_row_state c.args.geometry.now c.args.slot c.read_row.new.cells
    (row_reads c.args.slot c.reserve_at.result _ c.read_row.new.cells c.reserve_at.ensures.at
    (g.met.V.View.proper c.read_row.new.self) read)
    (omega (arith, read.size)) (λ is. omega (arith, read.size)) c.in_ok-state_of_row.field-0
    (rw c.in_ok-state_of_row.was at c.state_of_row.ensures)

-- or one of them is out of place
pub returns-in_err-state_of_row-clause-ends : goal.returns-in_err-state_of_row-clause-ends
returns-in_err-state_of_row-clause-ends g c =
    let read = c.in_ok-read_row.ensures in
    rw (handed c.from_residual-in_err-state_of_row.result (Tampered c.in_err-state_of_row.field-0.0)
    c.from_residual-in_err-state_of_row.ensures.1)
    (short_row_tampered c.args.geometry.now c.args.slot c.read_row.new.cells
    (row_reads c.args.slot c.reserve_at.result _ c.read_row.new.cells c.reserve_at.ensures.at
    (g.met.V.View.proper c.read_row.new.self) read)
    (omega (arith, read.size)) (λ is. omega (arith, read.size)) c.requires.slot c.in_err-state_of_row.field-0.0
    (rw c.in_err-state_of_row.was at c.state_of_row.ensures))
