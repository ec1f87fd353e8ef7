-- One cell after another.
use Rattle.std.proofs.Common.{arith}
use Rattle.host_files.proofs.RowCells.{copy_more}
use Rattle.host_files.proofs.page.copy_cells.Goals as goal

pub loop-place-init : goal.loop-place-init
loop-place-init c place held below = absurd (omega (arith, below))

pub loop-place-preserved : goal.loop-place-preserved
loop-place-preserved c = copy_more c.loop-place.place c.args.first c.loop-place.into c.cell_at.result
    c.args.bytes.now c.cell_at.ensures c.loop-place.invariant

pub returns-clause-cells : goal.returns-clause-cells
returns-clause-cells c place held below there = c.loop-place.invariant place held
    (omega (arith, below, c.loop-place-test.false, c.loop-place.auto.into)) there
