-- One cell after another.
use Rattle.std.proofs.Common.{arith}
use Rattle.receipt_cells.proofs.Listing.{all_listed, one_more, row_starts}
use Rattle.receipt_cells.proofs.cells.list_cells.Goals as goal

pub loop-at-init : goal.loop-at-init
loop-at-init g c = row_starts c.args.from _ _

pub loop-at-preserved : goal.loop-at-preserved
loop-at-preserved g c =
    one_more c.args.from c.loop-at.at _ _ _ _ _ _ c.loop-at.invariant c.loop-at.auto.at
    (rw c.in_default.is at c.list_cell.ensures)

-- the row has come to its end
pub returns : goal.returns
returns g c =
    all_listed c.args.from c.loop-at.at c.args.to _ _ _ _ c.loop-at.invariant
    (omega (arith, c.loop-at.auto.at-end c.requires.order, c.loop-at-test.false))
