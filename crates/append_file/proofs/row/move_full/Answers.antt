-- Sixteen lanes are moved, of which fifteen are the bytes of the cell.
use Rattle.std.proofs.Common.{refl}
use Rattle.append_file.proofs.RowsOn.{moves_full}
use Rattle.append_file.proofs.row.move_full.Goals as goal

pub returns-clause-moved : goal.returns-clause-moved
returns-clause-moved c = λ _.
    moves_full c.args.k c.args.row.now _ c.requires.behind refl c.if-row-k-ne-FULL_CELL.false
