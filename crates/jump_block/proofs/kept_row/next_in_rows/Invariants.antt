-- So many rows were read, one after another.
use Rattle.std.proofs.Common.{◌*◌}
use Rattle.jump_block.proofs.KeptRowing.{RowsSoFar}
use Rattle.jump_block.proofs.kept_row.next_in_rows.Given as goal

abbrev pub invariant-loop-turn : goal.invariant-loop-turn
invariant-loop-turn g l =
    RowsSoFar l.x (32 * l._turn) (g.V.View.seen l.fn.view) (g.V.View.seen l.view) l.fn.front l.front l.row
