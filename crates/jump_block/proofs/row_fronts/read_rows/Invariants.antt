-- Each place of the rows before is known.
use Rattle.std.proofs.Common.{◌*◌}
use Rattle.jump_block.proofs.Rowing.{KnowsSoFar}
use Rattle.jump_block.proofs.row_fronts.read_rows.Given as goal

abbrev pub invariant-loop-turn : goal.invariant-loop-turn
invariant-loop-turn g l =
    KnowsSoFar l.x (32 * l.turn) (g.V.View.seen l.fn.view) (g.V.View.seen l.view) l.fn.front l.front
