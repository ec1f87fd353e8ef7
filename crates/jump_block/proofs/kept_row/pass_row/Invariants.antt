-- The row has made some places known, which hold keys below x.
use Rattle.std.proofs.Common.{◌-◌}
use Rattle.jump_block.specs.KeptRows.{PassesRow}
use Rattle.jump_block.proofs.kept_row.pass_row.Given as goal

abbrev pub invariant-loop-front : goal.invariant-loop-front
invariant-loop-front l = PassesRow l.x l.row l.fn.front l.front

abbrev pub decreases-loop-front : goal.decreases-loop-front
decreases-loop-front l = 128 - l.front.count
