-- The cells before this one are known.
use Rattle.std.proofs.Common.{◌≡◌, ◌+◌}
use Rattle.jump_block.specs.RowFronts.{KnowsRow}
use Rattle.jump_block.proofs.row_fronts.know_row.Given as goal

abbrev pub invariant-loop-k : goal.invariant-loop-k
invariant-loop-k l = (l.front.count ≡ l.fn.front.count + l.k) × KnowsRow l.x l.row l.fn.front l.front
