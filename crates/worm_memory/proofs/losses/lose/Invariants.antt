-- What has been taken and recorded, and what is left, are all.
use Rattle.std.proofs.Common.{◌≡◌, ◌≤◌, ◌+◌, ◌++◌, drop, vec_len, vec_capacity}
use Rattle.worm_memory.specs.Losses.{crash_changes, crash_cells}
use Rattle.worm_memory.proofs.losses.lose.Given as goal

abbrev pub invariant-loop-at : goal.invariant-loop-at
invariant-loop-at l = record {
  changes : l.changes.items ++ crash_changes l.keep (drop l.at-index l.unsure)
      ≡ l.fn.changes.items ++ crash_changes l.keep l.unsure;
  cells : crash_cells l.keep (drop l.at-index l.unsure) l.cells ≡ crash_cells l.keep l.unsure l.fn.cells;
  most : vec_len l.changes ≤ vec_len l.fn.changes + l.at-index;
  capacity : vec_capacity l.changes ≡ vec_capacity l.fn.changes;
}
