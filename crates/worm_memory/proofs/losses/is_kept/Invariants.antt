-- It is not among those before this turn's.
use Rattle.std.proofs.Common.{◌≡◌, drop}
use Rattle.worm_memory.specs.Unsure.{is_among}
use Rattle.worm_memory.proofs.losses.is_kept.Given as goal

abbrev pub invariant-loop-other : goal.invariant-loop-other
invariant-loop-other l = is_among l.at l.keep ≡ is_among l.at (drop l.other-index l.keep)
