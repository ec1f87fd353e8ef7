-- The numbers before this turn's were put.
use Rattle.std.proofs.Common.{◌≡◌, ◌++◌}
use Rattle.log_audit.proofs.sorted.numbers_of.Given as goal

abbrev pub invariant-loop-number : goal.invariant-loop-number
invariant-loop-number l = l.numbers.items ++ l.number-iterator ≡ l.set.keys
