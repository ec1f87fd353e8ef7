-- The place where the lower ones end.
use Rattle.std.proofs.Common.{ℕ, rules}
use Rattle.std.specs.Prelude.{nat_lt}
use Rattle.std.proofs.lemmas.List.Sorted.{IsPartitionPoint-from_clause}
use Rattle.log_audit.proofs.Bisecting.{are_partitioned, lower_end}
use Rattle.log_audit.proofs.sorted.lower_than.Goals as goal

pub returns : goal.returns
returns c =
    let numbers = c.args.numbers.now in let number = c.args.number in let place = c.partition_point.result in
    lower_end numbers number place c.partition_point.ensures.bound
    (IsPartitionPoint-from_clause (λ (y : ℕ). nat_lt y number) numbers place c.partition_point.ensures.partitioned
    (are_partitioned numbers number c.requires) (λ a r f' called. search rules))
