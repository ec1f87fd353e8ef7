-- Two numbers of the block are those of two of its lists.
use Rattle.std.proofs.Common.{arith}
use Rattle.list_audit.proofs.Taking.{shared_two, two_shared}
use Rattle.list_audit.proofs.found.FoundBlocks.lists_of.Goals as goal

pub returns-in-Some-clause-two : goal.returns-in-Some-clause-two
returns-in-Some-clause-two c = (
  λ two. two_shared c.requires c.args.block _ (omega (arith, c.from-from.ensures)) (c.numbers_between-between.ensures.two.0 two),
  λ shared. c.numbers_between-between.ensures.two.1 (shared_two c.requires c.args.block _ (omega (arith, c.from-from.ensures)) shared),
)

pub returns-in-None-clause-two : goal.returns-in-None-clause-two
returns-in-None-clause-two c = (
  λ two. two_shared c.requires c.args.block _ (omega (arith, c.from-from.ensures)) (c.numbers_between-between.ensures.two.0 two),
  λ shared. c.numbers_between-between.ensures.two.1 (shared_two c.requires c.args.block _ (omega (arith, c.from-from.ensures)) shared),
)
