-- No block yet; one more; and all of them.
use Rattle.std.proofs.Common.{arith}
use Rattle.list_audit.proofs.Numbering.{all_decoded, none_decoded, one_decoded}
use Rattle.list_audit.proofs.found.blocks_of_numbers.Goals as goal

pub of_neighbour_number-requires : goal.of_neighbour_number-requires
of_neighbour_number-requires c = c.requires c.loop-number.number-index (omega (arith, c.loop-number-test.true))

pub loop-number-init : goal.loop-number-init
loop-number-init c = none_decoded c.args.numbers.now c.new-blocks.ensures.items

pub loop-number-preserved : goal.loop-number-preserved
loop-number-preserved c = one_decoded _ c.loop-number.invariant c.in_ok-push.ensures.items c.of_neighbour_number.ensures (omega arith)

pub returns : goal.returns
returns c = all_decoded c.loop-number.invariant (omega (arith, c.loop-number-test.false, c.loop-number.auto.number-index-end))
