-- A slot without a document, one with one, and all of them, in order.
use Rattle.std.proofs.Common.{arith}
use Rattle.std.proofs.lemmas.List.Sorted.{IsNonDecreasingBy-from_sort}
use Rattle.slot_audit.proofs.Naming.{none_named_more, slot_named, all_named}
use Rattle.slot_audit.proofs.named.named_cells.Goals as goal

pub loop-slot-preserved-in_default : goal.loop-slot-preserved-in_default
loop-slot-preserved-in_default c = none_named_more c.loop-slot.invariant c.in_default.ensures.none

pub loop-slot-preserved : goal.loop-slot-preserved
loop-slot-preserved c = slot_named c.loop-slot.invariant c.in-Some.ensures.some c.in-Some.ensures.same c.in_ok-push_targets.ensures

pub returns : goal.returns
returns c = all_named c.loop-slot.invariant
    (omega (arith, c.loop-slot-test.false, c.slots-slot-end.ensures.slots)) _ c.sort_unstable.ensures.permutation (IsNonDecreasingBy-from_sort (λ x. x) _ c.sort_unstable.ensures.sorted)
