-- Slot after slot.
use Rattle.std.proofs.Common.{arith, rules, ◌≡◌}
use Rattle.cell_types.proofs.Passed.{handed}
use Rattle.cell_types.specs.Refusals.{refusal_of_fault}
use Rattle.cell_types.specs.declared.refusal.Refusal.TheVariants as refusals
use Rattle.volume_copy.proofs.Slots.{look_fails}
use Rattle.volume_copy.proofs.Walked.{walk_ends, walk_fails, walk_one, walk_over}
use Rattle.volume_copy.proofs.walking.done_in.Goals as goal

-- a slot could not be asked
pub returns-in_err-found-clause-ends : goal.returns-in_err-found-clause-ends
returns-in_err-found-clause-ends g c =
    let fault = c.in_err-found.field-0.0 in
    rw (handed c.from_residual.result (refusal_of_fault fault) c.from_residual.ensures.1)
    (walk_fails c.loop-slot.invariant c.slot_part.ensures.viewed c.args.horizon (refusal_of_fault fault)
    (look_fails c.args.volume.now.geometry c.loop-slot.slot _ _ fault c.in_err-found.ensures.ends))

-- there was no memory for its part
pub returns-in_err-push-clause-ends : goal.returns-in_err-push-clause-ends
returns-in_err-push-clause-ends g c =
    rw (handed c.from_residual-in_err-push.result refusals.NoMemory c.from_residual-in_err-push.ensures.1)
    (record { slot = c.loop-slot.slot; refuses = tt })

-- it is not done
pub loop-slot-preserved-in_default : goal.loop-slot-preserved-in_default
loop-slot-preserved-in_default g c =
    walk_over c.loop-slot.invariant c.slot_part.ensures.viewed (rw c.in_default.is at c.in_ok-found.ensures.ends)

-- it is
pub loop-slot-preserved : goal.loop-slot-preserved
loop-slot-preserved g c =
    let one = walk_one c.loop-slot.invariant c.slot_part.ensures.viewed c.in-Some.part
    (omega (arith, c.loop-slot-test.true, c.requires.most)) (rw c.in-Some.is at c.in_ok-found.ensures.ends) in
    search (rules, one, c.in_ok-push.ensures)

-- all were asked
pub returns-clause-ends : goal.returns-clause-ends
returns-clause-ends g c =
    let at_end : c.loop-slot.slot ≡ c.args.horizon = omega (arith, c.loop-slot-test.false, c.loop-slot.auto.slot-end) in
    walk_ends c.loop-slot.parts c.loop-slot.invariant at_end
