-- By the horizon, by the slot's state, and by its stamp.
use Rattle.std.proofs.Common.{arith}
use Rattle.cell_types.proofs.Passed.{handed}
use Rattle.worm_device.proofs.Resting.{viewed_then}
use Rattle.time_index.proofs.Parts.{its_stamp, look_fails, no_slot, not_done, other_stamp}
use Rattle.time_index.proofs.matching.stamped_part.Goals as goal

-- the slot is at or past the horizon
pub returns-then-slot-min-clause-ends : goal.returns-then-slot-min-clause-ends
returns-then-slot-min-clause-ends g c =
    no_slot c.args.reach.now c.args.entry.now c.slots.ensures.exists (g.V.View.seen c.args.view.now)
    (omega (arith, c.if-slot-min.true, c.min.ensures, c.slots.ensures.slots, c.slot_of-slot.ensures))

-- its cells are no state
pub returns-in_err-part-clause-ends : goal.returns-in_err-part-clause-ends
returns-in_err-part-clause-ends g c =
    rw (handed c.from_residual.result c.in_err-part.field-0.0 c.from_residual.ensures.1)
    (look_fails c.args.reach.now c.slot_of-slot.result _ _ c.slot_part.ensures.viewed c.in_err-part.field-0.0
    c.in_err-part.ensures.ends)

-- it is not done
pub returns-in_default-clause-ends : goal.returns-in_default-clause-ends
returns-in_default-clause-ends g c =
    not_done c.args.reach.now c.args.entry.now c.slots.ensures.exists _ _ c.slot_part.ensures.viewed
    (rw c.slot_of-slot.ensures at (rw c.in_default.is at c.in_ok-part.ensures.ends))

-- its stamp is not read
pub returns-in_err-stamp-clause-viewed : goal.returns-in_err-stamp-clause-viewed
returns-in_err-stamp-clause-viewed g c = viewed_then c.slot_part.ensures.viewed c.stamp_of.ensures.viewed

-- or is another
pub returns-then-not-is_of-clause-ends : goal.returns-then-not-is_of-clause-ends
returns-then-not-is_of-clause-ends g c =
    other_stamp c.args.reach.now c.args.entry.now c.slots.ensures.exists (g.V.View.seen c.args.view.now)
    (g.V.View.seen c.slot_part.new.view) (g.V.View.seen c.stamp_of.new.view) c.slot_part.ensures.viewed c.in-Some.part
    (rw c.slot_of-slot.ensures at (rw c.in-Some.is at c.in_ok-part.ensures.ends)) c.in_ok-stamp.stamp
    (rw c.slot_of-slot.ensures at c.in_ok-stamp.ensures) (c.is_of.ensures.no c.if-not-is_of.true)

pub returns-then-not-is_of-clause-viewed : goal.returns-then-not-is_of-clause-viewed
returns-then-not-is_of-clause-viewed g c = viewed_then c.slot_part.ensures.viewed c.stamp_of.ensures.viewed

-- or this one
pub returns-clause-viewed : goal.returns-clause-viewed
returns-clause-viewed g c = viewed_then c.slot_part.ensures.viewed c.stamp_of.ensures.viewed

pub returns-clause-ends : goal.returns-clause-ends
returns-clause-ends g c =
    its_stamp c.args.reach.now c.args.entry.now c.slots.ensures.exists (g.V.View.seen c.args.view.now)
    (g.V.View.seen c.slot_part.new.view) (g.V.View.seen c.stamp_of.new.view) c.slot_part.ensures.viewed c.in-Some.part
    (rw c.slot_of-slot.ensures at (rw c.in-Some.is at c.in_ok-part.ensures.ends))
    (omega (arith, c.if-slot-min.false, c.min.ensures, c.slots.ensures.slots, c.slot_of-slot.ensures))
    (omega (arith, c.if-slot-min.false, c.min.ensures, c.slots.ensures.slots, c.slot_of-slot.ensures))
    (rw (c.is_of.ensures.yes c.if-not-is_of.false) at (rw c.slot_of-slot.ensures at c.in_ok-stamp.ensures))
