-- By the horizon, and then by the slot's state.
use Rattle.std.proofs.Common.{arith}
use Rattle.cell_types.proofs.Passed.{handed}
use Rattle.posting_list.proofs.Evidence.{live_fault, live_not, live_state}
use Rattle.posting_list.proofs.live.live_part.Goals as goal

-- the slot is at or past the horizon
pub returns-then-slot-min-clause-live : goal.returns-then-slot-min-clause-live
returns-then-slot-min-clause-live g c = live_not c.args.reach.now c.args.slot _
    (omega (arith, c.if-slot-min.true, c.min.ensures, c.slots.ensures.slots))

-- one of its cells is out of place
pub returns-in_err-state-clause-live : goal.returns-in_err-state-clause-live
returns-in_err-state-clause-live g c =
    rw (handed c.from_residual.result c.in_err-state.field-0.0 c.from_residual.ensures.1)
    (live_fault c.args.reach.now c.args.slot _ _ c.in_err-state.field-0.0 c.slot_state.ensures.viewed
    c.in_err-state.ensures.ends)

-- or they are a state
pub returns-clause-live : goal.returns-clause-live
returns-clause-live g c = rw c.part_of_state.ensures
    (live_state c.args.reach.now c.args.slot _ _ c.in_ok-state.state
    (omega (arith, c.if-slot-min.false, c.min.ensures, c.slots.ensures.slots)) c.slot_state.ensures.viewed
    c.in_ok-state.ensures.ends)
