-- The cell that was read already, and the looks at the others, as one look.
use Rattle.cell_types.proofs.Passed.{handed}
use Rattle.std.proofs.Common.{◌∙◌, refl, subst, sym}
use Rattle.std.specs.Prelude.{IsSome}
use Rattle.cell_types.specs.declared.refusal.Fault.TheVariants.{Failed, Tampered}
use Rattle.worm_device.proofs.Counting.{rose_from}
use Rattle.worm_device.proofs.Resting.{viewed_then}
use Rattle.commit_record.proofs.LooksAsOne.{look_at, looks_faults, looks_seen, room, seen_before, state_seen, tampered_seen}
use Rattle.commit_record.proofs.used_slot.slot_state_of.Goals as goal

-- the cells are a state
pub returns-clause-room : goal.returns-clause-room
returns-clause-room g c = room _ c.in_ok-state_of_cells.field-0 c.in_ok-state_of_cells.ensures.ends.0

pub returns-clause-used : goal.returns-clause-used
returns-clause-used g c =
    c.in_ok-state_of_cells.ensures.used (subst IsSome (sym c.found_there-found.ensures.cell) refl)

pub returns-clause-ends : goal.returns-clause-ends
returns-clause-ends g c =
    let v1 = g.V.View.seen c.args.view.now in
    let v2 = g.V.View.seen c.look.new.view in
    let v3 = g.V.View.seen c.look_at_stamp.new.view in
    let v4 = g.V.View.seen c.look-2.new.view in
    let reserve = seen_before c.args.slot c.reserve_at.result c.args.reserve c.found_there-found.result v1
    c.reserve_at.ensures.at c.found_there-found.ensures.of c.found_there-found.ensures.cell c.requires.stands in
    let outcome = look_at _ _ v1 v2 c.in_ok-outcome.outcome c.outcome_at.ensures.at c.in_ok-outcome.ensures.ends in
    let done = look_at _ _ v3 v4 c.in_ok-done.done c.done_at.ensures.at c.in_ok-done.ensures.ends in
    let two = c.in_ok-outcome.ensures.viewed in
    let three = c.in_ok-stamp.ensures.viewed in
    let four = c.in_ok-done.ensures.viewed in
    state_seen c.args.volume.now.geometry c.args.slot v1 v4 c.found_there-found.result c.in_ok-outcome.outcome c.in_ok-done.done c.in_ok-stamp.stamp
    (viewed_then two (viewed_then three four))
    (looks_faults c.args.volume.now.geometry c.args.slot v1 v2 v3 v4 _ _ _ _ two three four reserve outcome c.in_ok-stamp.ensures.ends done)
    (looks_seen c.args.volume.now.geometry c.args.slot v1 v2 v3 v4 _ _ _ _ two three four reserve outcome c.in_ok-stamp.ensures.ends done)
    c.in_ok-state_of_cells.field-0 c.in_ok-state_of_cells.ensures.ends

-- each look changes what the view has seen in turn
pub returns-clause-viewed : goal.returns-clause-viewed
returns-clause-viewed g c =
    viewed_then c.in_ok-outcome.ensures.viewed (viewed_then c.in_ok-stamp.ensures.viewed c.in_ok-done.ensures.viewed)

pub returns-in_err-outcome-clause-viewed : goal.returns-in_err-outcome-clause-viewed
returns-in_err-outcome-clause-viewed g c = c.in_err-outcome.ensures.viewed

pub returns-in_err-stamp-clause-viewed : goal.returns-in_err-stamp-clause-viewed
returns-in_err-stamp-clause-viewed g c = viewed_then c.in_ok-outcome.ensures.viewed c.in_err-stamp.ensures.viewed

pub returns-in_err-done-clause-viewed : goal.returns-in_err-done-clause-viewed
returns-in_err-done-clause-viewed g c =
    viewed_then c.in_ok-outcome.ensures.viewed (viewed_then c.in_ok-stamp.ensures.viewed c.in_err-done.ensures.viewed)

-- or one of them fails
pub returns-in_err-outcome-clause-ends : goal.returns-in_err-outcome-clause-ends
returns-in_err-outcome-clause-ends g c =
    rw (handed c.from_residual.result Failed c.from_residual.ensures.1) c.in_err-outcome.ensures.ends

pub returns-in_err-stamp-clause-ends : goal.returns-in_err-stamp-clause-ends
returns-in_err-stamp-clause-ends g c =
    rw (handed c.from_residual-in_err-stamp.result Failed c.from_residual-in_err-stamp.ensures.1)
    (rose_from _ _ _ c.in_ok-outcome.ensures.ends.1 c.in_err-stamp.ensures.ends)

pub returns-in_err-done-clause-ends : goal.returns-in_err-done-clause-ends
returns-in_err-done-clause-ends g c =
    rw (handed c.from_residual-in_err-done.result Failed c.from_residual-in_err-done.ensures.1)
    (rose_from _ _ _ (c.in_ok-stamp.ensures.ends.0 ∙ c.in_ok-outcome.ensures.ends.1) c.in_err-done.ensures.ends)

-- or one of them is out of place
pub returns-in_err-state_of_cells-clause-viewed : goal.returns-in_err-state_of_cells-clause-viewed
returns-in_err-state_of_cells-clause-viewed g c =
    viewed_then c.in_ok-outcome.ensures.viewed (viewed_then c.in_ok-stamp.ensures.viewed c.in_ok-done.ensures.viewed)

pub returns-in_err-state_of_cells-clause-ends : goal.returns-in_err-state_of_cells-clause-ends
returns-in_err-state_of_cells-clause-ends g c =
    let v1 = g.V.View.seen c.args.view.now in
    let v2 = g.V.View.seen c.look.new.view in
    let v3 = g.V.View.seen c.look_at_stamp.new.view in
    let v4 = g.V.View.seen c.look-2.new.view in
    let reserve = seen_before c.args.slot c.reserve_at.result c.args.reserve c.found_there-found.result v1
    c.reserve_at.ensures.at c.found_there-found.ensures.of c.found_there-found.ensures.cell c.requires.stands in
    let outcome = look_at _ _ v1 v2 c.in_ok-outcome.outcome c.outcome_at.ensures.at c.in_ok-outcome.ensures.ends in
    let done = look_at _ _ v3 v4 c.in_ok-done.done c.done_at.ensures.at c.in_ok-done.ensures.ends in
    let two = c.in_ok-outcome.ensures.viewed in
    let three = c.in_ok-stamp.ensures.viewed in
    let four = c.in_ok-done.ensures.viewed in
    rw (handed c.from_residual-in_err-state_of_cells.result (Tampered c.in_err-state_of_cells.field-0.0)
    c.from_residual-in_err-state_of_cells.ensures.1)
    (tampered_seen c.args.volume.now.geometry c.args.slot v1 v4 c.found_there-found.result c.in_ok-outcome.outcome c.in_ok-done.done c.in_ok-stamp.stamp
    (viewed_then two (viewed_then three four))
    (looks_faults c.args.volume.now.geometry c.args.slot v1 v2 v3 v4 _ _ _ _ two three four reserve outcome c.in_ok-stamp.ensures.ends done)
    (looks_seen c.args.volume.now.geometry c.args.slot v1 v2 v3 v4 _ _ _ _ two three four reserve outcome c.in_ok-stamp.ensures.ends done)
    c.requires.slot (g.met.V.View.proper c.look-2.new.view) c.in_err-state_of_cells.field-0.0 c.in_err-state_of_cells.ensures.ends)
