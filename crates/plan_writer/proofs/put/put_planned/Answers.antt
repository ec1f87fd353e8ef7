-- The look at the free slot, and the phases.
use Rattle.std.proofs.Common.{subst, refl, ◌∙◌, Ok, Err}
use Rattle.commit_record.specs.declared.reservation.Reservation.{Reservation}
use Rattle.cell_types.proofs.Passed.{handed}
use Rattle.plan_writer.specs.Blank.{LooksForSlot}
use Rattle.plan_writer.proofs.Looked.{phases_behind, put_by_looks, put_by_phases}
use Rattle.plan_writer.proofs.PutPlans.{plan_done, plan_refused}
use Rattle.plan_writer.proofs.Refused.{blank_refused}
use Rattle.plan_writer.proofs.put.put_planned.Goals as goal

-- a cell of the free slot is written, or a read failed
pub returns-in_err-check_blank-clause-puts : goal.returns-in_err-check_blank-clause-puts
returns-in_err-check_blank-clause-puts g c =
    put_by_looks c.args.ready.now.horizon c.args.plan.now c.check_blank.ensures.called c.check_blank.ensures.quiet

pub returns-in_err-check_blank-clause-ends : goal.returns-in_err-check_blank-clause-ends
returns-in_err-check_blank-clause-ends g c = λ s0 has.
    let fault = c.in_err-check_blank.field-0.0 in
    let p = c.args.plan.now in
    let s2 = g.D.Device.state c.args.device.now in
    let s3 = g.D.Device.state c.check_blank.new.device in
    rw (handed c.from_residual.result fault c.from_residual.ensures.1)
    (blank_refused p c.args.ready.now has c.requires.free c.requires.starts c.requires.suits fault
    (subst (λ (r : Reservation). LooksForSlot c.args.ready.now.horizon r s2 s3 (Err fault)) c.reservation.ensures
    c.in_err-check_blank.ensures))

-- a cell of the plan is taken, or a call failed
pub returns-in_err-carry_out-clause-puts : goal.returns-in_err-carry_out-clause-puts
returns-in_err-carry_out-clause-puts g c =
    put_by_phases c.args.ready.now.horizon c.args.plan.now _ _ _
    (phases_behind c.args.ready.now.horizon c.args.plan.now c.check_blank.ensures.called c.check_blank.ensures.quiet
    c.in_ok-check_blank.ensures.ends.0 _ c.carry_out.ensures)

pub returns-in_err-carry_out-clause-ends : goal.returns-in_err-carry_out-clause-ends
returns-in_err-carry_out-clause-ends g c = λ s0 has.
    let fault = c.in_err-carry_out.field-0.0 in
    let p = c.args.plan.now in
    let s2 = g.D.Device.state c.args.device.now in
    let s3 = g.D.Device.state c.check_blank.new.device in
    let looks = subst (λ (r : Reservation). LooksForSlot c.args.ready.now.horizon r s2 s3 (Ok tt)) c.reservation.ensures
    c.in_ok-check_blank.ensures in
    rw (handed c.from_residual-in_err-carry_out.result fault c.from_residual-in_err-carry_out.ensures.1)
    (plan_refused p c.args.ready.now has c.requires.bounds.layout c.requires.free c.requires.suits looks.ends.1 fault
    (phases_behind c.args.ready.now.horizon p looks.called looks.quiet looks.ends.0 (Err fault) c.in_err-carry_out.ensures)
    (g.met.D.Device.proper c.carry_out.new.device).sure)

-- the plan is carried out
pub returns-clause-puts : goal.returns-clause-puts
returns-clause-puts g c =
    put_by_phases c.args.ready.now.horizon c.args.plan.now _ _ _
    (phases_behind c.args.ready.now.horizon c.args.plan.now c.check_blank.ensures.called c.check_blank.ensures.quiet
    c.in_ok-check_blank.ensures.ends.0 _ c.carry_out.ensures)

pub returns-clause-ends : goal.returns-clause-ends
returns-clause-ends g c = λ s0 has.
    let p = c.args.plan.now in
    let s2 = g.D.Device.state c.args.device.now in
    let s3 = g.D.Device.state c.check_blank.new.device in
    let looks = subst (λ (r : Reservation). LooksForSlot c.args.ready.now.horizon r s2 s3 (Ok tt)) c.reservation.ensures
    c.in_ok-check_blank.ensures in
    plan_done p c.args.ready.now has c.requires.bounds.layout c.requires.free c.requires.suits looks.ends.1 tt
    (phases_behind c.args.ready.now.horizon p looks.called looks.quiet looks.ends.0 (Ok tt) c.in_ok-carry_out.ensures)

-- no call has failed
pub returns-clause-unfailed : goal.returns-clause-unfailed
returns-clause-unfailed g c = λ okay. c.in_ok-carry_out.ensures.puts.unfailed refl ∙ c.in_ok-check_blank.ensures.ends.0
