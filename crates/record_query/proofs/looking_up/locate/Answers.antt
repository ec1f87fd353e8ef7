-- Settling, and the walk.
use Rattle.std.proofs.Common.{Ok, subst}
use Rattle.cell_types.proofs.Passed.{handed}
use Rattle.cell_types.specs.Refusals.{refusal_of_fault}
use Rattle.identifier_lookup.specs.declared.answers.Walk.{Walk}
use Rattle.record_query.specs.Reaching.{WalksOnDevice}
use Rattle.record_query.proofs.LookedUp.{located, look_up_ended, look_up_full, look_up_unsettled, look_up_unwalked}
use Rattle.record_query.proofs.looking_up.locate.Goals as goal

-- settling was ended
pub returns-in_err-ready : goal.returns-in_err-ready
returns-in_err-ready g c =
    let refusal = c.in_err-ready.field-0.0 in
    rw (handed c.from_residual.result refusal c.from_residual.ensures.1)
    (λ sink. look_up_unsettled c.args.id.now _ _ sink refusal c.in_err-ready.ensures)

-- the walk was ended
pub returns-in_err-walked : goal.returns-in_err-walked
returns-in_err-walked g c =
    let fault = c.in_err-walked.field-0.0 in
    let old = g.D.Device.state c.args.device.now in
    rw (handed c.from_residual-in_err-walked.result (refusal_of_fault fault)
    c.from_residual-in_err-walked.ensures.1)
    (λ sink. look_up_unwalked c.args.id.now c.in_ok-ready.ready old (g.D.Device.state c.settle.new.device)
    (g.D.Device.state c.walk_device.new.device) c.in_ok-ready.ensures c.in_err-walked.ensures.viewed
    sink fault c.in_err-walked.ensures)

-- the path ends
pub returns-in-End : goal.returns-in-End
returns-in-End g c =
    let settled = g.D.Device.state c.settle.new.device in
    let mid = g.D.Device.state c.walk_device.new.device in
    λ sink. look_up_ended c.args.id.now c.in_ok-ready.ready (g.D.Device.state c.args.device.now) settled mid
    c.in_ok-ready.ensures c.in_ok-walked.ensures.viewed sink c.in-End._place c.in-End._level
    (subst (λ (w : Walk). WalksOnDevice c.in_ok-ready.ready c.args.id.now settled mid (Ok w)) c.in-End.is
    c.in_ok-walked.ensures)

pub returns-in-PathFull : goal.returns-in-PathFull
returns-in-PathFull g c =
    let settled = g.D.Device.state c.settle.new.device in
    let mid = g.D.Device.state c.walk_device.new.device in
    λ sink. look_up_full c.args.id.now c.in_ok-ready.ready (g.D.Device.state c.args.device.now) settled mid
    c.in_ok-ready.ensures c.in_ok-walked.ensures.viewed sink
    (subst (λ (w : Walk). WalksOnDevice c.in_ok-ready.ready c.args.id.now settled mid (Ok w)) c.in-PathFull.is
    c.in_ok-walked.ensures)

-- the slot was found
pub returns-in-Found : goal.returns-in-Found
returns-in-Found g c =
    let settled = g.D.Device.state c.settle.new.device in
    let mid = g.D.Device.state c.walk_device.new.device in
    located c.args.id.now c.in_ok-ready.ready (g.D.Device.state c.args.device.now) settled mid
    c.in_ok-ready.ensures c.in_ok-walked.ensures.viewed c.in-Found.part
    (subst (λ (w : Walk). WalksOnDevice c.in_ok-ready.ready c.args.id.now settled mid (Ok w)) c.in-Found.is
    c.in_ok-walked.ensures)
