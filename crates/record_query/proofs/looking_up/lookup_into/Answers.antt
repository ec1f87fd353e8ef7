-- Settling, the walk, and the body.
use Rattle.std.proofs.Common.{Err, Ok, subst, sym}
use Rattle.cell_types.proofs.Passed.{handed}
use Rattle.cell_types.specs.Refusals.{refusal_of_fault}
use Rattle.cell_types.specs.declared.refusal.Refusal.{Refusal}
use Rattle.identifier_lookup.specs.declared.answers.Walk.{Walk}
use Rattle.record_query.specs.LookingUp.{LooksUp}
use Rattle.record_query.specs.Reaching.{WalksOnDevice}
use Rattle.record_query.proofs.LookedUp.{found_whole, look_up_ended, look_up_full, look_up_unput, look_up_unsettled, look_up_unwalked, looked_up}
use Rattle.record_query.proofs.looking_up.lookup_into.Goals as goal

-- settling was ended
pub returns-in_err-ready : goal.returns-in_err-ready
returns-in_err-ready g c =
    let refusal = c.in_err-ready.field-0.0 in
    rw (handed c.from_residual.result refusal c.from_residual.ensures.1)
    (look_up_unsettled c.args.id.now _ _ _ refusal c.in_err-ready.ensures)

-- the walk was ended
pub returns-in_err-walked : goal.returns-in_err-walked
returns-in_err-walked g c =
    let fault = c.in_err-walked.field-0.0 in
    let old = g.D.Device.state c.args.device.now in
    rw (handed c.from_residual-in_err-walked.result (refusal_of_fault fault)
    c.from_residual-in_err-walked.ensures.1)
    (look_up_unwalked c.args.id.now c.in_ok-ready.ready old (g.D.Device.state c.settle.new.device)
    (g.D.Device.state c.walk_device.new.device) c.in_ok-ready.ensures c.in_err-walked.ensures.viewed
    (g.K.Sink.state c.args.sink.now) fault c.in_err-walked.ensures)

-- the path ends
pub returns-in-End : goal.returns-in-End
returns-in-End g c =
    let old = g.D.Device.state c.args.device.now in
    let settled = g.D.Device.state c.settle.new.device in
    let mid = g.D.Device.state c.walk_device.new.device in
    look_up_ended c.args.id.now c.in_ok-ready.ready old settled mid
    c.in_ok-ready.ensures c.in_ok-walked.ensures.viewed (g.K.Sink.state c.args.sink.now) c.in-End._place c.in-End._level
    (subst (λ (w : Walk). WalksOnDevice c.in_ok-ready.ready c.args.id.now settled mid (Ok w)) c.in-End.is
    c.in_ok-walked.ensures)

pub returns-in-PathFull : goal.returns-in-PathFull
returns-in-PathFull g c =
    let old = g.D.Device.state c.args.device.now in
    let settled = g.D.Device.state c.settle.new.device in
    let mid = g.D.Device.state c.walk_device.new.device in
    look_up_full c.args.id.now c.in_ok-ready.ready old settled mid
    c.in_ok-ready.ensures c.in_ok-walked.ensures.viewed (g.K.Sink.state c.args.sink.now)
    (subst (λ (w : Walk). WalksOnDevice c.in_ok-ready.ready c.args.id.now settled mid (Ok w)) c.in-PathFull.is
    c.in_ok-walked.ensures)

-- the part that was found is one, and its document was read whole
pub put_body-requires-clause-part : goal.put_body-requires-clause-part
put_body-requires-clause-part g c =
    let settled = g.D.Device.state c.settle.new.device in
    let mid = g.D.Device.state c.walk_device.new.device in
    let found = subst (λ (w : Walk). WalksOnDevice c.in_ok-ready.ready c.args.id.now settled mid (Ok w)) c.in-Found.is
    c.in_ok-walked.ensures in
    found.ends.3

pub put_body-requires-clause-whole : goal.put_body-requires-clause-whole
put_body-requires-clause-whole g c =
    let old = g.D.Device.state c.args.device.now in
    let settled = g.D.Device.state c.settle.new.device in
    let mid = g.D.Device.state c.walk_device.new.device in
    found_whole c.args.id.now c.in_ok-ready.ready old settled mid
    c.in_ok-ready.ensures c.in_ok-walked.ensures.viewed c.in-Found.part
    (subst (λ (w : Walk). WalksOnDevice c.in_ok-ready.ready c.args.id.now settled mid (Ok w)) c.in-Found.is
    c.in_ok-walked.ensures)

-- its body was put
pub returns-in-Ok : goal.returns-in-Ok
returns-in-Ok g c =
    let old = g.D.Device.state c.args.device.now in
    let settled = g.D.Device.state c.settle.new.device in
    let mid = g.D.Device.state c.walk_device.new.device in
    looked_up c.args.id.now c.in_ok-ready.ready old settled mid
    c.in_ok-ready.ensures c.in_ok-walked.ensures.viewed c.in-Found.part
    (subst (λ (w : Walk). WalksOnDevice c.in_ok-ready.ready c.args.id.now settled mid (Ok w)) c.in-Found.is
    c.in_ok-walked.ensures)
    (g.D.Device.state c.put_body.new.device) (g.K.Sink.state c.args.sink.now) (g.K.Sink.state c.put_body.new.sink)
    c.in-Ok.ensures.viewed c.in-Ok.bytes c.in-Ok.ensures.reads c.in-Ok.ensures.ends

-- or not
pub returns-in-Err : goal.returns-in-Err
returns-in-Err g c =
    let old = g.D.Device.state c.args.device.now in
    let settled = g.D.Device.state c.settle.new.device in
    let mid = g.D.Device.state c.walk_device.new.device in
    subst (λ (r : Refusal). LooksUp c.args.id.now old (g.D.Device.state c.put_body.new.device)
    (g.K.Sink.state c.args.sink.now) (g.K.Sink.state c.put_body.new.sink) (Err r)) (sym c.refusal_of_body.ensures)
    (look_up_unput c.args.id.now c.in_ok-ready.ready old settled mid
    c.in_ok-ready.ensures c.in_ok-walked.ensures.viewed c.in-Found.part
    (subst (λ (w : Walk). WalksOnDevice c.in_ok-ready.ready c.args.id.now settled mid (Ok w)) c.in-Found.is
    c.in_ok-walked.ensures)
    (g.D.Device.state c.put_body.new.device) (g.K.Sink.state c.args.sink.now) (g.K.Sink.state c.put_body.new.sink)
    c.in-Err.ensures.viewed c.in-Err.fault c.in-Err.ensures.reads c.in-Err.ensures.ends)
