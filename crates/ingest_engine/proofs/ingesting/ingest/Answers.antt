-- Where an ingest ends, and what it has come to.
use Rattle.std.proofs.Common.{refl, arith}
use Rattle.cell_types.proofs.Passed.{handed}
use Rattle.cell_types.specs.Refusals.{refusal_of_fault}
use Rattle.cell_types.specs.declared.refusal.Refusal.TheVariants.{NoMemory}
use Rattle.ingest_engine.proofs.Endings.{planned_behind, put, slotless, stampless, unbegun, unplanned, unput, unroomed, unsettled}
use Rattle.ingest_engine.proofs.Suited.{is_plan_for}
use Rattle.ingest_engine.proofs.ingesting.ingest.Goals as goal

pub returns-in_err-document : goal.returns-in_err-document
returns-in_err-document g c =
    rw (handed c.from_residual.result NoMemory c.from_residual.ensures.1)
    (unbegun c.args.id.now c.args.stamp c.args.body.now (g.D.Device.state c.args.device.now) _
    c.crashes_leave_whole_slots.ensures refl)

pub returns-in_err-ready : goal.returns-in_err-ready
returns-in_err-ready g c =
    let refusal = c.in_err-ready.field-0.0 in
    rw (handed c.from_residual-in_err-ready.result refusal c.from_residual-in_err-ready.ensures.1)
    (unsettled c.args.id.now c.args.stamp c.args.body.now _ _ c.crashes_leave_whole_slots.ensures refusal
    c.in_err-ready.ensures)

pub returns-in_err-check_stamp : goal.returns-in_err-check_stamp
returns-in_err-check_stamp g c =
    let refusal = c.in_err-check_stamp.field-0.0 in
    rw (handed c.from_residual-in_err-check_stamp.result refusal c.from_residual-in_err-check_stamp.ensures.1)
    (stampless c.args.id.now c.args.stamp c.args.body.now _ _ c.crashes_leave_whole_slots.ensures c.in_ok-ready.ready
    refusal c.in_ok-ready.ensures c.in_err-check_stamp.ensures)

pub returns-in_err-check_slots : goal.returns-in_err-check_slots
returns-in_err-check_slots g c =
    let refusal = c.in_err-check_slots.field-0.0 in
    rw (handed c.from_residual-in_err-check_slots.result refusal c.from_residual-in_err-check_slots.ensures.1)
    (slotless c.args.id.now c.args.stamp c.args.body.now _ _ c.crashes_leave_whole_slots.ensures
    c.in_ok-ready.ready refusal
    c.in_ok-ready.ensures c.in_ok-check_stamp.ensures c.in_err-check_slots.ensures)

pub returns-in_err-index : goal.returns-in_err-index
returns-in_err-index g c =
    let refusal = c.in_err-index.field-0.0 in
    rw (handed c.from_residual-in_err-index.result refusal c.from_residual-in_err-index.ensures.1)
    (unplanned c.args.id.now c.args.stamp c.args.body.now _ _ c.crashes_leave_whole_slots.ensures
    (g.D.Device.state c.settle.new.device) c.in_ok-ready.ready c.in_ok-ready.ensures c.in_ok-check_stamp.ensures
    c.in_ok-check_slots.ensures
    (g.met.D.Device.proper c.plan_for.new.device) refusal c.in_err-index.ensures)

pub returns-in_err-check_room : goal.returns-in_err-check_room
returns-in_err-check_room g c =
    let refusal = c.in_err-check_room.field-0.0 in
    rw (handed c.from_residual-in_err-check_room.result refusal c.from_residual-in_err-check_room.ensures.1)
    (unroomed c.args.id.now c.args.stamp c.args.body.now _ _ c.crashes_leave_whole_slots.ensures
    (g.D.Device.state c.settle.new.device) c.in_ok-ready.ready c.in_ok-ready.ensures c.in_ok-check_stamp.ensures
    c.in_ok-check_slots.ensures
    (g.met.D.Device.proper c.plan_for.new.device) c.in_ok-index.index _ refusal
    (omega (arith, c.len.ensures, c.len-2.ensures, c.in_ok-document.ensures.cells.count)) c.in_ok-index.ensures
    c.in_err-check_room.ensures)

pub put_planned-requires-clause-suits : goal.put_planned-requires-clause-suits
put_planned-requires-clause-suits g c =
    let bounds = c.in_ok-ready.ensures.ends.0 in
    (is_plan_for _ c.args.id.now c.args.body.now c.in_ok-document.document c.requires.identifier c.requires.body
    c.in_ok-document.ensures c.deref.ensures.value refl c.args.stamp refl c.in_ok-index.ensures.ends bounds.layout
    c.in_ok-check_stamp.ensures (omega (arith, c.unwrap_or-seconds.ensures)) refl refl
    c.deref-2.ensures.value bounds.from
    bounds.to (omega (arith, c.in_ok-check_room.ensures, c.len.ensures, c.len-2.ensures))).suits

pub returns-in_err-slot : goal.returns-in_err-slot
returns-in_err-slot g c =
    let fault = c.in_err-slot.field-0.0 in
    let bounds = c.in_ok-ready.ensures.ends.0 in
    let has = planned_behind c.in_ok-ready.ensures c.in_ok-index.ensures in
    rw (handed c.from_residual-in_err-slot.result (refusal_of_fault fault) c.from_residual-in_err-slot.ensures.1)
    (unput c.args.id.now c.args.stamp c.args.body.now (g.D.Device.state c.args.device.now) _
    c.crashes_leave_whole_slots.ensures
    (g.D.Device.state c.plan_for.new.device) c.in_ok-ready.ready _ bounds.layout c.in_ok-check_stamp.ensures
    c.in_ok-check_slots.ensures has
    (g.met.D.Device.proper c.plan_for.new.device)
    (is_plan_for _ c.args.id.now c.args.body.now c.in_ok-document.document c.requires.identifier c.requires.body
    c.in_ok-document.ensures c.deref.ensures.value refl c.args.stamp refl c.in_ok-index.ensures.ends bounds.layout
    c.in_ok-check_stamp.ensures (omega (arith, c.unwrap_or-seconds.ensures)) refl refl
    c.deref-2.ensures.value bounds.from
    bounds.to (omega (arith, c.in_ok-check_room.ensures, c.len.ensures, c.len-2.ensures)))
    c.in_err-slot.ensures.puts fault (c.in_err-slot.ensures.ends (g.D.Device.state c.args.device.now) has))

pub returns : goal.returns
returns g c =
    let bounds = c.in_ok-ready.ensures.ends.0 in
    let has = planned_behind c.in_ok-ready.ensures c.in_ok-index.ensures in
    put c.args.id.now c.args.stamp c.args.body.now (g.D.Device.state c.args.device.now) _
    c.crashes_leave_whole_slots.ensures
    (g.D.Device.state c.plan_for.new.device) c.in_ok-ready.ready _ bounds.layout c.in_ok-check_stamp.ensures
    c.in_ok-check_slots.ensures has
    (g.met.D.Device.proper c.plan_for.new.device)
    (is_plan_for _ c.args.id.now c.args.body.now c.in_ok-document.document c.requires.identifier c.requires.body
    c.in_ok-document.ensures c.deref.ensures.value refl c.args.stamp refl c.in_ok-index.ensures.ends bounds.layout
    c.in_ok-check_stamp.ensures (omega (arith, c.unwrap_or-seconds.ensures)) refl refl
    c.deref-2.ensures.value bounds.from
    bounds.to (omega (arith, c.in_ok-check_room.ensures, c.len.ensures, c.len-2.ensures)))
    c.in_ok-slot.ensures.puts c.in_ok-slot.slot (c.in_ok-slot.ensures.unfailed refl)
    (c.in_ok-slot.ensures.ends (g.D.Device.state c.args.device.now) has)
