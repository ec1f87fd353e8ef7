-- Each exit, by how far the command came.
use Rattle.std.proofs.Common.{ℕ, List, Ok, Err, refl, subst, rules}
use Rattle.cell_types.specs.declared.refusal.Refusal.TheVariants.{SinkFault}
use Rattle.cell_types.proofs.Passed.{handed}
use Rattle.ingest_engine.specs.Ingesting.{Ingests}
use Rattle.volume_commands.specs.Ingesting.{taken, untaken}
use Rattle.volume_commands.specs.Taking.{refusal_of_body_fault}
use Rattle.volume_commands.proofs.Taken.{is_body}
use Rattle.volume_commands.proofs.ingest.ingest_body.Goals as goal

-- the body was not taken
pub returns-in_err-body : goal.returns-in_err-body
returns-in_err-body g c =
    let fault = c.in_err-body.field-0.0 in
    let fails = c.in_err-body.ensures.fails in
    rw (handed c.from_residual.result (refusal_of_body_fault fault) c.from_residual.ensures.1)
    (untaken fails.0 fault (c.is_identifier.ensures.0 (search rules)) fails.1 fails.2 refl refl refl)

-- the document was not stored
pub returns-in_err-slot : goal.returns-in_err-slot
returns-in_err-slot g c =
    let device = g.D.Device.state c.args.device.now in
    let later = g.D.Device.state c.ingest.new.device in
    let body = c.in_ok-body.ensures.body in
    let refusal = c.in_err-slot.field-0.0 in
    rw (handed c.from_residual-in_err-slot.result refusal c.from_residual-in_err-slot.ensures.1)
    (taken c.in_ok-body.body.items (Err refusal) (c.is_identifier.ensures.0 (search rules))
    (is_body body.0) body.1 body.2
    (subst (λ (b : List ℕ). Ingests c.args.id.now c.args.stamp b device later (Err refusal)) c.deref.ensures.value
    c.in_err-slot.ensures)
    (refl, refl))

-- it was, and the sink failed then
pub returns-in_err-put_slot_line : goal.returns-in_err-put_slot_line
returns-in_err-put_slot_line g c =
    let device = g.D.Device.state c.args.device.now in
    let later = g.D.Device.state c.ingest.new.device in
    let body = c.in_ok-body.ensures.body in
    let slot = c.in_ok-slot.slot in
    let failed = c.from_residual-in_err-put_slot_line in
    rw (handed failed.result SinkFault failed.ensures.1)
    (taken c.in_ok-body.body.items (Ok slot) (c.is_identifier.ensures.0 (search rules)) (is_body body.0) body.1 body.2
    (subst (λ (b : List ℕ). Ingests c.args.id.now c.args.stamp b device later (Ok slot)) c.deref.ensures.value
    c.in_ok-slot.ensures)
    c.in_err-put_slot_line.ensures.part)

-- it was, and acknowledged
pub returns : goal.returns
returns g c =
    let device = g.D.Device.state c.args.device.now in
    let later = g.D.Device.state c.ingest.new.device in
    let body = c.in_ok-body.ensures.body in
    let slot = c.in_ok-slot.slot in
    taken c.in_ok-body.body.items (Ok slot) (c.is_identifier.ensures.0 (search rules)) (is_body body.0) body.1 body.2
    (subst (λ (b : List ℕ). Ingests c.args.id.now c.args.stamp b device later (Ok slot)) c.deref.ensures.value
    c.in_ok-slot.ensures)
    c.in_ok-put_slot_line.ensures.whole
