-- Each exit, by how far the command came.
use Rattle.std.proofs.Common.{ℕ, List, Ok, Err, refl, subst, rules, ◌∙◌}
use Rattle.cell_types.specs.declared.refusal.Refusal.TheVariants.{NoMemory, SinkFault}
use Rattle.cell_types.proofs.Passed.{handed}
use Rattle.volume_commands.specs.Receipting.{made}
use Rattle.volume_commands.proofs.Reports.{gets_as, part_as}
use Rattle.volume_commands.proofs.receipt.put_receipt.Goals as goal

-- no receipt was made
pub returns-in_err-receipt : goal.returns-in_err-receipt
returns-in_err-receipt g c =
    let refusal = c.in_err-receipt.field-0.0 in
    rw (handed c.from_residual.result refusal c.from_residual.ensures.1)
    (made (Err refusal) (c.is_identifier.ensures.0 (search rules)) c.in_err-receipt.ensures refl (refl, refl))

-- no memory was to be had for its text
pub returns-in_err-text : goal.returns-in_err-text
returns-in_err-text g c =
    rw (handed c.from_residual-in_err-text.result NoMemory c.from_residual-in_err-text.ensures.1)
    (made (Ok c.in_ok-receipt.receipt) (c.is_identifier.ensures.0 (search rules)) c.in_ok-receipt.ensures refl refl)

-- the sink failed
pub returns-in_err-put_text : goal.returns-in_err-put_text
returns-in_err-put_text g c =
    let failed = c.from_residual-in_err-put_text in
    let text = c.deref.ensures.value ∙ c.in_ok-text.ensures in
    rw (handed failed.result SinkFault failed.ensures.1)
    (made (Ok c.in_ok-receipt.receipt) (c.is_identifier.ensures.0 (search rules)) c.in_ok-receipt.ensures refl
    (part_as text
    c.in_err-put_text.ensures.part))

-- the text was put out
pub returns : goal.returns
returns g c =
    let text = c.deref.ensures.value ∙ c.in_ok-text.ensures in
    made (Ok c.in_ok-receipt.receipt) (c.is_identifier.ensures.0 (search rules)) c.in_ok-receipt.ensures refl
    (gets_as (g.K.Sink.state c.args.sink.now) (g.K.Sink.state c.put_text.new.sink) text
    c.in_ok-put_text.ensures.whole)
