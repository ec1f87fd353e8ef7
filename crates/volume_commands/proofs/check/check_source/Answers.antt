-- Each exit, by how far the command came.
use Rattle.std.proofs.Common.{ℕ, List, Ok, Err, refl, subst, ◌∙◌}
use Rattle.cell_types.specs.declared.refusal.Refusal.TheVariants.{NoMemory, SinkFault}
use Rattle.cell_types.proofs.Passed.{handed}
use Rattle.receipt_text.specs.Form.{refusal_of_receipt}
use Rattle.receipt_text.specs.Listed.{AreListed}
use Rattle.receipt_text.specs.Reading.{ReadReceiptEnds}
use Rattle.receipt_check.specs.Checks.{refusal_of_check}
use Rattle.volume_commands.specs.Checking.{unread, untaken}
use Rattle.volume_commands.specs.Taking.{refusal_of_body_fault}
use Rattle.volume_commands.proofs.Checks.{checked_as_read}
use Rattle.volume_commands.proofs.Reports.{gets_as, part_as}
use Rattle.volume_commands.proofs.check.check_source.Goals as goal

-- no text was taken
pub returns-in_err-text : goal.returns-in_err-text
returns-in_err-text g c =
    let fault = c.in_err-text.field-0.0 in
    let fails = c.in_err-text.ensures.fails in
    rw (handed c.from_residual.result (refusal_of_body_fault fault) c.from_residual.ensures.1)
    (untaken fails.0 fault fails.1 fails.2 refl refl refl)

-- the text was not read
pub returns-in_err-receipt : goal.returns-in_err-receipt
returns-in_err-receipt g c =
    let body = c.in_ok-text.ensures.body in
    let fault = c.in_err-receipt.field-0.0 in
    rw (handed c.from_residual-in_err-receipt.result (refusal_of_receipt fault)
    c.from_residual-in_err-receipt.ensures.1)
    (unread c.in_ok-text.text.items fault body.0 body.1 body.2
    (subst (λ (n : ℕ). ReadReceiptEnds n c.in_ok-text.text.items (Err fault)) c.cells.ensures.cells
    (subst (λ (t : List ℕ). ReadReceiptEnds c.cells.result t (Err fault)) c.deref.ensures.value
    c.in_err-receipt.ensures)) refl refl
    refl)

-- the cells of the receipt are cells of the device
pub check_receipt-requires : goal.check_receipt-requires
check_receipt-requires g c =
    record {
      listed = subst (λ (n : ℕ). AreListed n c.in_ok-receipt.receipt.cells) c.cells.ensures.cells
          c.in_ok-receipt.ensures.0.listed;
    }

-- the receipt was not accepted
pub returns-in_err-checked : goal.returns-in_err-checked
returns-in_err-checked g c =
    let body = c.in_ok-text.ensures.body in
    let text = c.in_ok-text.text.items in
    let r = c.in_ok-receipt.receipt in
    let refused = c.in_err-checked.field-0.0 in
    rw (handed c.from_residual-in_err-checked.result (refusal_of_check refused)
    c.from_residual-in_err-checked.ensures.1)
    (checked_as_read _ _ _ text c.cells.result r (Err refused) c.cells.ensures.cells
    (subst (λ (t : List ℕ). ReadReceiptEnds c.cells.result t (Ok r)) c.deref.ensures.value c.in_ok-receipt.ensures)
    body.0 body.1
    body.2 c.in_err-checked.ensures (refl, refl))

-- no memory was to be had for the line
pub returns-in_err-line : goal.returns-in_err-line
returns-in_err-line g c =
    let body = c.in_ok-text.ensures.body in
    let text = c.in_ok-text.text.items in
    let r = c.in_ok-receipt.receipt in
    rw (handed c.from_residual-in_err-line.result NoMemory c.from_residual-in_err-line.ensures.1)
    (checked_as_read _ _ _ text c.cells.result r (Ok c.in_ok-checked.checked) c.cells.ensures.cells
    (subst (λ (t : List ℕ). ReadReceiptEnds c.cells.result t (Ok r)) c.deref.ensures.value c.in_ok-receipt.ensures)
    body.0 body.1
    body.2 c.in_ok-checked.ensures refl)

-- the sink failed
pub returns-in_err-put_text : goal.returns-in_err-put_text
returns-in_err-put_text g c =
    let body = c.in_ok-text.ensures.body in
    let text = c.in_ok-text.text.items in
    let r = c.in_ok-receipt.receipt in
    let failed = c.from_residual-in_err-put_text in
    rw (handed failed.result SinkFault failed.ensures.1)
    (checked_as_read _ _ _ text c.cells.result r (Ok c.in_ok-checked.checked) c.cells.ensures.cells
    (subst (λ (t : List ℕ). ReadReceiptEnds c.cells.result t (Ok r)) c.deref.ensures.value c.in_ok-receipt.ensures)
    body.0 body.1
    body.2 c.in_ok-checked.ensures
    (part_as (c.deref-2.ensures.value ∙ c.in_ok-line.ensures) c.in_err-put_text.ensures.part))

-- the line was put out
pub returns : goal.returns
returns g c =
    let body = c.in_ok-text.ensures.body in
    let text = c.in_ok-text.text.items in
    let r = c.in_ok-receipt.receipt in
    checked_as_read _ _ _ text c.cells.result r (Ok c.in_ok-checked.checked) c.cells.ensures.cells
    (subst (λ (t : List ℕ). ReadReceiptEnds c.cells.result t (Ok r)) c.deref.ensures.value c.in_ok-receipt.ensures)
    body.0 body.1
    body.2 c.in_ok-checked.ensures
    (gets_as (g.K.Sink.state c.args.sink.now) (g.K.Sink.state c.put_text.new.sink) (c.deref-2.ensures.value ∙ c.in_ok-line.ensures) c.in_ok-put_text.ensures.whole)
