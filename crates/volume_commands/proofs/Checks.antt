-- How a check ends: over what every call of the device keeps, with nothing written, neither with `Usage` nor with
-- tampering, and where nothing hinders it with no refusal but want of memory.
use Rattle.std.proofs.Common.{◌≡◌, ◌<◌, ◌^◌, ℕ, List, Result, Ok, Err, refl, subst, sym, arith}
use Rattle.std.specs.Prelude.{⊤}
use Rattle.cell_types.specs.Image.{IsUnchanged}
use Rattle.cell_types.specs.declared.refusal.Refusal.{Refusal}
use Rattle.cell_types.specs.declared.refusal.Refusal.TheVariants as refusals
use Rattle.host_ports.specs.Sources.{Gives, IsAtEnd}
use Rattle.worm_device.specs.Calls.{Called}
use Rattle.worm_device.specs.Counts.{IsStill}
use Rattle.worm_device.specs.State.{DeviceState, IsDevice}
use Rattle.worm_device.proofs.Counting.{rose_or_still}
use Rattle.worm_device.proofs.Elapsing.{called_self}
use Rattle.command_laws.proofs.Results.{one_refusal}
use Rattle.receipt_text.specs.Form.{IsReceiptOn, refusal_of_receipt, text_of_receipt}
use Rattle.receipt_text.specs.Reading.{ReadReceiptEnds}
use Rattle.receipt_text.specs.declared.receipt.Receipt.{Receipt}
use Rattle.receipt_text.specs.declared.receipt.ReceiptFault.{ReceiptFault}
use Rattle.receipt_text.specs.declared.receipt.ReceiptFault.TheVariants as receipt_faults
use Rattle.receipt_text.proofs.OneText.{texts_are_one}
use Rattle.receipt_check.specs.Checks.{ChecksReceipt, refusal_of_check}
use Rattle.receipt_check.specs.declared.checking.CheckRefusal.{CheckRefusal}
use Rattle.receipt_check.specs.declared.checking.CheckRefusal.TheVariants as check_refusals
use Rattle.receipt_check.specs.declared.checking.Checked.{Checked}
use Rattle.volume_commands.specs.Checking.{DoesCheck, IsReadyToCheck, answer_of, checked, kept_line, unread, untaken}
use Rattle.volume_commands.specs.Ports.{IsOkOrNoMemory, Ports, TellsFromMemory}
use Rattle.volume_commands.specs.Taking.{AreBytesUpTo, refusal_of_body_fault}
use Rattle.volume_commands.specs.declared.body.BodyFault.{BodyFault}
use Rattle.volume_commands.specs.declared.body.BodyFault.TheVariants as faults
use Rattle.volume_commands.specs.declared.body.TheConstants.{MAX_RECEIPT_BYTES}
use Rattle.volume_commands.proofs.Completing.{body_taken, gives_all}
use Rattle.volume_commands.proofs.ReceiptSizes.{receipt_fits}

-- the refusal is neither `Usage` nor tampering
abbrev pub IsOfReceipts : Refusal → Type 0
IsOfReceipts refusals.Usage = ⊥
IsOfReceipts (refusals.Tampered e) = ⊥
IsOfReceipts refusal = ⊤

of_body : (fault : BodyFault) → IsOfReceipts (refusal_of_body_fault fault)
of_body faults.TooLong = tt
of_body faults.SourceFailed = tt
of_body (faults.NoMemory lack) = tt

of_text : (fault : ReceiptFault) → IsOfReceipts (refusal_of_receipt fault)
of_text (receipt_faults.BadReceipt i) = tt
of_text (receipt_faults.NoMemory lack) = tt

of_check : (refused : CheckRefusal) → IsOfReceipts (refusal_of_check refused)
of_check (check_refusals.CellDiffers c) = tt
of_check (check_refusals.NotShown n) = tt
of_check check_refusals.DeviceFault = tt
of_check (check_refusals.NoMemory lack) = tt

module _ (old new : Ports) where
  -- a check keeps what every call of the device keeps
  pub check_called : (result : Result Unit Refusal) → DoesCheck old new result → Called old.device new.device
  check_called result (untaken given fault gives fails is same keeps) =
      subst (λ (d : DeviceState). Called old.device d) (sym same) (called_self old.device)
  check_called result (unread text fault most gives end reads is same keeps) =
      subst (λ (d : DeviceState). Called old.device d) (sym same) (called_self old.device)
  check_called result (checked r answer is most gives end checks tells) = checks.called

  untouched : new.device ≡ old.device → IsUnchanged old.device.image new.device.image
  untouched same = subst (λ (d : DeviceState). IsUnchanged old.device.image d.image) (sym same) (λ cell. refl)

  -- and writes nothing
  pub check_only : (result : Result Unit Refusal) → DoesCheck old new result
      → IsStill old.device.foreign_writes new.device.foreign_writes → IsUnchanged old.device.image new.device.image
  check_only result (untaken given fault gives fails is same keeps) still = untouched same
  check_only result (unread text fault most gives end reads is same keeps) still = untouched same
  check_only result (checked r answer is most gives end checks tells) still = checks.only still

  told_of : (r : Receipt) (answer : Result Checked CheckRefusal) (other : Refusal)
      → TellsFromMemory (kept_line r) (answer_of answer) old new (Err other) → IsOfReceipts other
  told_of r (Ok done) refusals.NoMemory tells = tt
  told_of r (Ok done) refusals.SinkFault tells = tt
  told_of r (Ok done) other tells = absurd tells
  told_of r (Err refused) other tells = subst IsOfReceipts (sym tells.0) (of_check refused)

  -- it ends neither with `Usage` nor with tampering
  pub check_refuses : (other : Refusal) → DoesCheck old new (Err other) → IsOfReceipts other
  check_refuses other (untaken given fault gives fails is same keeps) =
      subst IsOfReceipts (sym (one_refusal (Err other) other (refusal_of_body_fault fault) refl is)) (of_body fault)
  check_refuses other (unread text fault most gives end reads is same keeps) =
      subst IsOfReceipts (sym (one_refusal (Err other) other (refusal_of_receipt fault) refl is)) (of_text fault)
  check_refuses other (checked r answer is most gives end checks tells) = told_of r answer other tells

  pub check_is_used : DoesCheck old new (Err refusals.Usage) → ⊥
  check_is_used does = check_refuses refusals.Usage does

-- a receipt that was read from what was taken is checked
pub checked_as_read : (old new : Ports) (result : Result Unit Refusal) (text : List ℕ) (cells : ℕ) (r : Receipt)
    (answer : Result Checked CheckRefusal) → cells ≡ old.device.cells → ReadReceiptEnds cells text (Ok r)
    → AreBytesUpTo MAX_RECEIPT_BYTES text → Gives old.source.left new.source.left text → IsAtEnd new.source.left
    → ChecksReceipt r old.device new.device answer → TellsFromMemory (kept_line r) (answer_of answer) old new result
    → DoesCheck old new result
checked_as_read old new result text cells r answer same read most gives end checks tells =
    checked r answer (subst (λ (n : ℕ). IsReceiptOn n r) same read.0)
    (subst (λ (t : List ℕ). AreBytesUpTo MAX_RECEIPT_BYTES t) read.1 most)
    (subst (λ (t : List ℕ). Gives old.source.left new.source.left t) read.1 gives) end checks tells

module _ (r : Receipt) (body : List ℕ) (old new : Ports) (ready : IsReadyToCheck r body old new)
    (device : IsDevice old.device) where
  few : old.device.cells < 2 ^ 32
  few = omega (arith, device.cells)

  -- a text that spells a receipt is read
  read_whole : (given : List ℕ) (fault : ReceiptFault) → given ≡ text_of_receipt r
      → ReadReceiptEnds old.device.cells given (Err fault) → IsOkOrNoMemory (Err (refusal_of_receipt fault))
  read_whole given (receipt_faults.NoMemory lack) same reads = tt
  read_whole given (receipt_faults.BadReceipt i) same reads = absurd (reads.none r ready.is_receipt same)

  -- and one that shows a document whose cells stand is accepted
  accepted : (refused : CheckRefusal) → ChecksReceipt r old.device new.device (Err refused)
      → IsOkOrNoMemory (Err (refusal_of_check refused))
  accepted (check_refusals.CellDiffers c) checks =
      let h = checks.ends ready.tells in
      absurd (h.differs (checks.called.image.keeps c h.value (ready.stand.keeps c h.value h.is)))
  accepted (check_refusals.NotShown n) checks = absurd (checks.ends.1 body ready.shows)
  accepted check_refusals.DeviceFault checks = absurd (rose_or_still _ _ checks.ends ready.no_device_fault)
  accepted (check_refusals.NoMemory lack) checks = tt

  told : (result : Result Unit Refusal) (answer : Result Checked CheckRefusal) (other : Receipt)
      → ChecksReceipt r old.device new.device answer → TellsFromMemory (kept_line other)
      (answer_of answer) old new result
      → IsOkOrNoMemory result
  told (Ok u) answer other checks tells = tt
  told (Err refusals.NoMemory) (Ok done) other checks tells = tt
  told (Err refusals.SinkFault) (Ok done) other checks tells = rose_or_still _ _ tells.faults ready.no_sink_fault
  told (Err refusal) (Ok done) other checks tells = absurd tells
  told (Err refusal) (Err refused) other checks tells =
      subst (λ (r : Refusal). IsOkOrNoMemory (Err r)) (sym tells.0) (accepted refused checks)

  -- the answer is Ok, or want of memory
  pub check_completes : (result : Result Unit Refusal) → DoesCheck old new result → IsOkOrNoMemory result
  check_completes result (untaken given fault gives fails is same keeps) =
      subst IsOkOrNoMemory (sym is)
      (body_taken MAX_RECEIPT_BYTES (text_of_receipt r) old new ready.source
      (receipt_fits old.device.cells r few ready.is_receipt) ready.no_source_fault given fault gives fails)
  check_completes result (unread text fault most gives end reads is same keeps) =
      subst IsOkOrNoMemory (sym is)
      (read_whole text fault
      (gives_all old.source.left (text_of_receipt r) text new.source.left ready.source gives end) reads)
  check_completes result (checked other answer is most gives end checks tells) =
      let same : other ≡ r = texts_are_one old.device.cells other r few is ready.is_receipt
      (gives_all old.source.left (text_of_receipt r) (text_of_receipt other) new.source.left ready.source gives end) in
      told result answer other (subst (λ (q : Receipt). ChecksReceipt q old.device new.device answer) same checks) tells
