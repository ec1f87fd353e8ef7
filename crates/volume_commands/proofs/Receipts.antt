-- How the command `receipt` ends: over what every call of the device keeps, never with `Usage`; where nothing hinders
-- it with no refusal but three; and from a steady device on, where nobody else writes, by the documents that were held.
use Rattle.std.proofs.Common.{ℕ, List, Result, Ok, Err, refl, ap, subst, sym}
use Rattle.cell_types.specs.Layout.{Layout}
use Rattle.cell_types.specs.declared.refusal.Evidence.{Evidence}
use Rattle.cell_types.specs.declared.refusal.Refusal.{Refusal}
use Rattle.cell_types.specs.declared.refusal.Refusal.TheVariants as refusals
use Rattle.worm_device.specs.Calls.{Called}
use Rattle.worm_device.specs.State.{IsDevice}
use Rattle.worm_device.proofs.Counting.{rose_or_still}
use Rattle.worm_device.proofs.Elapsing.{called_self}
use Rattle.recovery_engine.specs.Settling.{IsSettlingRule, SettlesFirst}
use Rattle.receipt_text.specs.Form.{text_of_receipt}
use Rattle.receipt_text.specs.declared.receipt.Receipt.{Receipt}
use Rattle.receipt_check.specs.Making.{MakeEnds, MakesReceipt}
use Rattle.command_laws.specs.Begins.{BeginsSteady}
use Rattle.command_laws.specs.WholeLogs.{HasWholeLog}
use Rattle.command_laws.proofs.Alarms.{query_alarms}
use Rattle.command_laws.proofs.HeldAnswers.{none_held, stand_now, stands_among}
use Rattle.command_laws.proofs.Results.{no_answer, other_refusal}
use Rattle.command_laws.proofs.WholeLogs.{settles_whole, settling_steady}
use Rattle.volume_commands.specs.Ports.{Ports, TellsFromMemory}
use Rattle.volume_commands.specs.Receipting.{DoesReceipt, IsOkOrNoReceipt, IsReadyForReceipt, made, misnamed}
use Rattle.volume_commands.specs.Steadiness.{ShowsHeld}

module _ (id : List ℕ) (old new : Ports) where
  -- a receipt keeps what every call of the device keeps
  pub receipt_called : (result : Result Unit Refusal) → DoesReceipt id old new result → Called old.device new.device
  receipt_called result (misnamed bad is same) =
      subst (λ (p : Ports). Called old.device p.device) (sym same) (called_self old.device)
  receipt_called result (made answer name makes source tells) = makes.called

  told_used : (answer : Result Receipt Refusal) → MakeEnds id old.device new.device answer
      → TellsFromMemory text_of_receipt answer old new (Err refusals.Usage) → ⊥
  told_used (Ok r) ends tells = tells
  told_used (Err refused) ends tells =
      subst (λ (r : Refusal). MakeEnds id old.device new.device (Err r)) (sym tells.0) ends

  -- and never ends with `Usage`
  pub receipt_is_used : DoesReceipt id old new (Err refusals.Usage) → ⊥
  receipt_is_used (misnamed bad is same) = other_refusal (Err refusals.Usage) refusals.Usage refusals.BadIdentifier
      (λ s. absurd cc) refl is
  receipt_is_used (made answer name makes source tells) = told_used answer makes.ends tells

module _ (id : List ℕ) (g : Layout) (old new : Ports) (ready : IsReadyForReceipt id g old new)
    (device : IsDevice old.device)
    (device_new : IsDevice new.device) where
  settling : HasWholeLog IsSettlingRule g old.device new.device
  settling = settling_steady ready.log

  -- the making of a receipt ends with no refusal but these
  whole : (refusal : Refusal) → Called old.device new.device → SettlesFirst Receipt old.device new.device (Err refusal)
      → MakeEnds id old.device new.device (Err refusal) → IsOkOrNoReceipt (Err refusal)
  whole refusals.Absent called comes ends = tt
  whole refusals.NoMemory called comes ends = tt
  whole (refusals.ReceiptTooLong count) called comes ends = tt
  whole refusals.DeviceFault called comes ends = absurd (rose_or_still _ _ ends ready.log.no_fault)
  whole (refusals.Tampered e) called comes ends = absurd (query_alarms old.device new.device device ready.log.tells
      ready.log.alone ready.log.is device_new comes e refl (ends ready.log.tells).0)
  whole refusals.NotFormatted called comes ends =
      absurd (settles_whole settling called refusals.NotFormatted (λ e same. absurd cc) ends)
  whole (refusals.NotAVolume found) called comes ends =
      absurd (settles_whole settling called (refusals.NotAVolume found) (λ e same. absurd cc) ends)
  whole (refusals.WrongSize stated real) called comes ends =
      absurd (settles_whole settling called (refusals.WrongSize stated real) (λ e same. absurd cc) ends)
  whole refusal called comes ends = absurd ends

  told : (result : Result Unit Refusal) (answer : Result Receipt Refusal) → MakesReceipt id old.device new.device answer
      → TellsFromMemory text_of_receipt answer old new result → IsOkOrNoReceipt result
  told (Ok u) answer makes tells = tt
  told (Err refusals.NoMemory) (Ok r) makes tells = tt
  told (Err refusals.SinkFault) (Ok r) makes tells = absurd (rose_or_still _ _ tells.faults ready.no_sink_fault)
  told (Err refusal) (Ok r) makes tells = absurd tells
  told (Err refusal) (Err refused) makes tells =
      subst (λ (r : Refusal). IsOkOrNoReceipt (Err r)) (sym tells.0) (whole refused makes.called makes.comes makes.ends)

  -- the answer is Ok, or one of these
  pub receipt_completes : (result : Result Unit Refusal) → DoesReceipt id old new result → IsOkOrNoReceipt result
  receipt_completes result (misnamed bad is same) = absurd (bad ready.identifier)
  receipt_completes result (made answer name makes source tells) = told result answer makes tells

module _ (id : List ℕ) (old new : Ports) (device : IsDevice old.device) (device_new : IsDevice new.device)
    (begins : BeginsSteady old.device new.device) where
  pub told_alarm : (answer : Result Receipt Refusal) → SettlesFirst Receipt old.device new.device answer
      → MakeEnds id old.device new.device answer → (e : Evidence)
      → TellsFromMemory text_of_receipt answer old new (Err (refusals.Tampered e)) → ⊥
  told_alarm (Ok r) comes ends e tells = tells
  told_alarm (Err refused) comes ends e tells = query_alarms old.device new.device device begins.tells begins.alone
      begins.steady device_new comes e (ap Err (sym tells.0))
      ((subst (λ (r : Refusal). MakeEnds id old.device new.device (Err r)) (sym tells.0) ends) begins.tells).0

  shown : (answer : Result Receipt Refusal) → MakesReceipt id old.device new.device answer
      → TellsFromMemory text_of_receipt answer old new (Ok tt) → ShowsHeld id old new (Ok tt)
  shown (Ok r) makes tells = λ documents held.
      let stand = stand_now old.device new.device device device_new begins r documents held (Ok r) refl makes.comes in
      let is = makes.ends.1 in (
        r,
        is.body,
        stands_among old.device new.device device device_new begins stand.0 documents stand.1 r.slot id is.body
            (is.first begins.tells).first.stands,
        is.shows,
        tells,
      )
  shown (Err refusal) makes tells = absurd tells

  none_there : (answer : Result Receipt Refusal) → MakesReceipt id old.device new.device answer
      → TellsFromMemory text_of_receipt answer old new (Err refusals.Absent)
      → ShowsHeld id old new (Err refusals.Absent)
  none_there (Ok r) makes tells = absurd tells
  none_there (Err refused) makes tells = λ documents held.
      let ends = subst (λ (r : Refusal). MakeEnds id old.device new.device (Err r)) (sym tells.0) makes.ends in
      (none_held old.device new.device device device_new begins id documents held (Err refused) (ap Err (sym tells.0))
      makes.comes (ends begins.tells)).1

  pub receipt_held : (result : Result Unit Refusal) → DoesReceipt id old new result → ShowsHeld id old new result
  receipt_held (Ok u) (misnamed bad is same) = absurd (no_answer (Ok u) u refusals.BadIdentifier refl is)
  receipt_held (Ok u) (made answer name makes source tells) = shown answer makes tells
  receipt_held (Err refusals.Absent) (misnamed bad is same) =
      absurd (other_refusal (Err refusals.Absent) refusals.Absent
      refusals.BadIdentifier (λ s. absurd cc) refl is)
  receipt_held (Err refusals.Absent) (made answer name makes source tells) = none_there answer makes tells
  receipt_held (Err refusal) does = tt
