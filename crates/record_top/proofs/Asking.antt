-- What holds of all that may be asked for.
use Rattle.std.proofs.Common.{Result, Err}
use Rattle.cell_types.specs.declared.refusal.Refusal.{Refusal}
use Rattle.cell_types.specs.declared.refusal.Refusal.TheVariants.{Usage}
use Rattle.worm_device.specs.Calls.{Called}
use Rattle.worm_device.specs.State.{IsDevice}
use Rattle.command_line.specs.Requests.{Request, ToAudit, ToCheck, ToExercise, ToFind, ToFindBetween, ToFormat, ToIngest, ToLookUp, ToMakeReceipt, ToRecover, ToReplay}
use Rattle.record_top.specs.Commands.{Does, IsAnswered, IsUnhindered}
use Rattle.volume_commands.specs.Ports.{Ports}
use Rattle.volume_commands.proofs.Audits.{audit_completes, audit_is_used}
use Rattle.volume_commands.proofs.Checks.{check_called, check_completes, check_is_used}
use Rattle.volume_commands.proofs.Completing.{format_completes, ingest_completes, recover_completes}
use Rattle.volume_commands.proofs.Ending.{ingest_called, ingest_is_used, recover_is_used}
use Rattle.record_top.proofs.Exercises.{exercise_called, exercise_completes, exercise_is_used}
use Rattle.volume_commands.proofs.Finds.{find_called, find_completes, find_is_used}
use Rattle.volume_commands.proofs.LookUps.{look_up_called, look_up_completes, look_up_is_used}
use Rattle.volume_commands.proofs.Receipts.{receipt_called, receipt_completes, receipt_is_used}
use Rattle.record_top.proofs.Replays.{replay_called, replay_completes, replay_is_used}
use Rattle.volume_commands.proofs.Spans.{between_completes, between_is_used}

module _ (old new : Ports) where
  -- whatever is done keeps what every call of the device keeps
  pub called_of : (request : Request) (result : Result Unit Refusal) → Does request old new result
      → Called old.device new.device
  called_of (ToFormat slots lists version) result does = does.called
  called_of (ToIngest id stamp) result does = ingest_called id stamp old new result does
  called_of (ToFind asked) result does = find_called asked old new result does
  called_of (ToLookUp id) result does = look_up_called id old new result does
  called_of ToRecover result does = does.settles.called
  called_of ToAudit result does = does.audits.called
  called_of ToReplay result does = replay_called old new result does
  called_of (ToExercise documents) result does = exercise_called documents old new result does
  called_of ToCheck result does = check_called old new result does
  called_of (ToMakeReceipt id) result does = receipt_called id old new result does
  called_of (ToFindBetween from to) result does = does.finds.called

  -- what is done never ends with `Usage`
  pub is_used : (request : Request) → Does request old new (Err Usage) → ⊥
  is_used (ToFormat slots lists version) does = does.ends.0
  is_used (ToIngest id stamp) does = ingest_is_used id stamp old new does
  is_used (ToFind asked) does = find_is_used asked old new does
  is_used (ToLookUp id) does = look_up_is_used id old new does
  is_used ToRecover does = recover_is_used old new does.answer does.settles does.tells
  is_used ToAudit does = audit_is_used old new does
  is_used ToReplay does = replay_is_used old new does
  is_used (ToExercise documents) does = exercise_is_used documents old new does
  is_used ToCheck does = check_is_used old new does
  is_used (ToMakeReceipt id) does = receipt_is_used id old new does
  is_used (ToFindBetween from to) does = between_is_used from to old new does

  -- where nothing keeps it from being done, it is, or ends for the one cause that is left
  pub completes : IsDevice old.device → IsDevice new.device → (request : Request) (result : Result Unit Refusal)
      → Does request old new result → IsUnhindered request old new → IsAnswered request result
  completes device device_new (ToFormat slots lists version) result does free =
      format_completes _ old new free result does
  completes device device_new (ToIngest id stamp) result does free =
      ingest_completes id stamp free.0 free.1 free.2 old new free.3 device device_new result does
  completes device device_new (ToFind asked) result does free =
      find_completes asked free.0 old new free.1 device device_new
      result does
  completes device device_new (ToLookUp id) result does free = look_up_completes id free.0 old new free.1 device
      device_new result does
  completes device device_new ToRecover result does free =
      recover_completes free.0 old new free.1 device result does.answer does.settles does.tells
  completes device device_new ToAudit result does free =
      audit_completes free.0 old new free.1 device device_new result does
  completes device device_new ToReplay result does free = replay_completes free.0 free.1 old new free.2 result does
  completes device device_new (ToExercise documents) result does free =
      exercise_completes documents old new result does free
  completes device device_new ToCheck result does free = check_completes free.0 free.1 old new free.2 device result does
  completes device device_new (ToMakeReceipt id) result does free = receipt_completes id free.0 old new free.1 device
      device_new result does
  completes device device_new (ToFindBetween from to) result does free = between_completes from to free.0 old new free.1
      device device_new result does
