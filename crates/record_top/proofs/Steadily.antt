-- What a crash leaves of each command, from a steady device on, where nobody else writes.
use Rattle.std.proofs.Common.{◌≡◌, ℕ, List, Result, Ok, Err, refl, sym, ap, subst}
use Rattle.std.specs.Global.{Vec}
use Rattle.cell_types.specs.Layout.{Layout}
use Rattle.cell_types.specs.declared.refusal.Evidence.{Evidence}
use Rattle.cell_types.specs.declared.refusal.Refusal.{Refusal}
use Rattle.cell_types.specs.declared.refusal.Refusal.TheVariants as refusals
use Rattle.volume_meaning.specs.declared.word_rules.WordRule.{WordRule}
use Rattle.worm_device.proofs.Elapsing.{called_self}
use Rattle.worm_device.specs.State.{IsDevice}
use Rattle.recovery_engine.specs.Settling.{Settles, SettlesFirst}
use Rattle.recovery_engine.specs.declared.settling.Ready.{Ready}
use Rattle.crash_laws.proofs.LeftWhole.{held_unmoved}
use Rattle.ingest_engine.specs.Formats.{FormatEnds}
use Rattle.commit_record.specs.Licences.{IsLicensed}
use Rattle.record_query.specs.Finding.{FindEnds}
use Rattle.record_query.specs.LookingUp.{LookUpEnds}
use Rattle.receipt_text.specs.Form.{text_of_receipt}
use Rattle.record_query.specs.declared.found.Found.{Found}
use Rattle.record_query.specs.declared.found.Match.{Match}
use Rattle.volume_audit.specs.Audits.{SettlesThenAudits}
use Rattle.volume_audit.specs.declared.report.AuditReport.{AuditReport}
use Rattle.volume_audit.proofs.Comes.{licensed, settles_first}
use Rattle.command_line.specs.Requests.{Request, ToAudit, ToCheck, ToExercise, ToFind, ToFindBetween, ToFormat, ToIngest, ToLookUp, ToMakeReceipt, ToRecover, ToReplay}
use Rattle.volume_commands.specs.Auditing.{DoesAudit, report_text}
use Rattle.volume_commands.specs.Checking.{DoesCheck}
use Rattle.record_top.specs.Commands.{Does, layout_on}
use Rattle.record_top.specs.Exercising.{DoesExercise}
use Rattle.record_top.proofs.Exercises.{exercise_names_none}
use Rattle.volume_commands.specs.Finding.{DoesFind, found_text, misworded, searched, unread, unruled}
use Rattle.volume_commands.specs.Receipting.{DoesReceipt, made}
use Rattle.volume_commands.specs.Receipting as receipts
use Rattle.volume_commands.specs.Ruling.{AsksRule, RuleEnds}
use Rattle.volume_commands.specs.Formatting.{DoesFormat, FormatCommandEnds}
use Rattle.volume_commands.specs.LookingUp.{Answers, DoesLookUp, looked, misnamed}
use Rattle.record_top.specs.Replaying.{DoesReplay}
use Rattle.volume_commands.specs.Spanning.{DoesBetween}
use Rattle.volume_commands.specs.Ports.{Ports, Tells, TellsFromMemory}
use Rattle.volume_commands.specs.Recovering.{DoesRecover, recovered}
use Rattle.volume_commands.proofs.Checks.{check_called, check_only, check_refuses}
use Rattle.volume_commands.proofs.Receipts.{receipt_held, told_alarm}
use Rattle.command_laws.proofs.Alarms.{query_alarms, settling_alarms}
use Rattle.volume_commands.proofs.HeldAnswers.{find_held, look_up_held}
use Rattle.volume_commands.proofs.OneMore.{ingest_adds}
use Rattle.record_top.proofs.Replays.{replay_keeps, replay_names_none}
use Rattle.volume_commands.proofs.Spans.{between_held, between_leaves, between_names_none}
use Rattle.command_laws.proofs.Results.{no_answer, one_refusal, other_refusal}
use Rattle.command_laws.specs.Begins.{BeginsSteady}
use Rattle.volume_commands.specs.Steadiness.{AddsNone, LeavesFormatted, LeavesWhole}
use Rattle.command_laws.specs.Telling.{IsFormatted, LeavesHeld}
use Rattle.command_laws.proofs.Formatting.{format_leaves, format_makes, unused_steady}
use Rattle.command_laws.proofs.LookedFirst.{begins_mid, leaves_both, looked_leaves}
use Rattle.command_laws.proofs.Queries.{query_leaves, settling_leaves}

-- formatting the device ended so
format_ends : (g : Layout) (old new : Ports) (result : Result Unit Refusal) → FormatCommandEnds g old new result
    → (ended : Result Unit Refusal) × FormatEnds g old.device new.device ended
format_ends g old new (Ok u) ends = (Ok u, ends.0)
format_ends g old new (Err refusals.SinkFault) ends = (Ok tt, ends.0)
format_ends g old new (Err refusals.TooSmall) ends = (Err refusals.TooSmall, ends.0)
format_ends g old new (Err refusals.DeviceFault) ends = (Err refusals.DeviceFault, ends.0)
format_ends g old new (Err (refusals.NotBlank at)) ends = (Err (refusals.NotBlank at), ends.0)
format_ends g old new (Err refusal) ends = absurd ends.0

module _ (old new : Ports) (device : IsDevice old.device) (device_new : IsDevice new.device)
    (begins : BeginsSteady old.device new.device) where
  -- what leaves the documents that were held, and names no tampering
  leaves_none : {result : Result Unit Refusal} → LeavesHeld old.device new.device
      → ((e : Evidence) → result ≡ Err (refusals.Tampered e) → ⊥) → AddsNone old new result
  leaves_none leaves no_alarm = record { stays = leaves.stays; keeps = leaves.keeps; no_alarm = no_alarm }

  -- nothing is done with the device
  unused_adds : {result : Result Unit Refusal} → new ≡ old → ((e : Evidence) → result ≡ Err (refusals.Tampered e) → ⊥)
      → AddsNone old new result
  unused_adds same no_alarm = leaves_none (record {
    stays = unused_steady old.device new.device device begins.steady (ap (λ (p : Ports). p.device) same);
    keeps = held_unmoved (ap (λ (p : Ports). p.device) same);
  }) no_alarm

  format_adds : (g : Layout) (result : Result Unit Refusal) → g.cells ≡ old.device.cells → DoesFormat g old new result
      → AddsNone old new result
  format_adds g result size does =
      let ended = format_ends g old new result does.ends in
      leaves_none (format_leaves g old.device new.device size device begins does.called does.only ended.0 ended.1)
      (λ e is. (subst (FormatCommandEnds g old new) is does.ends).0)

  -- a format that is done leaves a volume
  leaves_formatted : (g : Layout) (result : Result Unit Refusal) → g.cells ≡ old.device.cells
      → DoesFormat g old new result
      → LeavesFormatted new result
  leaves_formatted g result size does = by_answer result does.ends
    where
      made : FormatEnds g old.device new.device (Ok tt) → IsFormatted new.device
      made ends = format_makes g old.device new.device size device begins does.called does.only device_new ends

      by_answer : (r : Result Unit Refusal) → FormatCommandEnds g old new r → LeavesFormatted new r
      by_answer (Ok u) ends = made ends.0
      by_answer (Err refusals.SinkFault) ends = made ends.0
      by_answer (Err refusal) ends = tt

  recover_adds : (result : Result Unit Refusal) → DoesRecover old new result → AddsNone old new result
  recover_adds result does =
      leaves_none (settling_leaves old.device new.device device device_new begins does.answer does.settles)
      (λ e is. told does.answer does.settles e (subst (Tells recovered does.answer old new) is does.tells))
    where
      told : (answer : Result Ready Refusal) → Settles old.device new.device answer → (e : Evidence)
          → Tells recovered answer old new (Err (refusals.Tampered e)) → ⊥
      told (Ok r) settles e tells = tells
      told (Err refused) settles e tells = settling_alarms old.device new.device device begins.tells begins.alone
          begins.steady refused e settles (sym tells.0)

  -- queries settle, and then look alone
  query_adds : {X : Type 0} {answer : Result X Refusal} → SettlesFirst X old.device new.device answer
      → LeavesHeld old.device new.device
  query_adds comes = query_leaves old.device new.device device device_new begins comes

  query_names : {X : Type 0} {answer : Result X Refusal} → SettlesFirst X old.device new.device answer → (e : Evidence)
      → answer ≡ Err (refusals.Tampered e) → IsLicensed old.device new.device e → ⊥
  query_names comes e named found =
      query_alarms old.device new.device device begins.tells begins.alone begins.steady device_new comes e named found

  -- asking for the rule of words alone leaves what was held, and names no tampering
  rule_adds : {answer : Result WordRule Refusal} {result : Result Unit Refusal}
      → AsksRule old.device new.device answer → ((e : Evidence) → result ≡ Err (refusals.Tampered e) → ⊥)
      → AddsNone old new result
  rule_adds asks no_alarm = leaves_none
      (looked_leaves old.device new.device new.device device asks.called
      (called_self new.device) asks.quiet begins asks.device)
      no_alarm

  find_adds : (asked : List (List ℕ)) (result : Result Unit Refusal) → DoesFind asked old new result
      → AddsNone old new result
  find_adds asked result (unruled refusal asks is source sink) = rule_adds asks (λ e named.
      subst (λ (r : Refusal). RuleEnds old.device new.device (Err r))
      (one_refusal result refusal (refusals.Tampered e) is named) asks.ends)
  find_adds asked result (misworded rule i asks bad is source sink) = rule_adds asks
      (λ e named. other_refusal result (refusals.BadWord i) (refusals.Tampered e) (λ s. absurd cc) is named)
  find_adds asked result (unread rule asks is source sink) = rule_adds asks
      (λ e named. other_refusal result refusals.NoMemory (refusals.Tampered e) (λ s. absurd cc) is named)
  find_adds asked result (searched mid rule terms answer asks are searches kept source tells) = leaves_none
      (leaves_both old.device mid new.device device asks.called searches.called asks.quiet begins asks.device
      (query_leaves mid new.device asks.device device_new first searches.comes))
      (λ e named. told answer searches.comes searches.ends e
      (subst (TellsFromMemory found_text answer old new) named tells))
    where
      first : BeginsSteady mid new.device
      first = begins_mid old.device mid new.device device asks.called searches.called asks.quiet begins

      told : (a : Result (Vec Match) Refusal) → SettlesFirst (Vec Match) mid new.device a
          → FindEnds terms mid new.device a → (e : Evidence)
          → TellsFromMemory found_text a old new (Err (refusals.Tampered e)) → ⊥
      told (Ok matches) comes ends e tells = tells
      told (Err refused) comes ends e tells =
          query_alarms mid new.device asks.device first.tells first.alone first.steady device_new comes e
          (ap Err (sym tells.0))
          ((subst (λ (r : Refusal). FindEnds terms mid new.device (Err r)) (sym tells.0) ends) first.tells)

  look_up_adds : (id : List ℕ) (result : Result Unit Refusal) → DoesLookUp id old new result → AddsNone old new result
  look_up_adds id result (misnamed bad is same) = unused_adds same
      (λ e named. other_refusal result refusals.BadIdentifier (refusals.Tampered e) (λ s. absurd cc) is named)
  look_up_adds id result (looked answer name looks source answers) = leaves_none (query_adds looks.comes)
      (λ e named. told answer looks.comes looks.ends e (subst (Answers answer) named answers))
    where
      told : (a : Result Found Refusal) → SettlesFirst Found old.device new.device a
          → LookUpEnds id old.device new.device old.sink new.sink a → (e : Evidence)
          → Answers a (Err (refusals.Tampered e)) → ⊥
      told (Ok found) comes ends e answered = no_answer (Err (refusals.Tampered e)) tt (refusals.Tampered e)
          answered refl
      told (Err refused) comes ends e answered =
          let same : refusals.Tampered e ≡ refused = one_refusal (Err (refusals.Tampered e))
          (refusals.Tampered e) refused refl answered in
          query_names comes e (ap Err (sym same))
          (((subst (λ (r : Refusal). LookUpEnds id old.device new.device old.sink new.sink (Err r)) (sym same) ends).1
          begins.tells).1)

  audit_adds : (result : Result Unit Refusal) → DoesAudit old new result → AddsNone old new result
  audit_adds result does = leaves_none (query_adds (settles_first does.audits.comes))
      (λ e named. told does.answer does.audits.comes e
      (subst (TellsFromMemory report_text does.answer old new) named does.tells))
    where
      told : (a : Result AuditReport Refusal) → SettlesThenAudits old.device new.device a → (e : Evidence)
          → TellsFromMemory report_text a old new (Err (refusals.Tampered e)) → ⊥
      told (Ok report) comes e tells = tells
      told (Err refused) comes e tells = query_names (settles_first comes) e (ap Err (sym tells.0))
          (licensed e (subst (λ (r : Refusal). SettlesThenAudits old.device new.device (Err r))
          (sym tells.0) comes) begins.tells)

  replay_adds : (result : Result Unit Refusal) → DoesReplay old new result → AddsNone old new result
  replay_adds result does =
      let same = replay_keeps old new result does in
      leaves_none (record {
        stays = unused_steady old.device new.device device begins.steady same;
        keeps = held_unmoved same;
      }) (λ e is. replay_names_none old new e (subst (DoesReplay old new) is does))

  check_adds : (result : Result Unit Refusal) → DoesCheck old new result → AddsNone old new result
  check_adds result does = leaves_none
      (looked_leaves old.device new.device new.device device (check_called old new result does) (called_self new.device)
      (check_only old new result does) begins device_new)
      (λ e is. check_refuses old new (refusals.Tampered e) (subst (DoesCheck old new) is does))

  receipt_adds : (id : List ℕ) (result : Result Unit Refusal) → DoesReceipt id old new result → AddsNone old new result
  receipt_adds id result (receipts.misnamed bad is same) = unused_adds same
      (λ e named. other_refusal result refusals.BadIdentifier (refusals.Tampered e) (λ s. absurd cc) is named)
  receipt_adds id result (made answer name makes source tells) = leaves_none (query_adds makes.comes)
      (λ e named. told_alarm id old new device device_new begins answer makes.comes makes.ends e
      (subst (TellsFromMemory text_of_receipt answer old new) named tells))

  between_adds : (from to : ℕ) (result : Result Unit Refusal) → DoesBetween from to old new result
      → AddsNone old new result
  between_adds from to result does = leaves_none (between_leaves from to old new device device_new begins result does)
      (λ e is. between_names_none from to old new device device_new begins e
      (subst (DoesBetween from to old new) is does))

  exercise_adds : (documents : ℕ) (result : Result Unit Refusal) → DoesExercise documents old new result
      → AddsNone old new result
  exercise_adds documents result does =
      leaves_none (record {
        stays = unused_steady old.device new.device device begins.steady does.device;
        keeps = held_unmoved does.device;
      }) (λ e is. exercise_names_none documents old new e (subst (DoesExercise documents old new) is does))

  -- whatever was asked for
  pub leaves_whole : (request : Request) (result : Result Unit Refusal) → Does request old new result
      → LeavesWhole request old new result
  leaves_whole (ToFormat slots lists version) result does = (
    format_adds (layout_on old slots lists version) result refl does,
    leaves_formatted (layout_on old slots lists version) result refl does,
  )
  leaves_whole (ToIngest id stamp) result does = ingest_adds id stamp old new device device_new begins result does
  leaves_whole (ToFind asked) result does =
      (find_adds asked result does, find_held old new device device_new begins asked result does)
  leaves_whole (ToLookUp id) result does =
      (look_up_adds id result does, look_up_held old new device device_new begins id result does)
  leaves_whole ToRecover result does = recover_adds result does
  leaves_whole ToAudit result does = audit_adds result does
  leaves_whole ToReplay result does = replay_adds result does
  leaves_whole (ToExercise documents) result does = exercise_adds documents result does
  leaves_whole ToCheck result does = check_adds result does
  leaves_whole (ToMakeReceipt id) result does =
      (receipt_adds id result does, receipt_held id old new device device_new begins result does)
  leaves_whole (ToFindBetween from to) result does =
      (between_adds from to result does, between_held from to old new device device_new begins result does)
