-- How the command `between` ends: never with `Usage`; where nothing hinders it with no refusal but want of memory; and
-- from a steady device on, where nobody else writes, by just the documents that the volume held at entry.
use Rattle.std.proofs.Common.{◌≡◌, ℕ, List, Result, Ok, Err, refl, ap, sym, subst, arith}
use Rattle.std.specs.Global.{Vec}
use Rattle.cell_types.specs.Layout.{Layout}
use Rattle.cell_types.specs.declared.refusal.Evidence.{Evidence}
use Rattle.cell_types.specs.declared.refusal.Refusal.{Refusal}
use Rattle.cell_types.specs.declared.refusal.Refusal.TheVariants as refusals
use Rattle.volume_meaning.specs.Documents.{AreDocuments, Document}
use Rattle.volume_meaning.specs.Volumes.{IsVolume}
use Rattle.volume_meaning.proofs.Extending.{volume_on}
use Rattle.tamper_rules.specs.Settling.{Settled}
use Rattle.tamper_rules.proofs.GivenUp.{one_layout}
use Rattle.worm_device.specs.Calls.{Called}
use Rattle.worm_device.specs.State.{DeviceState, IsDevice}
use Rattle.worm_device.proofs.Counting.{rose_or_still}
use Rattle.worm_device.proofs.Elapsing.{called_self}
use Rattle.recovery_engine.specs.Settling.{SettlesFirst}
use Rattle.time_index.specs.Asking.{AsksStamps, IsWithoutStamps, AskStampsEnd}
use Rattle.time_index.specs.Spans.{FindsBetween, FindsSpan, SearchesByTime, SearchesTimes, SpanEnds, searched, unstamped}
use Rattle.time_index.specs.declared.found.TimeMatch.{TimeMatch}
use Rattle.command_laws.specs.Begins.{BeginsSteady}
use Rattle.command_laws.specs.Telling.{LeavesHeld}
use Rattle.command_laws.specs.WholeLogs.{HasSteadyVolume}
use Rattle.command_laws.proofs.Alarms.{query_alarms}
use Rattle.command_laws.proofs.HeldAnswers.{all_kept, stand_now, stands_among}
use Rattle.command_laws.proofs.LookedFirst.{begins_mid, held_mid, leaves_both, looked_leaves, steady_mid}
use Rattle.command_laws.proofs.Queries.{query_leaves}
use Rattle.command_laws.proofs.Results.{no_answer, one_refusal}
use Rattle.command_laws.proofs.WholeLogs.{settles_whole, settling_steady}
use Rattle.volume_commands.specs.Ports.{IsOkOrNoMemory, Ports, TellsFromMemory}
use Rattle.volume_commands.specs.Spanning.{DoesBetween, IsReadyBetween, between_text}
use Rattle.volume_commands.specs.Steadiness.{AreTimeMatchesOf, FindsHeldBetween}

module _ (from to : ℕ) (old new : Ports) where
  stamps_used : (refusal : Refusal) → AskStampsEnd old.device new.device (Err refusal) → refusal ≡ refusals.Usage → ⊥
  stamps_used refusal ends is = subst (λ (r : Refusal). AskStampsEnd old.device new.device (Err r)) is ends

  span_used : (mid : DeviceState) (refusal : Refusal) → SpanEnds from to mid new.device (Err refusal)
      → refusal ≡ refusals.Usage → ⊥
  span_used mid refusal ends is = subst (λ (r : Refusal). SpanEnds from to mid new.device (Err r)) is ends

  told_used : (answer : Result (Vec TimeMatch) Refusal) → SearchesByTime from to old.device new.device answer
      → TellsFromMemory between_text answer old new (Err refusals.Usage) → ⊥
  told_used (Ok matches) does tells = tells
  told_used (Err refused) (unstamped refusal asks is) tells =
      stamps_used refusal asks.ends (one_refusal (Err refused) refusal refusals.Usage is (ap Err (sym tells.0)))
  told_used (Err refused) (searched mid asks searches) tells = span_used mid refused searches.ends (sym tells.0)

  pub between_is_used : DoesBetween from to old new (Err refusals.Usage) → ⊥
  between_is_used does = told_used does.answer does.finds.does does.tells

module _ (from to : ℕ) (g : Layout) (old new : Ports) (ready : IsReadyBetween g old new) (device : IsDevice old.device)
    (device_new : IsDevice new.device) where
  -- the volume has stamps
  no_stamps : IsWithoutStamps new.device.cells new.device.image → Called old.device new.device → ⊥
  no_stamps without called =
      let same : without.0 ≡ g = one_layout {cells = new.device.cells} {more = new.device.cells} without.0 g without.1
      (subst (λ (k : ℕ). IsVolume k new.device.image g) (sym called.cells) (volume_on called.image ready.log.volume)) in
      omega (arith, without.2, ap (λ (l : Layout). l.version) same, ready.stamped)

  -- cell 0 tells so
  stamps_told : (refusal : Refusal) → AsksStamps old.device new.device (Err refusal) → ⊥
  stamps_told refusal asks = by_refusal refusal asks.ends
    where
      by_refusal : (r : Refusal) → AskStampsEnd old.device new.device (Err r) → ⊥
      by_refusal refusals.NoStamps ends = no_stamps (ends.1 ready.log.tells) asks.called
      by_refusal refusals.DeviceFault ends = settles_whole (settling_steady ready.log) asks.called refusals.DeviceFault
          (λ e same. absurd cc) ends
      by_refusal refusals.NotFormatted ends = settles_whole (settling_steady ready.log) asks.called
          refusals.NotFormatted (λ e same. absurd cc) ends
      by_refusal (refusals.NotAVolume found) ends = settles_whole (settling_steady ready.log) asks.called
          (refusals.NotAVolume found) (λ e same. absurd cc) ends
      by_refusal (refusals.WrongSize stated real) ends = settles_whole (settling_steady ready.log) asks.called
          (refusals.WrongSize stated real) (λ e same. absurd cc) ends
      by_refusal r ends = ends

  -- the search ends with no refusal but want of memory
  whole : (mid : DeviceState) (refusal : Refusal) → IsDevice mid → HasSteadyVolume g mid new.device
      → Called old.device new.device → SearchesTimes from to mid new.device (Err refusal) → refusal ≡ refusals.NoMemory
  whole mid refusal device_mid log called searches = by_refusal refusal searches.comes searches.ends
    where
      by_refusal : (r : Refusal) → SettlesFirst (Vec TimeMatch) mid new.device (Err r)
          → SpanEnds from to mid new.device (Err r) → r ≡ refusals.NoMemory
      by_refusal refusals.NoMemory comes ends = refl
      by_refusal refusals.NoStamps comes ends = absurd (no_stamps (ends log.tells) called)
      by_refusal refusals.DeviceFault comes ends = absurd (rose_or_still _ _ ends log.no_fault)
      by_refusal (refusals.Tampered e) comes ends = absurd (query_alarms mid new.device device_mid log.tells log.alone
          log.is device_new comes e refl (ends log.tells))
      by_refusal refusals.NotFormatted comes ends = absurd (settles_whole (settling_steady log) searches.called
          refusals.NotFormatted (λ e same. absurd cc) ends)
      by_refusal (refusals.NotAVolume found) comes ends = absurd (settles_whole (settling_steady log) searches.called
          (refusals.NotAVolume found) (λ e same. absurd cc) ends)
      by_refusal (refusals.WrongSize stated real) comes ends = absurd (settles_whole (settling_steady log)
          searches.called (refusals.WrongSize stated real) (λ e same. absurd cc) ends)
      by_refusal r comes ends = absurd ends

  refused : (answer : Result (Vec TimeMatch) Refusal) (refusal : Refusal) → answer ≡ Err refusal
      → Called old.device new.device → SearchesByTime from to old.device new.device answer → refusal ≡ refusals.NoMemory
  refused answer refusal is called (unstamped other asks same) = absurd (stamps_told other asks)
  refused answer refusal is called (searched mid asks searches) = whole mid refusal asks.device
      (steady_mid old.device mid new.device device asks.called searches.called asks.quiet ready.log) called
      (subst (SearchesTimes from to mid new.device) is searches)

  told : (result : Result Unit Refusal) (answer : Result (Vec TimeMatch) Refusal)
      → FindsBetween from to old.device new.device answer → TellsFromMemory between_text answer old new result
      → IsOkOrNoMemory result
  told (Ok u) answer finds tells = tt
  told (Err refusals.NoMemory) (Ok matches) finds tells = tt
  told (Err refusals.SinkFault) (Ok matches) finds tells = absurd (rose_or_still _ _ tells.faults ready.no_sink_fault)
  told (Err refusal) (Ok matches) finds tells = absurd tells
  told (Err refusal) (Err refusal') finds tells =
      subst (λ (r : Refusal). IsOkOrNoMemory (Err r)) (sym tells.0)
      (subst (λ (r : Refusal). IsOkOrNoMemory (Err r))
      (sym (refused (Err refusal') refusal' refl finds.called finds.does)) tt)

  -- the answer is Ok, or want of memory
  pub between_completes : (result : Result Unit Refusal) → DoesBetween from to old new result → IsOkOrNoMemory result
  between_completes result does = told result does.answer does.finds does.tells

module _ (from to : ℕ) (old new : Ports) (device : IsDevice old.device) (device_new : IsDevice new.device)
    (begins : BeginsSteady old.device new.device) where
  leaves_by : {answer : Result (Vec TimeMatch) Refusal} → SearchesByTime from to old.device new.device answer
      → LeavesHeld old.device new.device
  leaves_by (unstamped refusal asks is) =
      looked_leaves old.device new.device new.device device asks.called (called_self new.device) asks.quiet begins
      asks.device
  leaves_by (searched mid asks searches) =
      leaves_both old.device mid new.device device asks.called searches.called asks.quiet begins asks.device
      (query_leaves mid new.device asks.device device_new
      (begins_mid old.device mid new.device device asks.called searches.called asks.quiet begins) searches.comes)

  -- it leaves the documents that were held
  pub between_leaves : (result : Result Unit Refusal) → DoesBetween from to old new result
      → LeavesHeld old.device new.device
  between_leaves result does = leaves_by does.finds.does

  alarm : (answer : Result (Vec TimeMatch) Refusal) (e : Evidence) → answer ≡ Err (refusals.Tampered e)
      → SearchesByTime from to old.device new.device answer → ⊥
  alarm answer e named (unstamped refusal asks is) =
      subst (λ (r : Refusal). AskStampsEnd old.device new.device (Err r))
      (one_refusal answer refusal (refusals.Tampered e) is named) asks.ends
  alarm answer e named (searched mid asks searches) =
      let first = begins_mid old.device mid new.device device asks.called searches.called asks.quiet begins in
      query_alarms mid new.device asks.device first.tells first.alone first.steady device_new searches.comes e named
      ((subst (SpanEnds from to mid new.device) named searches.ends) first.tells)

  told_alarm : (answer : Result (Vec TimeMatch) Refusal) → SearchesByTime from to old.device new.device answer
      → (e : Evidence) → TellsFromMemory between_text answer old new (Err (refusals.Tampered e)) → ⊥
  told_alarm (Ok matches) does e tells = tells
  told_alarm (Err refused) does e tells = alarm (Err refused) e (ap Err (sym tells.0)) does

  -- and names no tampering
  pub between_names_none : (e : Evidence) → DoesBetween from to old new (Err (refusals.Tampered e)) → ⊥
  between_names_none e does = told_alarm does.answer does.finds.does e does.tells

  found_held : (matches : Vec TimeMatch) (answer : Result (Vec TimeMatch) Refusal) → answer ≡ Ok matches
      → SearchesByTime from to old.device new.device answer → TellsFromMemory between_text (Ok matches) old new (Ok tt)
      → FindsHeldBetween from to old new (Ok tt)
  found_held matches answer is (unstamped refusal asks same) tells = absurd (no_answer answer matches refusal is same)
  found_held matches answer is (searched mid asks searches) tells = λ documents held.
      let first = begins_mid old.device mid new.device device asks.called searches.called asks.quiet begins in
      let held_then = held_mid old.device mid new.device device asks.called searches.called asks.quiet begins documents
      held in
      let stand = stand_now mid new.device asks.device device_new first matches documents held_then answer is
      searches.comes in
      let finds = (subst (SpanEnds from to mid new.device) is searches.ends) first.tells in (
        matches.items,
        just_these mid first asks.device documents stand.0 stand.1 finds,
        tells,
      )
    where
      just_these : (mid : DeviceState) (first : BeginsSteady mid new.device) (device_mid : IsDevice mid)
          (documents : List Document) (whole : Settled new.device.cells new.device.image)
          → (are : AreDocuments new.device.cells new.device.image documents)
          → FindsSpan from to mid new.device matches.items → AreTimeMatchesOf new.device from to documents matches.items
      just_these mid first device_mid documents whole are finds = record {
        all = finds.alone first.alone documents
            (all_kept mid new.device device_mid device_new first whole documents are);
        only = λ found among.
            let is = finds.only found among in (
              is.body,
              stands_among mid new.device device_mid device_new first whole documents are found.slot found.identifier
                  is.body is.stands,
              is.bytes_is,
              is.stamp,
              is.from_is,
              is.to_is,
            );
        rise = finds.rise;
      }

  held_told : (answer : Result (Vec TimeMatch) Refusal) → SearchesByTime from to old.device new.device answer
      → TellsFromMemory between_text answer old new (Ok tt) → FindsHeldBetween from to old new (Ok tt)
  held_told (Ok matches) does tells = found_held matches (Ok matches) refl does tells
  held_told (Err refusal) does tells = absurd tells

  -- it tells of just the documents that were held
  pub between_held : (result : Result Unit Refusal) → DoesBetween from to old new result
      → FindsHeldBetween from to old new result
  between_held (Ok u) does = held_told does.answer does.finds.does does.tells
  between_held (Err refusal) does = tt
