-- How a find ends: over what every call of the device keeps, never with `Usage`, and where nothing hinders it with no
-- refusal but want of memory.
use Rattle.std.proofs.Common.{◌≡◌, ◌-◌, ◌≤◌, arith, get_or, length, ℕ, List, [], Result, Ok, Err, refl, subst, sym, ap, ◌∙◌}
use Rattle.std.proofs.lemmas.Option.{get_or_from_slice_get, slice_get_within}
use Rattle.std.proofs.lemmas.List.Elements.{Contains-get_or}
use Rattle.std.specs.Global.{Vec}
use Rattle.std.specs.Prelude.{Contains, IsTrue}
use Rattle.cell_types.specs.Layout.{Layout}
use Rattle.cell_types.specs.declared.refusal.Refusal.{Refusal}
use Rattle.cell_types.specs.declared.refusal.Refusal.TheVariants as refusals
use Rattle.volume_meaning.specs.Words.{rule_of}
use Rattle.volume_meaning.specs.declared.word_rules.WordRule.{WordRule}
use Rattle.volume_meaning.proofs.Extending.{volume_on}
use Rattle.volume_meaning.proofs.KeepingLaws.{kept_on}
use Rattle.volume_meaning.specs.Keeping.{Kept}
use Rattle.volume_meaning.specs.Volumes.{IsVolume}
use Rattle.tamper_rules.proofs.GivenUp.{one_layout}
use Rattle.worm_device.specs.Calls.{Called}
use Rattle.worm_device.specs.State.{DeviceState, IsDevice}
use Rattle.worm_device.proofs.Counting.{rose_or_still}
use Rattle.worm_device.proofs.Elapsing.{called_then}
use Rattle.record_query.specs.Finding.{FindEnds, Searches}
use Rattle.record_query.specs.declared.found.Match.{Match}
use Rattle.volume_commands.specs.Finding.{AreTermsOf, DoesFind, FindsKept, HasOneTerm, IsFirstBadWord, IsReadyToFind, TermsEnd, found_text, misworded, searched, unread, unruled}
use Rattle.volume_commands.specs.Ruling.{AsksRule, RuleEnds}
use Rattle.volume_commands.specs.Ports.{Ports, IsOkOrNoMemory, TellsFromMemory}
use Rattle.command_laws.proofs.Results.{one_refusal, other_refusal}
use Rattle.command_laws.proofs.Completing.{searches_whole}
use Rattle.command_laws.proofs.LookedFirst.{steady_mid}
use Rattle.command_laws.proofs.WholeLogs.{settles_whole, settling_steady}
use Rattle.command_laws.specs.WholeLogs.{HasSteadyVolume}

-- where the terms can't be read, nothing is done
pub not_searched : (asked : List (List ℕ)) (rule : WordRule) (old new : Ports) (refusal : Refusal)
    → AsksRule old.device new.device (Ok rule) → TermsEnd rule asked (Err refusal) → new.source ≡ old.source
    → new.sink ≡ old.sink → DoesFind asked old new (Err refusal)
not_searched asked rule old new (refusals.BadWord i) asks ends source sink =
    misworded rule i asks ends refl source sink
not_searched asked rule old new refusals.NoMemory asks ends source sink = unread rule asks refl source sink
not_searched asked rule old new refusal asks ends source sink = absurd ends

-- what was kept when cell 0 was read is kept when the search begins, and is found
kept_found : (terms : List (List ℕ)) (old mid new : DeviceState) (answer : Result (Vec Match) Refusal)
    → Called old mid → FindEnds terms mid new answer → FindsKept terms old answer
kept_found terms old mid new (Ok matches) called ends = λ tells documents kept d among has.
    let finds = ends (subst IsTrue (sym called.tells) tells) in
    finds.all documents
    (subst (λ (k : ℕ). Kept k mid.image documents) (sym called.cells) (kept_on called.image kept)) d among
    (record {
      layout = has.layout;
      volume = subst (λ (k : ℕ). IsVolume k mid.image has.layout) (sym called.cells)
          (volume_on called.image has.volume);
      matches = has.matches;
    })
kept_found terms old mid new (Err refusal) called ends = tt

-- so what the search answers is told as the command's
pub found : {asked sought terms : List (List ℕ)} {old new : Ports} {mid : DeviceState} {rule : WordRule}
    {result : Result Unit Refusal} (answer : Result (Vec Match) Refusal) → AsksRule old.device mid (Ok rule)
    → AreTermsOf rule asked terms → sought ≡ terms → Searches sought mid new.device answer → new.source ≡ old.source
    → TellsFromMemory found_text answer old new result → DoesFind asked old new result
found {terms = terms} {old} {new} {mid} {rule} answer asks are same searches source tells =
    let s = subst (λ (t : List (List ℕ)). Searches t mid new.device answer) same searches in
    searched mid rule terms answer asks are s (kept_found terms old.device mid new.device answer asks.called s.ends) source
    tells

-- where a word is asked for, some term is sought
pub some_term : (rule : WordRule) (asked terms : List (List ℕ)) → AreTermsOf rule asked terms → 1 ≤ length asked
    → 1 ≤ length terms
some_term rule asked terms are some =
    let there = are.all (get_or asked 0 []) (Contains-get_or asked 0 [] some) in
    omega (arith, there.2.1)

module _ (asked : List (List ℕ)) (old new : Ports) where
  -- a find keeps what every call of the device keeps
  pub find_called : (result : Result Unit Refusal) → DoesFind asked old new result → Called old.device new.device
  find_called result (unruled refusal asks is source sink) = asks.called
  find_called result (misworded rule i asks bad is source sink) = asks.called
  find_called result (unread rule asks is source sink) = asks.called
  find_called result (searched mid rule terms answer asks are searches kept source tells) =
      called_then asks.called searches.called

  told_is_used : (terms : List (List ℕ)) (mid : DeviceState) (answer : Result (Vec Match) Refusal)
      → FindEnds terms mid new.device answer → TellsFromMemory found_text answer old new (Err refusals.Usage) → ⊥
  told_is_used terms mid (Ok matches) ends tells = tells
  told_is_used terms mid (Err refused) ends tells =
      subst (λ (r : Refusal). FindEnds terms mid new.device (Err r)) (sym tells.0) ends

  rule_is_used : (refusal : Refusal) → RuleEnds old.device new.device (Err refusal) → refusal ≡ refusals.Usage → ⊥
  rule_is_used refusal ends is = subst (λ (r : Refusal). RuleEnds old.device new.device (Err r)) is ends

  -- and never ends with `Usage`
  pub find_is_used : DoesFind asked old new (Err refusals.Usage) → ⊥
  find_is_used (unruled refusal asks is source sink) = rule_is_used refusal asks.ends
      (one_refusal (Err refusals.Usage) refusal refusals.Usage is refl)
  find_is_used (misworded rule i asks bad is source sink) =
      other_refusal (Err refusals.Usage) refusals.Usage (refusals.BadWord i) (λ s. absurd cc) refl is
  find_is_used (unread rule asks is source sink) =
      other_refusal (Err refusals.Usage) refusals.Usage refusals.NoMemory (λ s. absurd cc) refl is
  find_is_used (searched mid rule terms answer asks are searches kept source tells) =
      told_is_used terms mid answer searches.ends tells

module _ (asked : List (List ℕ)) (g : Layout) (old new : Ports) (ready : IsReadyToFind asked g old new)
    (device : IsDevice old.device) (device_new : IsDevice new.device) where
  find_told : (mid : DeviceState) (terms : List (List ℕ)) (result : Result Unit Refusal)
      (answer : Result (Vec Match) Refusal) → IsDevice mid → HasSteadyVolume g mid new.device
      → Searches terms mid new.device answer → TellsFromMemory found_text answer old new result
      → IsOkOrNoMemory result
  find_told mid terms (Ok u) answer device_mid log searches tells = tt
  find_told mid terms (Err refusal) (Err refused) device_mid log searches tells =
      subst (λ (r : Refusal). IsOkOrNoMemory (Err r)) (sym tells.0)
      (subst (λ (r : Refusal). IsOkOrNoMemory (Err r)) (sym (searches_whole log device_mid device_new searches.called
      terms refused searches.comes searches.ends)) tt)
  find_told mid terms (Err refusals.NoMemory) (Ok matches) device_mid log searches tells = tt
  find_told mid terms (Err refusals.SinkFault) (Ok matches) device_mid log searches tells =
      rose_or_still _ _ tells.faults ready.no_sink_fault
  find_told mid terms (Err refusal) (Ok matches) device_mid log searches tells = absurd tells

  -- the rule that was read is the volume's
  rule_is : (mid : DeviceState) (rule : WordRule) → AsksRule old.device mid (Ok rule) → rule ≡ rule_of g.version
  rule_is mid rule asks =
      let has = asks.ends.1 ready.log.tells in
      let same : has.0 ≡ g = one_layout {cells = mid.cells} {more = mid.cells} has.0 g has.1
      (subst (λ (k : ℕ). IsVolume k mid.image g) (sym asks.called.cells)
      (volume_on asks.called.image ready.log.volume)) in
      has.2 ∙ ap (λ (l : Layout). rule_of l.version) same

  no_bad_word : (mid : DeviceState) (rule : WordRule) → AsksRule old.device mid (Ok rule) → (i : ℕ)
      → IsFirstBadWord rule asked i → ⊥
  no_bad_word mid rule asks i first =
      let among : Contains asked first.word = (
        i - 1,
        slice_get_within asked (i - 1) first.word first.at,
        get_or_from_slice_get asked (i - 1) first.word first.word first.at,
      ) in
      first.bad (subst (λ (r : WordRule). HasOneTerm r first.word) (sym (rule_is mid rule asks))
      (ready.words first.word among))

  -- cell 0 tells the rule
  ruled : (refusal : Refusal) → AsksRule old.device new.device (Err refusal) → ⊥
  ruled refusal asks = by_refusal refusal asks.ends
    where
      by_refusal : (r : Refusal) → RuleEnds old.device new.device (Err r) → ⊥
      by_refusal refusals.DeviceFault ends = settles_whole (settling_steady ready.log) asks.called refusals.DeviceFault
          (λ e same. absurd cc) ends
      by_refusal refusals.NotFormatted ends = settles_whole (settling_steady ready.log) asks.called
          refusals.NotFormatted (λ e same. absurd cc) ends
      by_refusal (refusals.NotAVolume found) ends = settles_whole (settling_steady ready.log) asks.called
          (refusals.NotAVolume found) (λ e same. absurd cc) ends
      by_refusal (refusals.WrongSize stated real) ends = settles_whole (settling_steady ready.log) asks.called
          (refusals.WrongSize stated real) (λ e same. absurd cc) ends
      by_refusal r ends = ends

  -- the answer is Ok, or want of memory
  pub find_completes : (result : Result Unit Refusal) → DoesFind asked old new result → IsOkOrNoMemory result
  find_completes result (unruled refusal asks is source sink) = absurd (ruled refusal asks)
  find_completes result (misworded rule i asks bad is source sink) = absurd (no_bad_word new.device rule asks i bad)
  find_completes result (unread rule asks is source sink) = subst IsOkOrNoMemory (sym is) tt
  find_completes result (searched mid rule terms answer asks are searches kept source tells) =
      find_told mid terms result answer asks.device
      (steady_mid old.device mid new.device device asks.called searches.called asks.quiet ready.log) searches tells
