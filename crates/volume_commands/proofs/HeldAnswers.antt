-- From a steady device, where nobody else writes, a query answers by just the documents that the volume held at entry.
use Rattle.std.proofs.Common.{◌≡◌, ℕ, List, Result, Ok, Err, refl, ap, sym, subst}
use Rattle.std.specs.Global.{Vec}
use Rattle.cell_types.specs.declared.refusal.Refusal.{Refusal}
use Rattle.cell_types.specs.declared.refusal.Refusal.TheVariants as refusals
use Rattle.volume_meaning.specs.Volumes.{IsVolume}
use Rattle.volume_meaning.specs.declared.word_rules.WordRule.{WordRule}
use Rattle.volume_meaning.proofs.Extending.{volume_on}
use Rattle.worm_device.specs.Calls.{Called}
use Rattle.worm_device.specs.State.{DeviceState, IsDevice}
use Rattle.record_query.specs.Finding.{Searches}
use Rattle.record_query.specs.LookingUp.{LookUpEnds, LooksUp}
use Rattle.record_query.specs.declared.found.Found.{Found}
use Rattle.record_query.specs.declared.found.Match.{Match}
use Rattle.command_laws.specs.Begins.{BeginsSteady}
use Rattle.volume_commands.specs.Finding.{AreTermsOf, DoesFind, found_text, misworded, searched, unread, unruled}
use Rattle.volume_commands.specs.Ruling.{AsksRule, HasRule}
use Rattle.volume_commands.specs.LookingUp.{Answers, DoesLookUp, looked, misnamed}
use Rattle.volume_commands.specs.Ports.{Ports, TellsFromMemory}
use Rattle.volume_commands.specs.Steadiness.{FindsHeld, LooksUpHeld}
use Rattle.command_laws.proofs.LookedFirst.{begins_mid, held_mid}
use Rattle.command_laws.proofs.HeldAnswers.{just_these, none_held, stand_now, stands_among}
use Rattle.command_laws.proofs.Results.{no_answer, one_refusal, other_refusal}

module _ (old new : Ports) (device : IsDevice old.device) (device_new : IsDevice new.device)
    (begins : BeginsSteady old.device new.device) where
  module _ (mid : DeviceState) (rule : WordRule) (asks : AsksRule old.device mid (Ok rule)) where
    -- the volume that stands behind the search has the rule that was read
    rule_now : Called mid new.device → HasRule new.device.cells new.device.image rule
    rule_now called =
        let has = asks.ends.1 begins.tells in (
          has.0,
          subst (λ (k : ℕ). IsVolume k new.device.image has.0) (sym called.cells)
              (volume_on called.image has.1),
          has.2,
        )

    find_told : (asked terms : List (List ℕ)) (answer : Result (Vec Match) Refusal) → AreTermsOf rule asked terms
        → Searches terms mid new.device answer → TellsFromMemory found_text answer old new (Ok tt)
        → FindsHeld asked old new (Ok tt)
    find_told asked terms (Ok matches) are searches tells = λ documents held.
        let first = begins_mid old.device mid new.device device asks.called searches.called asks.quiet begins in
        let held_then = held_mid old.device mid new.device device asks.called searches.called asks.quiet begins
        documents held in
        let stand = stand_now mid new.device asks.device device_new first matches documents held_then (Ok matches) refl
        searches.comes in (
          rule,
          terms,
          matches.items,
          rule_now searches.called,
          are,
          just_these mid new.device asks.device device_new first stand.0 documents stand.1 terms matches.items
              (searches.ends first.tells),
          tells,
        )
    find_told asked terms (Err refusal) are searches tells = absurd tells

  pub find_held : (asked : List (List ℕ)) (result : Result Unit Refusal) → DoesFind asked old new result
      → FindsHeld asked old new result
  find_held asked (Err refusal) does = tt
  find_held asked (Ok u) (unruled refusal asks is source sink) = absurd (no_answer (Ok u) u refusal refl is)
  find_held asked (Ok u) (misworded rule i asks bad is source sink) =
      absurd (no_answer (Ok u) u (refusals.BadWord i) refl is)
  find_held asked (Ok u) (unread rule asks is source sink) = absurd (no_answer (Ok u) u refusals.NoMemory refl is)
  find_held asked (Ok u) (searched mid rule terms answer asks are searches kept source tells) =
      find_told mid rule asks asked terms answer are searches tells

  looked_up : (id : List ℕ) (answer : Result Found Refusal)
      → LooksUp id old.device new.device old.sink new.sink answer → Answers answer (Ok tt)
      → LooksUpHeld id old new (Ok tt)
  looked_up id (Ok found) looks answers = λ documents held.
      let stand = stand_now old.device new.device device device_new begins found documents held
      (Ok found) refl looks.comes in
      let puts = looks.ends in
      let first = puts.first begins.tells in (
        found.slot,
        puts.body,
        stands_among old.device new.device device device_new begins stand.0 documents stand.1 found.slot id puts.body
            first.first.stands,
        puts.gets,
      )
  looked_up id (Err refusal) looks answers = absurd (no_answer (Ok tt) tt refusal refl answers)

  none_there : (id : List ℕ) (answer : Result Found Refusal) → answer ≡ Err refusals.Absent
      → LooksUp id old.device new.device old.sink new.sink answer → LooksUpHeld id old new (Err refusals.Absent)
  none_there id answer absent looks documents held =
      let ends = subst (LookUpEnds id old.device new.device old.sink new.sink) absent looks.ends in
      (none_held old.device new.device device device_new begins id documents held answer absent looks.comes
      (ends.1 begins.tells)).1

  told_absent : (id : List ℕ) (answer : Result Found Refusal)
      → LooksUp id old.device new.device old.sink new.sink answer → Answers answer (Err refusals.Absent)
      → LooksUpHeld id old new (Err refusals.Absent)
  told_absent id (Ok found) looks answers = absurd (no_answer (Err refusals.Absent) tt refusals.Absent answers refl)
  told_absent id (Err refused) looks answers = none_there id (Err refused)
      (ap Err (one_refusal (Err refusals.Absent) refused refusals.Absent answers refl)) looks

  pub look_up_held : (id : List ℕ) (result : Result Unit Refusal) → DoesLookUp id old new result
      → LooksUpHeld id old new result
  look_up_held id (Ok u) (misnamed bad is same) = absurd (no_answer (Ok u) u refusals.BadIdentifier refl is)
  look_up_held id (Ok u) (looked answer name looks source answers) = looked_up id answer looks answers
  look_up_held id (Err refusals.Absent) (misnamed bad is same) = absurd (other_refusal
      (Err refusals.Absent) refusals.Absent refusals.BadIdentifier (λ s. absurd cc) refl is)
  look_up_held id (Err refusals.Absent) (looked answer name looks source answers) = told_absent id answer looks answers
  look_up_held id (Err refusal) does = tt
