-- How a replay ends: the device that was handed in is untouched, never with `Usage`, and where nothing hinders it with
-- no refusal but want of memory.
use Rattle.std.proofs.Common.{◌≡◌, ℕ, List, Result, Ok, Err, refl, subst, sym, ◌∙◌}
use Rattle.cell_types.specs.declared.refusal.Evidence.{Evidence}
use Rattle.cell_types.specs.declared.refusal.Refusal.{Refusal}
use Rattle.cell_types.specs.declared.refusal.Refusal.TheVariants as refusals
use Rattle.volume_meaning.specs.declared.limits.TheConstants.{MAX_BODY_BYTES}
use Rattle.worm_device.specs.Calls.{Called}
use Rattle.worm_device.specs.State.{DeviceState}
use Rattle.worm_device.proofs.Counting.{rose_or_still}
use Rattle.worm_device.proofs.Elapsing.{called_self}
use Rattle.command_laws.proofs.Results.{one_refusal}
use Rattle.script_events.specs.Scripts.{IsScript, ReadScriptEnds}
use Rattle.script_events.specs.declared.event.Script.{Script}
use Rattle.script_events.proofs.OneScript.{texts_are_one_script}
use Rattle.script_replies.specs.Lines.{replies_text}
use Rattle.script_replies.specs.declared.reply.Reply.{Reply}
use Rattle.volume_commands.specs.Ports.{IsOkOrNoMemory, Ports, TellsFromMemory}
use Rattle.record_top.specs.Replaying.{DoesReplay, IsReadyToReplay, ReplayEnds, replayed, unread, untaken}
use Rattle.volume_commands.specs.Taking.{refusal_of_body_fault}
use Rattle.volume_commands.specs.declared.body.BodyFault.{BodyFault}
use Rattle.volume_commands.specs.declared.body.BodyFault.TheVariants as faults
use Rattle.volume_commands.proofs.Completing.{body_taken, gives_all}

module _ (old new : Ports) where
  -- the device is untouched
  pub replay_keeps : (result : Result Unit Refusal) → DoesReplay old new result → new.device ≡ old.device
  replay_keeps result (untaken given fault gives fails is same keeps) = same
  replay_keeps result (unread text refusal is gives end ends named same keeps) = same
  replay_keeps result (replayed text script answer is gives end are ends same tells) = same

  pub replay_called : (result : Result Unit Refusal) → DoesReplay old new result → Called old.device new.device
  replay_called result does =
      subst (λ (d : DeviceState). Called old.device d) (sym (replay_keeps result does)) (called_self old.device)

  no_fault : (other : Refusal) (fault : BodyFault) → refusal_of_body_fault fault ≡ other
      → (refusals.TooLong ≡ other → ⊥) → (refusals.SourceFault ≡ other → ⊥) → (refusals.NoMemory ≡ other → ⊥) → ⊥
  no_fault other faults.TooLong e long failed memory = long e
  no_fault other faults.SourceFailed e long failed memory = failed e
  no_fault other (faults.NoMemory lack) e long failed memory = memory e

  -- what is told of a replay is no other refusal than these
  told_is : (answer : Result (List Reply) Refusal) (script : Script) (other : Refusal) → ReplayEnds script answer
      → TellsFromMemory replies_text answer old new (Err other) → (refusals.SinkFault ≡ other → ⊥)
      → (refusals.NoMemory ≡ other → ⊥) → ⊥
  told_is (Ok replies) script refusals.NoMemory ends tells sink memory = memory refl
  told_is (Ok replies) script refusals.SinkFault ends tells sink memory = sink refl
  told_is (Ok replies) script other ends tells sink memory = tells
  told_is (Err refused) script other ends tells sink memory = memory (sym (tells.0 ∙ ends))

  -- it never ends with `Usage`
  pub replay_is_used : DoesReplay old new (Err refusals.Usage) → ⊥
  replay_is_used (untaken given fault gives fails is same keeps) =
      no_fault refusals.Usage fault
      (sym (one_refusal (Err refusals.Usage) refusals.Usage (refusal_of_body_fault fault) refl is))
      (λ e. absurd cc) (λ e. absurd cc) (λ e. absurd cc)
  replay_is_used (unread text refusal is gives end ends named same keeps) =
      subst (λ (r : Refusal). ReadScriptEnds text (Err r))
      (sym (one_refusal (Err refusals.Usage) refusals.Usage refusal refl named)) ends
  replay_is_used (replayed text script answer is gives end are ends same tells) =
      told_is answer script refusals.Usage ends tells (λ e. absurd cc) (λ e. absurd cc)

  -- it never names tampering: that is told in a line
  pub replay_names_none : (e : Evidence) → DoesReplay old new (Err (refusals.Tampered e)) → ⊥
  replay_names_none e (untaken given fault gives fails is same keeps) =
      no_fault (refusals.Tampered e) fault
      (sym (one_refusal (Err (refusals.Tampered e)) (refusals.Tampered e) (refusal_of_body_fault fault) refl is))
      (λ e. absurd cc) (λ e. absurd cc) (λ e. absurd cc)
  replay_names_none e (unread text refusal is gives end ends named same keeps) =
      subst (λ (r : Refusal). ReadScriptEnds text (Err r))
      (sym (one_refusal (Err (refusals.Tampered e)) (refusals.Tampered e) refusal refl named)) ends
  replay_names_none e (replayed text script answer is gives end are ends same tells) =
      told_is answer script (refusals.Tampered e) ends tells (λ e. absurd cc) (λ e. absurd cc)

module _ (text : List ℕ) (script : Script) (old new : Ports) (ready : IsReadyToReplay text script old new) where
  -- a text that is a script is read
  read_whole : (given : List ℕ) (refusal : Refusal) → given ≡ text → ReadScriptEnds given (Err refusal)
      → IsOkOrNoMemory (Err refusal)
  read_whole given refusals.NoMemory same ends = tt
  read_whole given (refusals.BadScript i) same ends =
      texts_are_one_script.none given script i (subst (λ (t : List ℕ). IsScript t script)
      (sym same) ready.is_script) ends
  read_whole given refusal same ends = absurd ends

  told : (result : Result Unit Refusal) (answer : Result (List Reply) Refusal) (of : Script) → ReplayEnds of answer
      → TellsFromMemory replies_text answer old new result → IsOkOrNoMemory result
  told (Ok u) answer of ends tells = tt
  told (Err refusals.NoMemory) answer of ends tells = tt
  told (Err refusals.SinkFault) (Ok replies) of ends tells = rose_or_still _ _ tells.faults ready.no_sink_fault
  told (Err refusal) (Ok replies) of ends tells = absurd tells
  told (Err refusal) (Err refused) of ends tells =
      subst (λ (r : Refusal). IsOkOrNoMemory (Err r)) (sym (tells.0 ∙ ends)) tt

  -- the answer is Ok, or want of memory
  pub replay_completes : (result : Result Unit Refusal) → DoesReplay old new result → IsOkOrNoMemory result
  replay_completes result (untaken given fault gives fails is same keeps) =
      subst IsOkOrNoMemory (sym is)
      (body_taken MAX_BODY_BYTES text old new ready.source ready.is_body.most ready.no_source_fault given
      fault gives fails)
  replay_completes result (unread given refusal is gives end ends named same keeps) =
      subst IsOkOrNoMemory (sym named)
      (read_whole given refusal (gives_all old.source.left text given new.source.left ready.source gives end) ends)
  replay_completes result (replayed given of answer is gives end are ends same tells) = told result answer of ends tells
