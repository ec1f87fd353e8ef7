-- Each command that can be done is done: its refusals have causes that do not stand.
use Rattle.std.proofs.Common.{◌≡◌, ⊎_elim, ℕ, List, Option, refl, sym, subst}
use Rattle.cell_types.specs.Layout.{Layout}
use Rattle.cell_types.specs.declared.refusal.Refusal.{Refusal}
use Rattle.cell_types.specs.declared.refusal.Refusal.TheVariants as refusals
use Rattle.volume_meaning.specs.Volumes.{IsVolume}
use Rattle.worm_device.specs.Counts.{IsStill}
use Rattle.worm_device.specs.State.{DeviceState, IsDevice}
use Rattle.worm_memory.specs.Memory.{Memory, device_of}
use Rattle.crash_laws.specs.SettlingSteadiness.{IsSteady}
use Rattle.command_laws.specs.Begins.{BeginsSteady}
use Rattle.command_laws.specs.WholeLogs.{HasSteadyVolume}
use Rattle.command_laws.proofs.Completing.{audits_whole, formats_whole, ingests_whole, looks_whole, searches_whole, steady_settles}
use Rattle.script_events.specs.declared.event.Event.TheVariants as event
use Rattle.script_events.specs.declared.event.Schedule.{Schedule}
use Rattle.script_replies.specs.declared.reply.Reply.{Reply}
use Rattle.script_replies.specs.declared.reply.Reply.TheVariants as reply
use Rattle.script_replies.specs.Beginnings.{begun_with}
use Rattle.hostile_replay.specs.Completeness.{CommandsComplete, IsAcknowledgedReply, IsDoneWherePossible, IsFoundReply, IsLookedUpReply, IsSoundReply}
use Rattle.hostile_replay.specs.Turns.{LookUpRefused, Turns, event_layout}

module _ (plan : Schedule) (old new : Memory) (device : IsDevice (device_of (begun_with plan old)))
    (device_new : IsDevice (device_of new)) (steady : IsSteady (device_of (begun_with plan old)))
    (alone : IsStill old.foreign_writes new.foreign_writes) (no_fault : IsStill old.faults new.faults) where
  abbrev s : DeviceState
  s = device_of (begun_with plan old)

  abbrev t : DeviceState
  t = device_of new

  begins : BeginsSteady s t
  begins = record { tells = refl; steady = steady; alone = alone }

  log : (g : Layout) → IsVolume s.cells s.image g → HasSteadyVolume g s t
  log g volume = record { tells = refl; volume = volume; is = steady; alone = alone; no_fault = no_fault }

  format_done : (slots lists version : ℕ) (r : Reply) → Turns (event.Format slots lists version plan) r old new
      → IsDoneWherePossible (event.Format slots lists version plan) r s
  format_done slots lists version reply.Formatted turned = λ is blank. tt
  format_done slots lists version (reply.Refused refusal) turned = λ is blank.
      formats_whole (event_layout slots lists version old.cells) s t
      (record { layout = is; tells = refl; blank = blank; alone = alone }) no_fault refusal turned.answers.ends
  format_done slots lists version r turned = absurd turned.answers

  ingest_done : (id : List ℕ) (stamp : Option ℕ) (body : List ℕ) (r : Reply)
      → Turns (event.Ingest id stamp body plan) r old new → IsDoneWherePossible (event.Ingest id stamp body plan) r s
  ingest_done id stamp body (reply.Acknowledged n) turned = λ g slot place. tt
  ingest_done id stamp body (reply.Refused refusal) turned = λ g slot place.
      subst (λ (x : Refusal). IsAcknowledgedReply (reply.Refused x))
      (sym (ingests_whole begins place device device_new turned.called no_fault refusal turned.answers.ends)) tt
  ingest_done id stamp body r turned = absurd turned.answers

  find_done : (terms : List (List ℕ)) (r : Reply) → Turns (event.Find terms plan) r old new
      → IsDoneWherePossible (event.Find terms plan) r s
  find_done terms (reply.Found matches) turned = λ g volume. tt
  find_done terms (reply.Refused refusal) turned = λ g volume.
      subst (λ (x : Refusal). IsFoundReply (reply.Refused x))
      (sym (searches_whole (log g volume) device device_new turned.called terms refusal turned.answers.comes
      turned.answers.ends)) tt
  find_done terms r turned = absurd turned.answers

  refused_done : {id : List ℕ} (refusal : Refusal) → LookUpRefused id s t refusal → (g : Layout)
      → IsVolume s.cells s.image g → IsLookedUpReply (reply.Refused refusal)
  refused_done {id} refusal a g volume = ⊎_elim
      (λ (p : (refusal ≡ a.refused) × (a.refused ≡ refusals.SinkFault → ⊥)).
      subst (λ (x : Refusal). IsLookedUpReply (reply.Refused x)) (sym p.0)
      (subst (λ (x : Refusal). IsLookedUpReply (reply.Refused x))
      (sym (looks_whole (log g volume) device device_new a.looks.called id a.from a.to a.refused a.looks.comes p.1
      a.looks.ends)) tt))
      (λ (q : (a.refused ≡ refusals.SinkFault) × (refusal ≡ refusals.NoMemory)).
      subst (λ (x : Refusal). IsLookedUpReply (reply.Refused x)) (sym q.1) tt)
      a.told

  look_up_done : (id : List ℕ) (r : Reply) → Turns (event.Lookup id plan) r old new
      → IsDoneWherePossible (event.Lookup id plan) r s
  look_up_done id (reply.Body slot body) turned = λ g volume. tt
  look_up_done id (reply.Refused refusal) turned = λ g volume. refused_done refusal turned.answers g volume
  look_up_done id r turned = absurd turned.answers

  audit_done : (r : Reply) → Turns (event.Audit plan) r old new → IsDoneWherePossible (event.Audit plan) r s
  audit_done (reply.Sound report) turned = λ g volume. tt
  audit_done (reply.Refused refusal) turned = λ g volume.
      subst (λ (x : Refusal). IsSoundReply (reply.Refused x))
      (sym (audits_whole (log g volume) device device_new turned.called refusal turned.answers.comes)) tt
  audit_done r turned = absurd turned.answers

  recover_done : (r : Reply) → Turns (event.Recover plan) r old new → IsDoneWherePossible (event.Recover plan) r s
  recover_done (reply.Settled step) turned = λ g volume. tt
  recover_done (reply.Refused refusal) turned = λ g volume.
      steady_settles (log g volume) device device_new turned.called refusal turned.answers
  recover_done r turned = absurd turned.answers

pub commands_complete : CommandsComplete
commands_complete (event.Format slots lists version plan) r old new device device_new steady alone no_fault t =
    format_done plan old new device device_new steady alone no_fault slots lists version r t
commands_complete (event.Ingest id stamp body plan) r old new device device_new steady alone no_fault t =
    ingest_done plan old new device device_new steady alone no_fault id stamp body r t
commands_complete (event.Find terms plan) r old new device device_new steady alone no_fault t =
    find_done plan old new device device_new steady alone no_fault terms r t
commands_complete (event.Lookup id plan) r old new device device_new steady alone no_fault t =
    look_up_done plan old new device device_new steady alone no_fault id r t
commands_complete (event.Audit plan) r old new device device_new steady alone no_fault t =
    audit_done plan old new device device_new steady alone no_fault r t
commands_complete (event.Recover plan) r old new device device_new steady alone no_fault t =
    recover_done plan old new device device_new steady alone no_fault r t
commands_complete (event.Foreign at cell) r old new device device_new steady alone no_fault t = tt
commands_complete (event.Crash keep) r old new device device_new steady alone no_fault t = tt
