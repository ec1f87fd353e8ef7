-- Each command is whole, from a steady device on, where nobody else writes: what the engines' clauses say of it.
use Rattle.std.proofs.Common.{◌≡◌, ⊎_elim, ℕ, List, Option, Ok, Err, refl, sym, ap, ◌∙◌, subst}
use Rattle.std.specs.Prelude.{Contains}
use Rattle.cell_types.specs.declared.refusal.Evidence.{Evidence}
use Rattle.cell_types.specs.declared.refusal.Refusal.{Refusal}
use Rattle.cell_types.specs.declared.refusal.Refusal.TheVariants as refusals
use Rattle.volume_meaning.specs.Documents.{AreDocuments, Document}
use Rattle.tamper_rules.specs.Settling.{Held}
use Rattle.worm_device.specs.Counts.{IsStill}
use Rattle.worm_device.specs.State.{DeviceState, IsDevice}
use Rattle.worm_memory.specs.Memory.{Memory, device_of}
use Rattle.crash_laws.specs.SettlingSteadiness.{IsSteady}
use Rattle.ingest_engine.specs.Formats.{Formats}
use Rattle.ingest_engine.specs.Ingesting.{Ingests}
use Rattle.crash_laws.specs.Steadiness.{HasOneMore}
use Rattle.crash_laws.proofs.AddsOne.{comes_more}
use Rattle.crash_laws.proofs.Alarms.{none_named}
use Rattle.crash_laws.proofs.Kept.{refused_keeps}
use Rattle.crash_laws.proofs.Steady.{comes_steady}
use Rattle.record_query.specs.Finding.{Searches}
use Rattle.record_query.specs.LookingUp.{LooksUp}
use Rattle.volume_audit.specs.Audits.{Audits}
use Rattle.volume_audit.proofs.Comes.{licensed, settles_first}
use Rattle.command_laws.specs.Begins.{BeginsSteady}
use Rattle.command_laws.specs.Telling.{AreMatchesOf}
use Rattle.command_laws.proofs.Alarms.{query_alarms, settling_alarms}
use Rattle.command_laws.proofs.Formatting.{format_leaves}
use Rattle.command_laws.proofs.HeldAnswers.{just_these, none_held, stand_now, stands_among}
use Rattle.command_laws.proofs.Queries.{query_leaves, settling_leaves}
use Rattle.script_events.specs.declared.event.Event.TheVariants as event
use Rattle.script_events.specs.declared.event.Schedule.{Schedule}
use Rattle.script_replies.specs.declared.reply.Reply.{Reply}
use Rattle.script_replies.specs.declared.reply.Reply.TheVariants as reply
use Rattle.script_replies.specs.Beginnings.{begun_with}
use Rattle.hostile_replay.specs.Steadily.{CommandsAreWhole, IsTurnedDown, IsWholeTurn}
use Rattle.hostile_replay.specs.Turns.{LookUpRefused, Turns, event_layout}
use Rattle.hostile_replay.proofs.Standing.{body_is}

same_refusal : (a b : Refusal) → reply.Refused a ≡ reply.Refused b → a ≡ b
same_refusal a b p = cc

module _ (plan : Schedule) (old new : Memory) (device : IsDevice (device_of (begun_with plan old)))
    (device_new : IsDevice (device_of new)) (steady : IsSteady (device_of (begun_with plan old)))
    (alone : IsStill old.foreign_writes new.foreign_writes) where
  abbrev s : DeviceState
  s = device_of (begun_with plan old)

  abbrev t : DeviceState
  t = device_of new

  begins : BeginsSteady s t
  begins = record { tells = refl; steady = steady; alone = alone }

  -- no reply but a refusal names tampering
  format_whole : (slots lists version : ℕ) (r : Reply) → Turns (event.Format slots lists version plan) r old new
      → IsWholeTurn (event.Format slots lists version plan) r old new
  format_whole slots lists version reply.Formatted turned = record {
    leaves = format_leaves (event_layout slots lists version old.cells) s t refl device begins turned.answers.called
        turned.answers.only (Ok tt) turned.answers.ends;
    tells = λ done. absurd done;
    no_alarm = λ e named. absurd cc;
  }
  format_whole slots lists version (reply.Refused refusal) turned = record {
    leaves = format_leaves (event_layout slots lists version old.cells) s t refl device begins turned.answers.called
        turned.answers.only (Err refusal) turned.answers.ends;
    tells = λ done. absurd done;
    no_alarm = λ e named. (subst (λ (r : Refusal). Formats (event_layout slots lists version old.cells) s t (Err r))
        (same_refusal refusal (refusals.Tampered e) named) turned.answers).ends;
  }
  format_whole slots lists version r turned = absurd turned.answers

  ingest_whole : (id : List ℕ) (stamp : Option ℕ) (body : List ℕ) (r : Reply)
      → Turns (event.Ingest id stamp body plan) r old new → IsWholeTurn (event.Ingest id stamp body plan) r old new
  ingest_whole id stamp body (reply.Acknowledged n) turned = record {
    leaves = record {
      stays = comes_steady id stamp body s t device device_new refl alone steady turned.answers.comes;
      adds = λ m same. subst (λ (k : ℕ). HasOneMore id stamp body k s t)
          (let one : reply.Acknowledged n ≡ reply.Acknowledged m = same in cc)
          (comes_more id stamp body s t n device device_new refl alone steady
          (turned.answers.ends refl) turned.answers.comes);
      keeps = λ refused. absurd refused;
    };
    tells = λ done. absurd done;
    no_alarm = λ e named. absurd cc;
  }
  ingest_whole id stamp body (reply.Refused refusal) turned = record {
    leaves = record {
      stays = comes_steady id stamp body s t device device_new refl alone steady turned.answers.comes;
      adds = λ m same. absurd cc;
      keeps = λ refused documents held.
          refused_keeps id stamp body s t turned.answers.called device device_new refl alone steady
          documents held refusal
          (λ fault. subst IsTurnedDown (ap reply.Refused fault) refused) turned.answers.comes turned.answers.ends;
    };
    tells = λ done. absurd done;
    no_alarm = λ e named. none_named s t e device device_new refl alone steady
        ((subst (λ (r : Refusal). Ingests id stamp body s t (Err r)) (same_refusal refusal (refusals.Tampered e) named)
        turned.answers).ends refl);
  }
  ingest_whole id stamp body r turned = absurd turned.answers

  find_whole : (terms : List (List ℕ)) (r : Reply) → Turns (event.Find terms plan) r old new
      → IsWholeTurn (event.Find terms plan) r old new
  find_whole terms (reply.Found matches) turned =
      let a = turned.answers in
      record {
        leaves = query_leaves s t device device_new begins a.searches.comes;
        tells = λ done documents held.
            let stand =
            stand_now s t device device_new begins a.found documents held (Ok a.found) refl a.searches.comes in (
              stand.1,
              subst (AreMatchesOf t terms documents) (sym a.matches_are)
                  (just_these s t device device_new begins stand.0 documents stand.1 terms a.found.items
                  (a.searches.ends refl)),
            );
        no_alarm = λ e named. absurd cc;
      }
  find_whole terms (reply.Refused refusal) turned = record {
    leaves = query_leaves s t device device_new begins turned.answers.comes;
    tells = λ done. absurd done;
    no_alarm = λ e named.
        let searches = subst (λ (r : Refusal). Searches terms s t (Err r))
        (same_refusal refusal (refusals.Tampered e) named) turned.answers in
        query_alarms s t device refl alone steady device_new searches.comes e refl (searches.ends refl);
  }
  find_whole terms r turned = absurd turned.answers

  refused_alarms : {id : List ℕ} (refusal : Refusal) → LookUpRefused id s t refusal → (e : Evidence)
      → refusal ≡ refusals.Tampered e → ⊥
  refused_alarms {id} refusal a e named = ⊎_elim
      (λ (p : (refusal ≡ a.refused) × (a.refused ≡ refusals.SinkFault → ⊥)).
      let is : a.refused ≡ refusals.Tampered e = sym p.0 ∙ named in
      let looks = subst (λ (r : Refusal). LooksUp id s t a.from a.to (Err r)) is a.looks in
      query_alarms s t device refl alone steady device_new looks.comes e refl (looks.ends.1 refl).1)
      (λ (q : (a.refused ≡ refusals.SinkFault) × (refusal ≡ refusals.NoMemory)).
      absurd (let clash : refusals.Tampered e ≡ refusals.NoMemory = sym named ∙ q.1 in cc))
      a.told

  refused_absent : {id : List ℕ} → LookUpRefused id s t refusals.Absent → (documents : List Document)
      → Held s.cells s.image documents
      → AreDocuments t.cells t.image documents × ((d : Document) → Contains documents d → d.id ≡ id → ⊥)
  refused_absent {id} a documents held = ⊎_elim
      (λ (p : (refusals.Absent ≡ a.refused) × (a.refused ≡ refusals.SinkFault → ⊥)).
      let looks = subst (λ (r : Refusal). LooksUp id s t a.from a.to (Err r)) (sym p.0) a.looks in
      none_held s t device device_new begins id documents held (Err refusals.Absent) refl looks.comes
      (looks.ends.1 refl))
      (λ (q : (a.refused ≡ refusals.SinkFault) × (refusals.Absent ≡ refusals.NoMemory)).
      absurd (let clash : refusals.Absent ≡ refusals.NoMemory = q.1 in cc))
      a.told

  look_up_whole : (id : List ℕ) (r : Reply) → Turns (event.Lookup id plan) r old new
      → IsWholeTurn (event.Lookup id plan) r old new
  look_up_whole id (reply.Body slot body) turned =
      let a = turned.answers in
      record {
        leaves = query_leaves s t device device_new begins a.looks.comes;
        tells = λ done documents held.
            let stand = stand_now s t device device_new begins a.found documents held (Ok a.found) refl a.looks.comes in
            let there : Contains documents (record { slot = a.found.slot; id = id; body = a.looks.ends.body }) =
            stands_among s t device device_new begins stand.0 documents stand.1 a.found.slot id a.looks.ends.body
            (a.looks.ends.first refl).first.stands in (
              stand.1,
              subst (λ (n : ℕ). Contains documents (record { slot = n; id = id; body = body })) (sym a.slot_is)
                  (subst (λ (b : List ℕ). Contains documents (record { slot = a.found.slot; id = id; body = b }))
                  (sym (body_is a)) there),
            );
        no_alarm = λ e named. absurd cc;
      }
  look_up_whole id (reply.Refused refusals.Absent) turned = record {
    leaves = query_leaves s t device device_new begins turned.answers.looks.comes;
    tells = λ done documents held. refused_absent turned.answers documents held;
    no_alarm = λ e named. absurd cc;
  }
  look_up_whole id (reply.Refused refusal) turned = record {
    leaves = query_leaves s t device device_new begins turned.answers.looks.comes;
    tells = λ done. absurd done;
    no_alarm = λ e named. refused_alarms refusal turned.answers e (same_refusal refusal (refusals.Tampered e) named);
  }
  look_up_whole id r turned = absurd turned.answers

  audit_whole : (r : Reply) → Turns (event.Audit plan) r old new → IsWholeTurn (event.Audit plan) r old new
  audit_whole (reply.Sound report) turned = record {
    leaves = query_leaves s t device device_new begins (settles_first turned.answers.comes);
    tells = λ done. absurd done;
    no_alarm = λ e named. absurd cc;
  }
  audit_whole (reply.Refused refusal) turned = record {
    leaves = query_leaves s t device device_new begins (settles_first turned.answers.comes);
    tells = λ done. absurd done;
    no_alarm = λ e named.
        let audits = subst (λ (r : Refusal). Audits s t (Err r)) (same_refusal refusal (refusals.Tampered e) named)
        turned.answers in
        query_alarms s t device refl alone steady device_new (settles_first audits.comes) e refl
        (licensed e audits.comes refl);
  }
  audit_whole r turned = absurd turned.answers

  recover_whole : (r : Reply) → Turns (event.Recover plan) r old new → IsWholeTurn (event.Recover plan) r old new
  recover_whole (reply.Settled step) turned = record {
    leaves = settling_leaves s t device device_new begins (Ok turned.answers.0) turned.answers.1;
    tells = λ done. absurd done;
    no_alarm = λ e named. absurd cc;
  }
  recover_whole (reply.Refused refusal) turned = record {
    leaves = settling_leaves s t device device_new begins (Err refusal) turned.answers;
    tells = λ done. absurd done;
    no_alarm = λ e named. settling_alarms s t device refl alone steady refusal e turned.answers
        (same_refusal refusal (refusals.Tampered e) named);
  }
  recover_whole r turned = absurd turned.answers

pub commands_whole : CommandsAreWhole
commands_whole (event.Format slots lists version plan) r old new device device_new steady alone command turned =
    format_whole plan old new device device_new steady alone slots lists version r turned
commands_whole (event.Ingest id stamp body plan) r old new device device_new steady alone command turned =
    ingest_whole plan old new device device_new steady alone id stamp body r turned
commands_whole (event.Find terms plan) r old new device device_new steady alone command turned =
    find_whole plan old new device device_new steady alone terms r turned
commands_whole (event.Lookup id plan) r old new device device_new steady alone command turned =
    look_up_whole plan old new device device_new steady alone id r turned
commands_whole (event.Audit plan) r old new device device_new steady alone command turned =
    audit_whole plan old new device device_new steady alone r turned
commands_whole (event.Recover plan) r old new device device_new steady alone command turned =
    recover_whole plan old new device device_new steady alone r turned
commands_whole (event.Foreign at cell) r old new device device_new steady alone command turned = absurd command
commands_whole (event.Crash keep) r old new device device_new steady alone command turned = absurd command
