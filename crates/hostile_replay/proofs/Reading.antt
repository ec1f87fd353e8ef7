-- A command that is done, from a steady device on, where nobody else writes, has read the device, and leaves it
-- settled.
use Rattle.std.proofs.Common.{◌≡◌, ℕ, List, [], ◌∷◌, ◌++◌, length, Option, Result, Ok, Err, refl, sym, ap, ◌∙◌, subst, arith}
use Rattle.std.proofs.lemmas.List.{length-append}
use Rattle.std.proofs.lemmas.Option.{none-some}
use Rattle.cell_types.specs.Image.{Image}
use Rattle.cell_types.specs.declared.refusal.Refusal.{Refusal}
use Rattle.volume_meaning.specs.Documents.{AreDocuments, Document}
use Rattle.volume_meaning.proofs.Lists.{lists_one}
use Rattle.tamper_rules.specs.Settling.{Held, Settled, none, nothing, of_after}
use Rattle.tamper_rules.proofs.Images.{same_image}
use Rattle.tamper_rules.proofs.OneAfter.{one_after}
use Rattle.worm_device.specs.Counts.{IsStill, Rose}
use Rattle.worm_device.specs.State.{DeviceState, IsDevice}
use Rattle.worm_device.proofs.Elapsing.{called_self}
use Rattle.worm_memory.specs.Memory.{Memory, device_of}
use Rattle.recovery_engine.specs.Settling.{HasSettled, SettlesFirst, settled, settling}
use Rattle.recovery_engine.specs.declared.settling.Ready.{Ready}
use Rattle.crash_laws.specs.SettlingSteadiness.{IsSteady}
use Rattle.crash_laws.proofs.LeftWhole.{held_unmoved, settling_keeps}
use Rattle.ingest_engine.specs.Ingesting as ingesting
use Rattle.ingest_engine.specs.Ingesting.{IngestComesTo, document_in}
use Rattle.crash_laws.specs.Steadiness.{HasOneMore}
use Rattle.volume_audit.proofs.Comes.{settles_first}
use Rattle.command_laws.specs.Begins.{BeginsSteady}
use Rattle.command_laws.proofs.Formatting.{format_makes}
use Rattle.command_laws.proofs.HeldAnswers.{settled_now}
use Rattle.command_laws.proofs.Results.{no_answer}
use Rattle.script_events.specs.declared.event.Event.{Event}
use Rattle.script_events.specs.declared.event.Event.TheVariants as event
use Rattle.script_events.specs.declared.event.Schedule.{Schedule}
use Rattle.script_replies.specs.declared.reply.Reply.{Reply}
use Rattle.script_replies.specs.declared.reply.Reply.TheVariants as reply
use Rattle.script_replies.specs.Beginnings.{begun_with}
use Rattle.hostile_replay.specs.Steadily.{IsCommand, IsWholeTurn, begun_by}
use Rattle.hostile_replay.specs.Turns.{Turns, event_layout}
use Rattle.hostile_replay.specs.Undisturbed.{IsDoneReply}

-- what a settled image holds are its documents
pub settled_documents : (cells : ℕ) (image : Image) (documents : List Document) → Settled cells image
    → Held cells image documents → AreDocuments cells image documents
settled_documents cells image documents whole (none blank is) =
    absurd (none-some whole.volume.volume.cell (sym (blank 0) ∙ whole.volume.volume.stands))
settled_documents cells image documents whole (of_after after a are) =
    subst (λ (i : Image). AreDocuments cells i documents)
    (one_after cells image after image a (nothing whole (λ cell. refl))) are

longer : (documents : List Document) (d : Document) → documents ≡ documents ++ d ∷ [] → ⊥
longer documents d same = omega (arith, ap (λ (l : List Document). length l) same, length-append documents (d ∷ []))

-- the event was done, and has read the device
pub record IsDoneSo (old new : DeviceState) : Type 0 where
  pub read : Rose old.reads new.reads
  pub settled : Settled new.cells new.image

module _ (s t : DeviceState) (device : IsDevice s) (device_new : IsDevice t) (begins : BeginsSteady s t) where
  done_by : (r : Ready) → HasSettled s t r → IsDoneSo s t
  done_by r has = record {
    read = let first : Rose s.reads has.settled.reads = has.settles.read refl in omega (arith, first, has.looked.reads);
    settled = settled_now s t device device_new begins r has;
  }

  done_first : {X : Type 0} (a : X) (answer : Result X Refusal) → answer ≡ Ok a → SettlesFirst X s t answer
      → IsDoneSo s t
  done_first a answer ok (settling refusal is settles) = absurd (no_answer answer a refusal ok is)
  done_first a answer ok (settled r has) = done_by r has

  module _ (id : List ℕ) (stamp : Option ℕ) (body : List ℕ) (n : ℕ) (more : HasOneMore id stamp body n s t)
      (documents : List Document)
      (held : Held s.cells s.image documents) where
    -- the document was added, so not just the others are held
    pub not_held : Held t.cells t.image documents → ⊥
    not_held still_held =
        let now = settled_documents t.cells t.image documents more.settled still_held in
        let added = subst (λ (i : Image). AreDocuments t.cells i (documents ++ document_in n id body ∷ []))
        (same_image more.sure) (more.documents documents held) in
        longer documents (document_in n id body)
        (lists_one t.cells t.image documents (documents ++ document_in n id body ∷ []) now added)

    ingest_read : IngestComesTo id stamp body s t → Rose s.reads t.reads
    ingest_read (ingesting.nothing same) = absurd (not_held (held_unmoved same documents held))
    ingest_read (ingesting.settling refusal settles) = absurd (not_held
        (subst (λ (k : ℕ). Held k t.image documents) (sym settles.called.cells)
        (settling_keeps s t (Err refusal) device device_new begins.tells settles begins.alone begins.steady documents
        held)))
    ingest_read (ingesting.settled r has) = (done_by r has).read
    ingest_read (ingesting.put looked r p has device_looked less plans puts) =
        let first : Rose s.reads has.settled.reads = has.settles.read refl in
        omega (arith, first, has.looked.reads, puts.called.reads)

module _ (plan : Schedule) (old new : Memory) (device : IsDevice (device_of (begun_with plan old)))
    (device_new : IsDevice (device_of new)) (steady : IsSteady (device_of (begun_with plan old)))
    (alone : IsStill old.foreign_writes new.foreign_writes) where
  abbrev s : DeviceState
  s = device_of (begun_with plan old)

  abbrev t : DeviceState
  t = device_of new

  begins : BeginsSteady s t
  begins = record { tells = refl; steady = steady; alone = alone }

  format_so : (slots lists version : ℕ) (r : Reply) → Turns (event.Format slots lists version plan) r old new
      → IsDoneReply r → IsDoneSo s t
  format_so slots lists version reply.Formatted turned done = record {
    read = turned.answers.read refl;
    settled = (format_makes (event_layout slots lists version old.cells) s t refl device begins turned.answers.called
        turned.answers.only device_new turned.answers.ends).settled;
  }
  format_so slots lists version (reply.Refused refusal) turned done = absurd done
  format_so slots lists version r turned done = absurd turned.answers

  ingest_so : (id : List ℕ) (stamp : Option ℕ) (body : List ℕ) (r : Reply)
      → Turns (event.Ingest id stamp body plan) r old new → IsWholeTurn (event.Ingest id stamp body plan) r old new
      → (documents : List Document)
      → Held s.cells s.image documents → IsDoneReply r → IsDoneSo s t
  ingest_so id stamp body (reply.Acknowledged n) turned whole documents held done =
      let more = whole.leaves.adds n refl in
      record {
        read = ingest_read s t device device_new begins id stamp body n more documents held turned.answers.comes;
        settled = more.settled;
      }
  ingest_so id stamp body (reply.Refused refusal) turned whole documents held done = absurd done
  ingest_so id stamp body r turned whole documents held done = absurd turned.answers

  find_so : (terms : List (List ℕ)) (r : Reply) → Turns (event.Find terms plan) r old new → IsDoneReply r
      → IsDoneSo s t
  find_so terms (reply.Found matches) turned done =
      let a = turned.answers in done_first s t device device_new begins a.found (Ok a.found) refl a.searches.comes
  find_so terms (reply.Refused refusal) turned done = absurd done
  find_so terms r turned done = absurd turned.answers

  look_up_so : (id : List ℕ) (r : Reply) → Turns (event.Lookup id plan) r old new → IsDoneReply r → IsDoneSo s t
  look_up_so id (reply.Body slot body) turned done =
      let a = turned.answers in done_first s t device device_new begins a.found (Ok a.found) refl a.looks.comes
  look_up_so id (reply.Refused refusal) turned done = absurd done
  look_up_so id r turned done = absurd turned.answers

  audit_so : (r : Reply) → Turns (event.Audit plan) r old new → IsDoneReply r → IsDoneSo s t
  audit_so (reply.Sound report) turned done =
      done_first s t device device_new begins report (Ok report) refl (settles_first turned.answers.comes)
  audit_so (reply.Refused refusal) turned done = absurd done
  audit_so r turned done = absurd turned.answers

  recover_so : (r : Reply) → Turns (event.Recover plan) r old new → IsDoneReply r → IsDoneSo s t
  recover_so (reply.Settled step) turned done =
      done_by s t device device_new begins turned.answers.0
      (record { settled = t; settles = turned.answers.1; looked = called_self t; quiet = λ still cell. refl })
  recover_so (reply.Refused refusal) turned done = absurd done
  recover_so r turned done = absurd turned.answers

pub done_so : (e : Event) (r : Reply) (old new : Memory) → IsDevice (device_of (begun_by e old))
    → IsDevice (device_of new) → IsSteady (device_of (begun_by e old)) → IsStill old.foreign_writes new.foreign_writes
    → IsCommand e → Turns e r old new → IsWholeTurn e r old new → (documents : List Document)
    → Held old.cells (device_of old).image documents → IsDoneReply r
    → IsDoneSo (device_of (begun_by e old)) (device_of new)
done_so (event.Format slots lists version plan) r old new device device_new steady alone command turned whole
    documents held done =
    format_so plan old new device device_new steady alone slots lists version r turned done
done_so (event.Ingest id stamp body plan) r old new device device_new steady alone command turned whole
    documents held done =
    ingest_so plan old new device device_new steady alone id stamp body r turned whole documents held done
done_so (event.Find terms plan) r old new device device_new steady alone command turned whole documents held done =
    find_so plan old new device device_new steady alone terms r turned done
done_so (event.Lookup id plan) r old new device device_new steady alone command turned whole documents held done =
    look_up_so plan old new device device_new steady alone id r turned done
done_so (event.Audit plan) r old new device device_new steady alone command turned whole documents held done =
    audit_so plan old new device device_new steady alone r turned done
done_so (event.Recover plan) r old new device device_new steady alone command turned whole documents held done =
    recover_so plan old new device device_new steady alone r turned done
done_so (event.Foreign at cell) r old new device device_new steady alone command turned whole documents held done =
    absurd command
done_so (event.Crash keep) r old new device device_new steady alone command turned whole documents held done =
    absurd command
