-- Acknowledged documents are kept from then on, and so they are returned.
use Rattle.std.proofs.Common.{◌≡◌, ⊎_elim, ℕ, List, Option, [], ◌∷◌, refl, sym, subst, ◌∙◌, arith}
use Rattle.std.specs.Prelude.{Contains, Err, IsTrue}
use Rattle.std.proofs.lemmas.List.Elements.{Contains-append_cases, Contains-push, Contains-push_cases}
use Rattle.cell_types.specs.Layout.{Layout}
use Rattle.cell_types.specs.declared.refusal.Refusal.{Refusal}
use Rattle.cell_types.specs.declared.refusal.Refusal.TheVariants as refusals
use Rattle.volume_meaning.specs.Documents.{Document}
use Rattle.volume_meaning.specs.Volumes.{IsVolume}
use Rattle.volume_meaning.proofs.Extending.{volume_on}
use Rattle.volume_meaning.specs.Keeping.{IsKept, Kept}
use Rattle.volume_meaning.proofs.KeepingLaws.{kept_on}
use Rattle.tamper_rules.proofs.GivenUp.{one_layout}
use Rattle.worm_device.specs.State.{DeviceState, IsDevice}
use Rattle.worm_memory.specs.Memory.{Memory, device_of}
use Rattle.ingest_engine.specs.Ingesting.{IsIngested, document_in}
use Rattle.record_query.specs.Finding.{HasMatch}
use Rattle.record_query.specs.LookingUp.{IsAbsent, LookUpEnds}
use Rattle.record_query.specs.declared.found.Match.{Match}
use Rattle.hostile_replay.specs.Headline.{AcknowledgedAreReturned, Returns}
use Rattle.hostile_replay.specs.Turns.{LookUpRefused, Turns}
use Rattle.hostile_replay.specs.Worlds.{AreInTurn, Turn, acknowledged, acknowledged_by}
use Rattle.script_events.specs.declared.event.Event.{Event}
use Rattle.script_events.specs.declared.event.Event.TheVariants as event
use Rattle.script_replies.specs.declared.reply.Reply.{Reply}
use Rattle.script_replies.specs.declared.reply.Reply.TheVariants as reply
use Rattle.hostile_replay.proofs.Along.{Goes, along, split}
use Rattle.hostile_replay.proofs.Standing.{body_is}

-- the document is kept by what is sure
abbrev pub IsSurelyKept : DeviceState → Document → Type 0
IsSurelyKept s d = Kept s.cells s.sure (d ∷ [])

kept_along : {old new : DeviceState} {d : Document} → Goes old new → IsSurelyKept old d → IsSurelyKept new d
kept_along {old} {new} {d} goes kept =
    subst (λ (n : ℕ). Kept n new.sure (d ∷ [])) (sym goes.cells) (kept_on goes.sure kept)

the_one : (d e : Document) → Contains (d ∷ []) e → d ≡ e
the_one d e among = ⊎_elim (λ (c : Contains [] e). absurd (no_one e c)) (λ (same : d ≡ e). same)
    (Contains-push_cases [] d e among)
  where
    no_one : (e : Document) → Contains [] e → ⊥
    no_one e c = omega (arith, c.1)

-- what an ingest has stored is kept by what is sure
ingested_kept : {id : List ℕ} {stamp : Option ℕ} {body : List ℕ} {n : ℕ} {old new : DeviceState} → IsDevice new
    → IsIngested id stamp body n old new → IsSurelyKept new (document_in n id body)
ingested_kept {id} {stamp} {body} {n} {old} {new} device i = record {
  layout = i.layout;
  volume = subst (λ (g : Layout). IsVolume new.cells new.sure g)
      (one_layout i.document.layout i.layout (volume_on device.sure i.document.volume) i.volume)
      i.document.volume;
  each = λ d among. subst (λ (e : Document). IsKept new.cells new.sure i.layout e)
      (the_one (document_in n id body) d among) i.kept;
}

-- what is acknowledged is kept
turn_keeps : (e : Event) (r : Reply) (old new : Memory) → IsDevice (device_of new) → Turns e r old new → (d : Document)
    → Contains (acknowledged_by e r) d → IsSurelyKept (device_of new) d
turn_keeps (event.Ingest id stamp body plan) (reply.Acknowledged n) old new device t d among =
    subst (IsSurelyKept (device_of new)) (the_one (document_in n id body) d among)
    (ingested_kept device (t.answers.ends refl))
turn_keeps e r old new device t d among = absurd (omega (arith, among.1))

acknowledged_kept : (from : Memory) (turns : List Turn) (to : Memory) → IsDevice (device_of from)
    → AreInTurn from turns to
    → (d : Document) → Contains (acknowledged turns) d → IsSurelyKept (device_of to) d
acknowledged_kept from [] to device leads d among = absurd (omega (arith, among.1))
acknowledged_kept from (t ∷ turns) to device leads d among = ⊎_elim
    (λ (here : Contains (acknowledged_by t.event t.reply) d).
    kept_along (along t.new turns to leads.1 leads.3).0
    (turn_keeps t.event t.reply t.old t.new leads.1 leads.2 d here))
    (λ (later : Contains (acknowledged turns) d). acknowledged_kept t.new turns to leads.1 leads.3 d later)
    (Contains-append_cases (acknowledged_by t.event t.reply) (acknowledged turns) d among)

one_of : (d : Document) → Contains (d ∷ []) d
one_of d = Contains-push [] d

-- a look-up that found none says so of its device
pub absent_told : {id : List ℕ} {old new : DeviceState} → LookUpRefused id old new refusals.Absent → IsTrue old.tells
    → IsAbsent id old new
absent_told {id} {old} {new} a tells = ⊎_elim
    (λ (p : (refusals.Absent ≡ a.refused) × (a.refused ≡ refusals.SinkFault → ⊥)).
    (subst (λ (x : Refusal). LookUpEnds id old new a.from a.to (Err x)) (sym p.0) a.looks.ends).1 tells)
    (λ (q : (a.refused ≡ refusals.SinkFault) × (refusals.Absent ≡ refusals.NoMemory)).
    absurd (let clash : refusals.Absent ≡ refusals.NoMemory = q.1 in cc))
    a.told

-- a query by the index returns what is kept
kept_returned : (e : Event) (r : Reply) (old new : Memory) (documents : List Document) → IsDevice (device_of old)
    → ((d : Document) → Contains documents d → IsSurelyKept (device_of old) d) → Turns e r old new
    → Returns documents e r (device_of old)
kept_returned (event.Find terms plan) (reply.Found matches) old new documents device kept t =
    λ d among has.
    let is = kept_on device.sure (kept d among) in
    let finds = t.answers.searches.ends refl in
    subst (λ (l : List Match). HasMatch l d.slot d.id d.body) (sym t.answers.matches_are)
    (finds.all (d ∷ []) is d (one_of d) has)
kept_returned (event.Lookup id plan) (reply.Body slot body) old new documents device kept t =
    λ d among named.
    let a = t.answers in
    let that = (a.looks.ends.first refl).before (d ∷ []) (kept_on device.sure (kept d among)) d (one_of d) named in
    (a.slot_is ∙ sym that.0, body_is a ∙ sym that.1)
kept_returned (event.Lookup id plan) (reply.Refused refusals.Absent) old new documents device kept t =
    λ d among named.
    (absent_told t.answers refl).before (d ∷ []) (kept_on device.sure (kept d among)) d (one_of d) named
kept_returned e r old new documents device kept t = tt

pub acknowledged_returned : AcknowledgedAreReturned
acknowledged_returned from to before after t device leads =
    let s = split from to before after t leads in
    kept_returned t.event t.reply t.old t.new (acknowledged before) (along from before t.old device s.before).1
    (acknowledged_kept from before t.old device s.before) s.turns
