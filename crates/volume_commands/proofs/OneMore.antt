-- What a crash leaves of an ingest, from a steady device on, where nobody else writes; and what it ends with.
use Rattle.std.proofs.Common.{◌≡◌, ℕ, List, [], Option, Result, Ok, Err, sym, ap, ◌∙◌, subst}
use Rattle.cell_types.specs.Image.{Image}
use Rattle.cell_types.specs.Layout.{Layout}
use Rattle.cell_types.specs.declared.refusal.Evidence.{Evidence}
use Rattle.cell_types.specs.declared.refusal.Refusal.{Refusal}
use Rattle.cell_types.specs.declared.refusal.Refusal.TheVariants as refusals
use Rattle.host_ports.specs.Sources.{Gives}
use Rattle.volume_meaning.specs.Documents.{Document}
use Rattle.volume_meaning.specs.Slots.{IsEdge, IsHorizon}
use Rattle.volume_meaning.specs.Volumes.{IsVolume}
use Rattle.tamper_rules.specs.Settling.{Held}
use Rattle.ingest_laws.specs.Needs.{IsNeed}
use Rattle.worm_device.specs.State.{DeviceState, IsDevice}
use Rattle.plan_writer.proofs.PutFrom.{volume_2}
use Rattle.ingest_engine.specs.Ingesting.{HasNoRoom, IngestEnds, Ingests}
use Rattle.crash_laws.proofs.LeftWhole.{held_unmoved}
use Rattle.crash_laws.specs.Steadiness.{HasOneMore}
use Rattle.crash_laws.proofs.AddsOne.{comes_more}
use Rattle.crash_laws.proofs.Alarms.{none_named}
use Rattle.crash_laws.proofs.Kept.{refused_keeps}
use Rattle.crash_laws.proofs.LeftByIngest.{nothing_done}
use Rattle.crash_laws.proofs.Steady.{comes_steady}
use Rattle.crash_laws.proofs.WellPlanned as planned
use Rattle.command_laws.specs.Begins.{BeginsSteady}
use Rattle.volume_commands.specs.Ingesting.{DoesIngest, HasRefused, WasStored, acknowledgement, misnamed, untaken, taken}
use Rattle.volume_commands.specs.Ports.{Ports, Tells}
use Rattle.volume_commands.specs.Steadiness.{AddsOne, IsExactlyTooMany}
use Rattle.volume_commands.specs.Taking.{refusal_of_body_fault}
use Rattle.volume_commands.specs.declared.body.BodyFault.{BodyFault}
use Rattle.volume_commands.specs.declared.body.BodyFault.TheVariants as faults
use Rattle.volume_commands.proofs.Pieces.{gives_nothing}
use Rattle.command_laws.proofs.Results.{other_refusal}

-- the answer that refuses in this way
abbrev refuses : Refusal → Result Unit Refusal
refuses refusal = Err refusal

module _ (id : List ℕ) (stamp : Option ℕ) (body : List ℕ) (need free : ℕ) (old new : DeviceState)
    (device : IsDevice old) (device_new : IsDevice new) (begins : BeginsSteady old new)
    (h : HasNoRoom id stamp body need free old new) where
  abbrev g : Layout
  g = h.ready.volume.geometry

  -- the need is that of what settling makes of the volume
  pub exactly : IsExactlyTooMany id stamp body need free old
  exactly =
      let has = h.settled.settled in
      let was = planned.was_sound old new h.ready begins.tells has begins.alone device device_new begins.steady in
      let ended = planned.ends_as old new h.ready begins.tells has begins.alone device device_new begins.steady in
      let cells : new.cells ≡ old.cells = has.looked.cells ∙ has.settles.called.cells in
      record {
        sound = was;
        layout = g;
        volume = subst (λ (c : ℕ). IsVolume c was.after g) cells
            (subst (λ (i : Image). IsVolume new.cells i g) ended.image (volume_2 h.ready has begins.tells));
        slot = h.ready.horizon;
        horizon = subst (λ (i : Image). IsHorizon g i i h.ready.horizon) ended.image
            (planned.horizon_now old new h.ready begins.tells has begins.alone device device_new
            begins.steady id stamp body
            h.settled.takes h.index h.settled.slot h.has);
        edge = h.ready.edge;
        is_edge = subst (λ (i : Image). IsEdge g i i h.ready.edge) ended.image
            (planned.edge_now old new h.ready begins.tells has begins.alone device device_new
            begins.steady id stamp body
            h.settled.takes h.index h.settled.slot h.has);
        need_is = subst (λ (i : Image). IsNeed g i h.ready.horizon id body stamp need) ended.image
            (subst (λ (n : ℕ). IsNeed g new.image h.ready.horizon id body stamp n) (sym h.need_is)
            (planned.need old new h.ready begins.tells has begins.alone device device_new begins.steady id stamp body
            h.settled.takes h.index h.settled.slot h.has));
        free_is = h.free_is;
        less = h.less;
      }

module _ (id : List ℕ) (stamp : Option ℕ) (old new : Ports) (device : IsDevice old.device)
    (device_new : IsDevice new.device)
    (begins : BeginsSteady old.device new.device) where
  -- no body is taken
  not_taken : (given : List ℕ) (fault : BodyFault) (result : Result Unit Refusal)
      → result ≡ Err (refusal_of_body_fault fault) → WasStored result → ⊥
  not_taken given faults.TooLong result is has = subst WasStored is has
  not_taken given faults.SourceFailed result is has = subst WasStored is has
  not_taken given (faults.NoMemory lack) result is has = subst WasStored is has

  not_named : (fault : BodyFault) (result : Result Unit Refusal) (e : Evidence)
      → result ≡ Err (refusal_of_body_fault fault) → result ≡ Err (refusals.Tampered e) → ⊥
  not_named faults.TooLong result e p q =
      other_refusal result refusals.TooLong (refusals.Tampered e) (λ s. absurd cc) p q
  not_named faults.SourceFailed result e p q =
      other_refusal result refusals.SourceFault (refusals.Tampered e) (λ s. absurd cc) p q
  not_named (faults.NoMemory lack) result e p q =
      other_refusal result refusals.NoMemory (refusals.Tampered e) (λ s. absurd cc) p q

  not_full : (fault : BodyFault) (result : Result Unit Refusal) (need free : ℕ)
      → result ≡ Err (refusal_of_body_fault fault) → result ≡ Err (refusals.Full need free) → ⊥
  not_full faults.TooLong result need free p q =
      other_refusal result refusals.TooLong (refusals.Full need free) (λ s. absurd cc) p q
  not_full faults.SourceFailed result need free p q =
      other_refusal result refusals.SourceFault (refusals.Full need free) (λ s. absurd cc) p q
  not_full (faults.NoMemory lack) result need free p q =
      other_refusal result refusals.NoMemory (refusals.Full need free) (λ s. absurd cc) p q

  module _ (body : List ℕ) where
    -- the document is stored where the engine has stored it
    stored_adds : (answer : Result ℕ Refusal) (result : Result Unit Refusal)
        → Ingests id stamp body old.device new.device answer
        → Tells acknowledgement answer old new result → WasStored result
        → (n : ℕ) × HasOneMore id stamp body n old.device new.device × Tells acknowledgement (Ok n) old new result
    stored_adds (Ok n) result ingests tells has = (
      n,
      comes_more id stamp body old.device new.device n device device_new begins.tells begins.alone begins.steady
          (ingests.ends begins.tells) ingests.comes,
      tells,
    )
    stored_adds (Err refused) (Ok u) ingests tells has = absurd tells
    stored_adds (Err refused) (Err refusals.SinkFault) ingests tells has = absurd
        (subst (λ (r : Refusal). IngestEnds id stamp body old.device new.device (Err r)) (sym tells.0) ingests.ends)
    stored_adds (Err refused) (Err refusal) ingests tells has = absurd has

    -- and what it has named, the command names
    named_alarms : (answer : Result ℕ Refusal) (e : Evidence) → Ingests id stamp body old.device new.device answer
        → Tells acknowledgement answer old new (Err (refusals.Tampered e)) → ⊥
    named_alarms (Ok n) e ingests tells = tells
    named_alarms (Err refused) e ingests tells =
        none_named old.device new.device e device device_new begins.tells begins.alone begins.steady
        ((subst (λ (r : Refusal). IngestEnds id stamp body old.device new.device (Err r)) (sym tells.0) ingests.ends)
        begins.tells)

    full_needs : (answer : Result ℕ Refusal) (need free : ℕ) → Ingests id stamp body old.device new.device answer
        → Tells acknowledgement answer old new (Err (refusals.Full need free))
        → IsExactlyTooMany id stamp body need free old.device
    full_needs (Ok n) need free ingests tells = absurd tells
    full_needs (Err refused) need free ingests tells = exactly id stamp body need free old.device new.device device
        device_new begins (subst (λ (r : Refusal). IngestEnds id stamp body old.device new.device (Err r))
        (sym tells.0) ingests.ends)

    refused_holds : (answer : Result ℕ Refusal) (result : Result Unit Refusal)
        → Ingests id stamp body old.device new.device answer → Tells acknowledgement answer old new result
        → HasRefused result → (documents : List Document)
        → Held old.device.cells old.device.image documents → Held new.device.cells new.device.image documents
    refused_holds answer (Ok u) ingests tells has documents held = absurd has
    refused_holds (Ok n) (Err refusals.SinkFault) ingests tells has documents held = absurd has
    refused_holds (Ok n) (Err refusal) ingests tells has documents held = absurd tells
    refused_holds (Err refused) (Err refusal) ingests tells has documents held =
        refused_keeps id stamp body old.device new.device ingests.called device device_new begins.tells begins.alone
        begins.steady documents held refused
        (λ fault. subst HasRefused (ap refuses (tells.0 ∙ fault)) has) ingests.comes ingests.ends

  -- whatever it answers
  pub ingest_adds : (result : Result Unit Refusal) → DoesIngest id stamp old new result
      → AddsOne id stamp old new result
  ingest_adds result (misnamed bad is same) = record {
    body = [];
    gives = subst (λ (p : Ports). Gives old.source.left p.source.left []) (sym same) (gives_nothing old.source.left);
    stays = nothing_done id stamp [] old.device new.device (ap (λ (p : Ports). p.device) same) begins.steady;
    no_alarm = λ e named. other_refusal result refusals.BadIdentifier (refusals.Tampered e) (λ s. absurd cc) is named;
    adds = λ has. absurd (subst WasStored is has);
    keeps = λ has documents held. held_unmoved (ap (λ (p : Ports). p.device) same) documents held;
    needs = λ need free full. absurd
        (other_refusal result refusals.BadIdentifier (refusals.Full need free) (λ s. absurd cc) is full);
  }
  ingest_adds result (untaken given fault name gives fails is same keeps) = record {
    body = given;
    gives = gives;
    stays = nothing_done id stamp given old.device new.device same begins.steady;
    no_alarm = λ e named. not_named fault result e is named;
    adds = λ has. absurd (not_taken given fault result is has);
    keeps = λ has documents held. held_unmoved same documents held;
    needs = λ need free full. absurd (not_full fault result need free is full);
  }
  ingest_adds result (taken given answer name is gives end ingests tells) = record {
    body = given;
    gives = gives;
    stays = comes_steady id stamp given old.device new.device device device_new begins.tells begins.alone begins.steady
        ingests.comes;
    no_alarm = λ e named. named_alarms given answer e ingests
        (subst (λ (r : Result Unit Refusal). Tells acknowledgement answer old new r) named tells);
    adds = stored_adds given answer result ingests tells;
    keeps = refused_holds given answer result ingests tells;
    needs = λ need free full. full_needs given answer need free ingests
        (subst (λ (r : Result Unit Refusal). Tells acknowledgement answer old new r) full tells);
  }
