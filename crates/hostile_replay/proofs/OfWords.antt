-- No event of a script is refused for its words, nor for a source or a sink.
use Rattle.std.proofs.Common.{◌≡◌, ⊎_elim, ℕ, List, Option, Err, refl, subst}
use Rattle.cell_types.specs.Layout.{Layout}
use Rattle.cell_types.specs.declared.refusal.Refusal.{Refusal}
use Rattle.cell_types.specs.declared.refusal.Refusal.TheVariants as refusals
use Rattle.host_ports.specs.Sinks.{SinkState}
use Rattle.worm_device.specs.State.{DeviceState}
use Rattle.worm_memory.specs.Memory.{device_of}
use Rattle.recovery_engine.specs.Settling.{SettleEnds}
use Rattle.ingest_engine.specs.Formats.{FormatEnds}
use Rattle.ingest_engine.specs.Ingesting.{IngestEnds}
use Rattle.record_query.specs.Finding.{FindEnds}
use Rattle.record_query.specs.LookingUp.{LookUpEnds}
use Rattle.volume_audit.specs.Audits.{SettlesThenAudits}
use Rattle.volume_audit.proofs.Comes.{refuses}
use Rattle.hostile_replay.specs.Headline.{Headline}
use Rattle.hostile_replay.specs.Refusals.{IsOfWords, NoneIsOfWords}
use Rattle.hostile_replay.specs.Turns.{LookUpRefused, event_layout}
use Rattle.script_replies.specs.Beginnings.{begun_with}
use Rattle.script_events.specs.declared.event.Event.TheVariants as event
use Rattle.hostile_replay.proofs.Evident.{tampering_evident}
use Rattle.hostile_replay.proofs.Exact.{told_exact}
use Rattle.hostile_replay.proofs.HeldIngests.{ingests_held}
use Rattle.hostile_replay.proofs.Returned.{acknowledged_returned}
use Rattle.hostile_replay.proofs.Standing.{returned_stand}
use Rattle.hostile_replay.proofs.Whole.{commands_whole}

no_format : (g : Layout) (old new : DeviceState) (refusal : Refusal) → FormatEnds g old new (Err refusal)
    → IsOfWords refusal → ⊥
no_format g old new refusals.Usage ends of = ends
no_format g old new refusals.BadIdentifier ends of = ends
no_format g old new (refusals.BadWord i) ends of = ends
no_format g old new refusals.TooLong ends of = ends
no_format g old new (refusals.BadScript i) ends of = ends
no_format g old new refusals.SourceFault ends of = ends
no_format g old new refusals.SinkFault ends of = ends
no_format g old new refusal ends of = of

no_ingest : (id : List ℕ) (stamp : Option ℕ) (body : List ℕ) (old new : DeviceState) (refusal : Refusal)
    → IngestEnds id stamp body old new (Err refusal) → IsOfWords refusal → ⊥
no_ingest id stamp body old new refusals.Usage ends of = ends
no_ingest id stamp body old new refusals.BadIdentifier ends of = ends
no_ingest id stamp body old new (refusals.BadWord i) ends of = ends
no_ingest id stamp body old new refusals.TooLong ends of = ends
no_ingest id stamp body old new (refusals.BadScript i) ends of = ends
no_ingest id stamp body old new refusals.SourceFault ends of = ends
no_ingest id stamp body old new refusals.SinkFault ends of = ends
no_ingest id stamp body old new refusal ends of = of

no_find : (terms : List (List ℕ)) (old new : DeviceState) (refusal : Refusal) → FindEnds terms old new (Err refusal)
    → IsOfWords refusal → ⊥
no_find terms old new refusals.Usage ends of = ends
no_find terms old new refusals.BadIdentifier ends of = ends
no_find terms old new (refusals.BadWord i) ends of = ends
no_find terms old new refusals.TooLong ends of = ends
no_find terms old new (refusals.BadScript i) ends of = ends
no_find terms old new refusals.SourceFault ends of = ends
no_find terms old new refusals.SinkFault ends of = ends
no_find terms old new refusal ends of = of

no_settle : (old new : DeviceState) (refusal : Refusal) → SettleEnds old new (Err refusal) → IsOfWords refusal → ⊥
no_settle old new refusals.Usage ends of = ends
no_settle old new refusals.BadIdentifier ends of = ends
no_settle old new (refusals.BadWord i) ends of = ends
no_settle old new refusals.TooLong ends of = ends
no_settle old new (refusals.BadScript i) ends of = ends
no_settle old new refusals.SourceFault ends of = ends
no_settle old new refusals.SinkFault ends of = ends
no_settle old new refusal ends of = of

no_look_up : (id : List ℕ) (old new : DeviceState) (from to : SinkState) (refusal : Refusal)
    → (refusal ≡ refusals.SinkFault → ⊥) → LookUpEnds id old new from to (Err refusal) → IsOfWords refusal → ⊥
no_look_up id old new from to refusals.Usage other ends of = ends
no_look_up id old new from to refusals.BadIdentifier other ends of = ends
no_look_up id old new from to (refusals.BadWord i) other ends of = ends
no_look_up id old new from to refusals.TooLong other ends of = ends
no_look_up id old new from to (refusals.BadScript i) other ends of = ends
no_look_up id old new from to refusals.SourceFault other ends of = ends
no_look_up id old new from to refusals.SinkFault other ends of = other refl
no_look_up id old new from to refusal other ends of = of

refused_of_words : (id : List ℕ) (old new : DeviceState) (refusal : Refusal) → LookUpRefused id old new refusal
    → IsOfWords refusal → ⊥
refused_of_words id old new refusal a of = ⊎_elim
    (λ (p : (refusal ≡ a.refused) × (a.refused ≡ refusals.SinkFault → ⊥)).
    no_look_up id old new a.from a.to a.refused p.1 a.looks.ends (subst IsOfWords p.0 of))
    (λ (q : (a.refused ≡ refusals.SinkFault) × (refusal ≡ refusals.NoMemory)). subst IsOfWords q.1 of)
    a.told

no_audit : (old new : DeviceState) (refusal : Refusal) → SettlesThenAudits old new (Err refusal) → IsOfWords refusal → ⊥
no_audit old new refusals.Usage comes of = refuses refusals.Usage comes (λ ends. ends) (λ ends. ends)
no_audit old new refusals.BadIdentifier comes of = refuses refusals.BadIdentifier comes (λ ends. ends) (λ ends. ends)
no_audit old new (refusals.BadWord i) comes of = refuses (refusals.BadWord i) comes (λ ends. ends) (λ ends. ends)
no_audit old new refusals.TooLong comes of = refuses refusals.TooLong comes (λ ends. ends) (λ ends. ends)
no_audit old new (refusals.BadScript i) comes of = refuses (refusals.BadScript i) comes (λ ends. ends) (λ ends. ends)
no_audit old new refusals.SourceFault comes of = refuses refusals.SourceFault comes (λ ends. ends) (λ ends. ends)
no_audit old new refusals.SinkFault comes of = refuses refusals.SinkFault comes (λ ends. ends) (λ ends. ends)
no_audit old new refusal comes of = of

pub none_of_words : NoneIsOfWords
none_of_words (event.Format slots lists version plan) refusal old new t of =
    no_format (event_layout slots lists version old.cells) (device_of (begun_with plan old)) (device_of new)
    refusal t.answers.ends of
none_of_words (event.Ingest id stamp body plan) refusal old new t of =
    no_ingest id stamp body (device_of (begun_with plan old)) (device_of new) refusal t.answers.ends of
none_of_words (event.Find terms plan) refusal old new t of =
    no_find terms (device_of (begun_with plan old)) (device_of new) refusal t.answers.ends of
none_of_words (event.Lookup id plan) refusal old new t of =
    refused_of_words id (device_of (begun_with plan old)) (device_of new) refusal t.answers of
none_of_words (event.Audit plan) refusal old new t of =
    no_audit (device_of (begun_with plan old)) (device_of new) refusal t.answers.comes of
none_of_words (event.Recover plan) refusal old new t of =
    no_settle (device_of (begun_with plan old)) (device_of new) refusal t.answers.ends of
none_of_words (event.Foreign at value) refusal old new t of = t
none_of_words (event.Crash keep) refusal old new t of = t

-- all of it
pub headline : Headline
headline = record {
  returned = acknowledged_returned;
  stand = returned_stand;
  evident = tampering_evident;
  exact = told_exact commands_whole;
  held = ingests_held commands_whole;
}
