-- An ingest that is refused leaves the documents that the volume held.
use Rattle.std.proofs.Common.{◌≡◌, ℕ, List, Err, refl, sym, ap, ◌∙◌, ⊎_elim, subst, Option}
use Rattle.std.specs.Prelude.{IsTrue, ◌≢◌}
use Rattle.std.proofs.lemmas.Option.{none-some}
use Rattle.cell_types.specs.Layout.{Layout}
use Rattle.cell_types.specs.Records.{IsRecordCell}
use Rattle.cell_types.specs.declared.refusal.Refusal.{Refusal}
use Rattle.cell_types.specs.declared.refusal.Refusal.TheVariants as refusals
use Rattle.volume_meaning.specs.Documents.{Document}
use Rattle.volume_meaning.specs.Volumes.{IsVolume, volume_record}
use Rattle.volume_meaning.proofs.Extending.{volume_on}
use Rattle.volume_meaning.proofs.Holding.{some_is}
use Rattle.tamper_rules.specs.Settling.{Held}
use Rattle.tamper_rules.proofs.GivenUp.{one_layout}
use Rattle.worm_device.specs.Calls.{Called}
use Rattle.worm_device.specs.Counts.{IsStill}
use Rattle.worm_device.specs.State.{DeviceState, IsDevice}
use Rattle.worm_device.proofs.Counting.{still_first}
use Rattle.recovery_engine.specs.Settling.{HasSettled}
use Rattle.recovery_engine.specs.declared.settling.Ready.{Ready}
use Rattle.plan_writer.proofs.PutFrom as from
use Rattle.ingest_engine.specs.Ingesting as ingesting
use Rattle.ingest_engine.specs.Ingesting.{IngestComesTo, IngestEnds, Ingests, put, settled, settling}
use Rattle.crash_laws.specs.SettlingSteadiness.{IsSteady}
use Rattle.crash_laws.proofs.LeftWhole.{held_unmoved, settling_keeps}
use Rattle.crash_laws.proofs.LookedAt.{looking_keeps}
use Rattle.crash_laws.proofs.Alarms.{none_named}

module _ (id : List ℕ) (stamp : Option ℕ) (body : List ℕ) (old new : DeviceState) (called : Called old new)
    (device : IsDevice old)
    (device_new : IsDevice new) (tells : IsTrue old.tells)
    (still : IsStill old.foreign_writes new.foreign_writes) (steady : IsSteady old)
    (documents : List Document) (held : Held old.cells old.image documents) where
  -- nothing was done
  unmoved : new ≡ old → Held new.cells new.image documents
  unmoved same = held_unmoved same documents held

  -- the volume was settled, and then looked at
  settled_keeps : (r : Ready) → HasSettled old new r → Held new.cells new.image documents
  settled_keeps r h = looking_keeps old new r tells h still device device_new steady documents held

  -- a plan is put only where a volume of the device's size stood
  module _ (none_stood : (g : Layout) → IsVolume old.cells old.image g → ⊥) where
    comes_keeps : IngestComesTo id stamp body old new → Held new.cells new.image documents
    comes_keeps (ingesting.nothing same) = unmoved same
    comes_keeps (settling refusal s) = subst (λ (k : ℕ). Held k new.image documents) (sym s.called.cells)
        (settling_keeps old new (Err refusal) device device_new tells s still steady documents held)
    comes_keeps (settled r h) = settled_keeps r h
    comes_keeps (put looked r p h device_looked less plans puts) = absurd (none_stood r.volume.geometry
        (from.volume_0 r h tells less (still_first (from.called r h).foreign_writes puts.called.foreign_writes still)))

  pub refused_keeps : (refusal : Refusal) → refusal ≢ refusals.DeviceFault → IngestComesTo id stamp body old new
      → IngestEnds id stamp body old new (Err refusal) → Held new.cells new.image documents
  refused_keeps refusals.DeviceFault other comes ends = absurd (other refl)
  refused_keeps (refusals.Tampered e) other comes ends =
      absurd (none_named old new e device device_new tells still steady
      (ends tells))
  refused_keeps refusals.StampNeeded other comes ends = settled_keeps ends.ready ends.settled
  refused_keeps refusals.StampUnused other comes ends = settled_keeps ends.ready ends.settled
  refused_keeps (refusals.StampTooEarly given last) other comes ends = settled_keeps ends.ready ends.settled.settled
  refused_keeps refusals.SlotsFull other comes ends = settled_keeps ends.ready ends.settled
  refused_keeps (refusals.Duplicate n) other comes ends = settled_keeps ends.ready ends.settled.settled
  refused_keeps refusals.PathFull other comes ends = settled_keeps ends.ready ends.settled.settled
  refused_keeps (refusals.TooManyTerms list count) other comes ends = settled_keeps ends.ready ends.settled.settled
  refused_keeps (refusals.Full need free) other comes ends = settled_keeps ends.ready ends.settled.settled
  refused_keeps refusals.NoMemory other comes ends = ⊎_elim unmoved
      (λ (s : (r : Ready) × HasSettled old new r). settled_keeps s.0 s.1)
      ends
  refused_keeps refusals.NotFormatted other comes ends = comes_keeps
      (λ g v. none-some _ (sym (ends tells) ∙ v.volume.stands))
      comes
  refused_keeps (refusals.NotAVolume found) other comes ends = comes_keeps
      (λ g v.
      let w = ends tells in
      let same : v.volume.cell ≡ found =
      some_is v.volume.cell found (sym (called.image.keeps 0 v.volume.cell v.volume.stands) ∙ w.0) in
      w.1 g (subst (IsRecordCell (volume_record g) 0) same v.volume.is))
      comes
  refused_keeps (refusals.WrongSize stated real) other comes ends = comes_keeps
      (λ g v.
      let w = ends.2 tells in
      let there : IsVolume w.0.cells new.image w.0 = record { volume = w.1; size = refl } in
      let layout : g ≡ w.0 = one_layout g w.0 (volume_on called.image v) there in
      ends.1 (sym w.2 ∙ sym (ap (λ (k : Layout). k.cells) layout) ∙ v.size ∙ sym called.cells ∙ sym ends.0))
      comes
  refused_keeps refusal other comes ends = absurd ends
