-- A look at a device does not speak of the loan by which it was made.
use Rattle.std.proofs.Common.{◌≡◌, ◌≤◌, ◌+◌, ℕ, List, [], Some, None, Option, Result, Ok, Err, inl, inr, refl, ⊎_elim}
use Rattle.cell_types.specs.Image.{Image}
use Rattle.cell_types.specs.Layout.{Layout}
use Rattle.cell_types.specs.declared.refusal.Evidence.{Evidence}
use Rattle.cell_types.specs.declared.refusal.Refusal.{Refusal}
use Rattle.cell_types.specs.declared.refusal.Refusal.TheVariants as refusals
use Rattle.volume_meaning.specs.Slots.{cells_for}
use Rattle.host_ports.specs.Sinks.{SinkState}
use Rattle.worm_device.specs.State.{DeviceState}
use Rattle.worm_device.specs.Views.{ViewState, Viewed, seen_directly}
use Rattle.read_cache.proofs.Through.{viewed_below, viewed_through}
use Rattle.commit_record.specs.States.{AsksSlotBelow, ShowsBroken}
use Rattle.document_store.specs.Looks.{BodyEnds, GotPart, HasPart, LookFails, NamesDocument, of_document, of_state}
use Rattle.document_store.specs.declared.part.Part.{Part}
use Rattle.document_store.specs.declared.body.BodyFault.{BodyFault}
use Rattle.document_store.specs.declared.body.BodyFault.TheVariants.{ReadFault, SinkFault, Tampered}
use Rattle.cell_types.specs.declared.refusal.Fault.TheVariants as faults
use Rattle.record_query.specs.Matching.{SlotEnds}
use Rattle.record_query.specs.Reaching.{PutsFromDevice}
use Rattle.record_query.specs.declared.found.Match.{Match}

-- a view as it is seen by way of these loans
abbrev pub lent : List ℕ → ViewState → ViewState
lent loans s = record s { loans = loans }

module _ (old new : DeviceState) (a b : ℕ) where
  -- what every call keeps
  pub viewed_by_any : Viewed (seen_directly old a) (seen_directly new b)
      → Viewed (seen_directly old 0) (seen_directly new 0)
  viewed_by_any v =
      let was = lent [] (seen_directly old 0) in
      let now = lent [] (seen_directly new 0) in
      viewed_through 0 0 was now refl (viewed_below a b was now v)

  module _ (g : Layout) (n : ℕ) where
    shows : {image : Image} {e : Evidence} → ShowsBroken g (seen_directly old a) (seen_directly new b) image e
        → ShowsBroken g (seen_directly old 0) (seen_directly new 0) image e
    shows s = record { stands = s.stands; broken = s.broken }

    asks : AsksSlotBelow n (seen_directly old 0) → AsksSlotBelow n (seen_directly old a)
    asks q =
        record { reserve = q.reserve; outcome = q.outcome; done = q.done; spare = q.spare; fresh = q.fresh }

    names : {e : Evidence} → NamesDocument g n (seen_directly old a) (seen_directly new b) e
        → NamesDocument g n (seen_directly old 0) (seen_directly new 0) e
    names (of_state out) =
        of_state (record { seen = out.seen; shown = shows out.shown; below = λ q. shows (out.below (asks q)) })
    names (of_document broken) = of_document broken

    -- why a look gave no answer
    fails : {e : Evidence} → LookFails g n (seen_directly old a) (seen_directly new b) (faults.Tampered e)
        → LookFails g n (seen_directly old 0) (seen_directly new 0) (faults.Tampered e)
    fails f = (f.0, f.1, λ tells. names (f.2 tells))

    -- what was found in a slot
    pub slot_by_any : (terms : List (List ℕ)) (result : Result (Option Match) Refusal)
        → SlotEnds g n terms (seen_directly old a) (seen_directly new b) result
        → SlotEnds g n terms (seen_directly old 0) (seen_directly new 0) result
    slot_by_any terms (Ok (Some found)) ends = ends
    slot_by_any terms (Ok None) ends = ends
    slot_by_any terms (Err refusals.NoMemory) ends = ends
    slot_by_any terms (Err refusals.DeviceFault) ends = ends
    slot_by_any terms (Err (refusals.Tampered e)) ends = fails ends
    slot_by_any terms (Err refusal) ends = absurd ends

    got_part : {from to : SinkState} → GotPart g n (seen_directly new b) from to
        → GotPart g n (seen_directly new 0) from to
    got_part q = record { body = q.body; count = q.count; most = q.most; gets = q.gets; holds = q.holds }

    -- how a body was put
    body_by_any : (from to : SinkState) (result : Result ℕ BodyFault)
        → BodyEnds g n (seen_directly old a) (seen_directly new b) from to result
        → BodyEnds g n (seen_directly old 0) (seen_directly new 0) from to result
    body_by_any from to (Ok bytes) ends = (
      ends.0,
      ends.1,
      record { body = ends.2.body; length_is = ends.2.length_is; gets = ends.2.gets; holds = ends.2.holds },
    )
    body_by_any from to (Err (Tampered e)) ends = (
      fails ends.0,
      ends.1,
      ⊎_elim (λ (same : to ≡ from). inl same) (λ part. inr (got_part part)) ends.2,
      ends.3,
    )
    body_by_any from to (Err ReadFault) ends = (
      ends.0,
      ends.1,
      ⊎_elim (λ (same : to ≡ from). inl same) (λ part. inr (got_part part)) ends.2,
    )
    body_by_any from to (Err SinkFault) ends = (ends.0, ends.1, got_part ends.2)
    -- and what putting it does

  pub puts_by_any : (g : Layout) (part : Part) (from to : SinkState) (result : Result ℕ BodyFault)
      → Viewed (seen_directly old a) (seen_directly new b) → new.reads ≤ old.reads + cells_for part.bytes
      → BodyEnds g part.slot (seen_directly old a) (seen_directly new b) from to result
      → PutsFromDevice g part old new from to result
  puts_by_any g part from to result viewed reads ends = record {
    viewed = viewed_by_any viewed;
    reads = reads;
    ends = body_by_any g part.slot from to result ends;
  }

  -- a part that was found on the device is one by any loan
  pub part_by_any : (g : Layout) (part : Part) (c : ℕ) → HasPart g (seen_directly old 0) part
      → HasPart g (seen_directly old c) part
  part_by_any g part c has = record { slot = has.slot; inside = has.inside; stated = has.stated; is = has.is }
