-- What is named as tampering is evident.
use Rattle.std.proofs.Common.{◌≡◌, ◌≤◌, ◌<◌, ◌⊎◌, ⊎_elim, inl, inr, ℕ, List, Option, Err, refl, sym, subst, arith}
use Rattle.std.proofs.lemmas.Bool.{cases_lt}
use Rattle.cell_types.specs.declared.refusal.Evidence.{Evidence}
use Rattle.cell_types.specs.declared.refusal.Refusal.{Refusal}
use Rattle.cell_types.specs.declared.refusal.Refusal.TheVariants as refusals
use Rattle.worm_device.specs.Counts.{IsStill, Rose}
use Rattle.worm_device.specs.State.{DeviceState}
use Rattle.worm_memory.specs.Memory.{Memory, device_of}
use Rattle.commit_record.specs.Licences.{IsLicensed}
use Rattle.ingest_engine.specs.Ingesting.{IsIngestEvidence, among_stamps, behind_path, by_plan, by_settling, on_path}
use Rattle.record_query.specs.LookingUp.{LookUpEnds}
use Rattle.volume_audit.proofs.Comes.{licensed}
use Rattle.hostile_replay.specs.Headline.{IsEvident, TamperingIsEvident}
use Rattle.hostile_replay.specs.Turns.{LookUpRefused, Turns}
use Rattle.script_replies.specs.Beginnings.{begun_with}
use Rattle.script_events.specs.declared.event.Event.{Event}
use Rattle.script_events.specs.declared.event.Event.TheVariants as event
use Rattle.script_events.specs.declared.event.Schedule.{Schedule}
use Rattle.script_replies.specs.declared.reply.Reply.{Reply}
use Rattle.script_replies.specs.declared.reply.Reply.TheVariants as reply
use Rattle.hostile_replay.proofs.Along.{split}

-- a count rose, or stood still
rose_or_still : (a b : ℕ) → a ≤ b → Rose a b ⊎ IsStill a b
rose_or_still a b le = ⊎_elim
    (λ (less : a < b). inl (omega (arith, less)))
    (λ (most : b ≤ a). ⊎_elim
    (λ (below : a < 18446744073709551615). inr (record {
      same = omega (arith, le, most);
      below = omega (arith, below);
    }))
    (λ (top : 18446744073709551615 ≤ a). inl (omega (arith, top, le)))
    (cases_lt a 18446744073709551615))
    (cases_lt a b)

evident : (e : Evidence) (old new : DeviceState) → old.foreign_writes ≤ new.foreign_writes → IsLicensed old new e
    → IsEvident e old new
evident e old new later l = record {
  stands = l.stands;
  layout = l.layout;
  volume = l.volume;
  place = l.place;
  broken = ⊎_elim inr (λ (still : IsStill old.foreign_writes new.foreign_writes). inl (l.broken still))
      (rose_or_still old.foreign_writes new.foreign_writes later);
}

named_licensed : {id : List ℕ} {stamp : Option ℕ} {body : List ℕ} {old new : DeviceState} {e : Evidence}
    → IsIngestEvidence id stamp body old new e → IsLicensed old new e
named_licensed (by_settling settles found) = found.licensed
named_licensed (by_plan way) = way.found.licensed
named_licensed (among_stamps ready slot given rule licensed) = licensed
named_licensed (on_path ready slot past rule lies licensed) = licensed
named_licensed (behind_path ready slot past growth licensed) = licensed

-- the licence speaks of the device as the command began, which stands as before
at_entry : (plan : Schedule) (old new : Memory) (e : Evidence)
    → IsLicensed (device_of (begun_with plan old)) (device_of new) e
    → IsLicensed (device_of old) (device_of new) e
at_entry plan old new e l = record {
  stands = l.stands;
  layout = l.layout;
  volume = l.volume;
  place = l.place;
  broken = l.broken;
}

turn_named : (d : Event) (old new : Memory) (e : Evidence) → Turns d (reply.Refused (refusals.Tampered e)) old new
    → IsLicensed (device_of old) (device_of new) e × (old.foreign_writes ≤ new.foreign_writes)
turn_named (event.Format slots lists version plan) old new e t = absurd t.answers.ends
turn_named (event.Ingest id stamp body plan) old new e t =
    (at_entry plan old new e (named_licensed (t.answers.ends refl)), t.called.foreign_writes)
turn_named (event.Find terms plan) old new e t =
    (at_entry plan old new e (t.answers.ends refl), t.called.foreign_writes)
turn_named (event.Lookup id plan) old new e t =
    (at_entry plan old new e (looked t.answers), t.called.foreign_writes)
  where
    looked : LookUpRefused id (device_of (begun_with plan old)) (device_of new) (refusals.Tampered e)
        → IsLicensed (device_of (begun_with plan old)) (device_of new) e
    looked a = ⊎_elim
        (λ (p : (refusals.Tampered e ≡ a.refused) × (a.refused ≡ refusals.SinkFault → ⊥)).
        ((subst (λ (r : Refusal). LookUpEnds id (device_of (begun_with plan old)) (device_of new) a.from a.to (Err r))
        (sym p.0) a.looks.ends).1 refl).1)
        (λ (q : (a.refused ≡ refusals.SinkFault) × (refusals.Tampered e ≡ refusals.NoMemory)). absurd (
        let clash : refusals.Tampered e ≡ refusals.NoMemory = q.1 in cc))
        a.told
turn_named (event.Audit plan) old new e t =
    (at_entry plan old new e (licensed e t.answers.comes refl), t.called.foreign_writes)
turn_named (event.Recover plan) old new e t =
    (at_entry plan old new e (t.answers.ends refl).licensed, t.called.foreign_writes)
turn_named (event.Foreign at cell) old new e t = absurd t
turn_named (event.Crash keep) old new e t = absurd t

pub tampering_evident : TamperingIsEvident
tampering_evident from to before after t e leads named =
    let s = split from to before after t leads in
    let turned = subst (λ (r : Reply). Turns t.event r t.old t.new) named s.turns in
    let l = turn_named t.event t.old t.new e turned in
    evident e (device_of t.old) (device_of t.new) l.1 l.0
