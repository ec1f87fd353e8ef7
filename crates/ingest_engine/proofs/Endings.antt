-- How an ingest ends, by how far it has come.
use Rattle.std.proofs.Common.{true, false, ◌≡◌, ◌≤◌, ◌<◌, arith, ℕ, List, Option, Ok, Err, Result, refl, sym, subst, inl, inr}
use Rattle.std.specs.Prelude.{IsOk, IsTrue}
use Rattle.cell_types.specs.Layout.{IsLayout}
use Rattle.cell_types.specs.Refusals.{refusal_of_fault}
use Rattle.cell_types.specs.declared.refusal.Fault.{Fault}
use Rattle.cell_types.specs.declared.refusal.Fault.TheVariants as faults
use Rattle.cell_types.specs.declared.refusal.Refusal.{Refusal}
use Rattle.cell_types.specs.declared.refusal.Refusal.TheVariants.{DeviceFault, Duplicate, Full, NoMemory, NotAVolume, NotFormatted, PathFull, SlotsFull, StampNeeded, StampTooEarly, StampUnused, Tampered, TooManyTerms, WrongSize}
use Rattle.volume_meaning.specs.Volumes.{IsVolume}
use Rattle.worm_device.specs.Calls.{Called}
use Rattle.worm_device.specs.Counts.{Rose}
use Rattle.worm_device.specs.State.{DeviceState, IsDevice}
use Rattle.worm_device.proofs.Elapsing.{called_self, called_then}
use Rattle.volume_meaning.proofs.Extending.{volume_on}
use Rattle.recovery_engine.specs.Settling.{HasSettled, SettleEnds, Settles}
use Rattle.recovery_engine.specs.declared.settling.Ready.{Ready}
use Rattle.recovery_engine.proofs.Phasing.{false_true}
use Rattle.plan_writer.specs.CrashLaws.{CrashesLeaveWholeSlots}
use Rattle.plan_writer.specs.PuttingPlans.{PutPlanEnds, PutsPlan}
use Rattle.plan_writer.specs.declared.plan.Plan.{Plan}
use Rattle.ingest_plan.specs.declared.plan.PlannedIndex.{PlannedIndex}
use Rattle.ingest_engine.specs.Indexing.{PlanForEnds, PlansFor}
use Rattle.volume_meaning.specs.Slots.{IsStampFor}
use Rattle.ingest_engine.specs.Ingesting.{IngestComesTo, IngestEnds, Ingests, IsPlanFor, PutUnfailed, RoomEnds, SlotsEnd, CheckStampEnds, by_settling, need_with}
use Rattle.ingest_engine.proofs.CrashedIngests.{crashed}
use Rattle.ingest_engine.proofs.FullLogs.{has_no_slot, has_slot, last_free}
use Rattle.ingest_engine.proofs.KeptNow.{is_ingested}
use Rattle.ingest_engine.proofs.Trails.{has_trail_on, none_before}
use Rattle.ingest_engine.proofs.Named.{named_by_plan, named_on_way}

-- settling has just been done
just_settled : {old new : DeviceState} {r : Ready} → Settles old new (Ok r) → HasSettled old new r
just_settled {old} {new} s = record { settled = new; settles = s; looked = called_self new; quiet = λ still cell. refl }

-- it has, and then an index was planned
abbrev pub planned_behind : {old settled new : DeviceState} {r : Ready} {id : List ℕ} {stamp : Option ℕ} {body : List ℕ}
    {result : Result PlannedIndex Refusal}
    → Settles old settled (Ok r) → PlansFor r id stamp body settled new result → HasSettled old new r
planned_behind {old} {settled} s plans =
    record { settled = settled; settles = s; looked = plans.called; quiet = plans.quiet }

-- a refusal is not Ok
not_ok : {X : Type 0} → false ≡ true → X
not_ok okay = absurd (false_true okay)

-- a count that rose from a later state on rose from an earlier one on
rose_sooner : (a b c : ℕ) → a ≤ b → Rose b c → Rose a c
rose_sooner a b c le rose = omega (arith, le, rose)

module _ (id : List ℕ) (stamp : Option ℕ) (body : List ℕ) (old new : DeviceState) where
  refused : (refusal : Refusal) → Settles old new (Err refusal) → SettleEnds old new (Err refusal)
      → IngestEnds id stamp body old new (Err refusal)
  refused DeviceFault s ends = ends
  refused (Tampered e) s ends = λ tells. by_settling s (ends tells)
  refused NotFormatted s ends = ends
  refused (NotAVolume found) s ends = ends
  refused (WrongSize stated real) s ends = ends
  refused refusal s ends = absurd ends

  no_such_stamp : (r : Ready) (refusal : Refusal) → HasSettled old new r → CheckStampEnds r stamp (Err refusal)
      → IngestEnds id stamp body old new (Err refusal)
  no_such_stamp r StampNeeded h ends = record { ready = r; settled = h; ends = ends }
  no_such_stamp r StampUnused h ends = record { ready = r; settled = h; ends = ends }
  no_such_stamp r refusal h ends = absurd ends

  no_slot : (r : Ready) (refusal : Refusal) → HasSettled old new r → IsStampFor r.volume.geometry stamp
      → SlotsEnd r (Err refusal) → IngestEnds id stamp body old new (Err refusal)
  no_slot r SlotsFull h takes ends = has_no_slot r h takes ends
  no_slot r refusal h takes ends = absurd ends

  module _ (settled : DeviceState) (r : Ready) (s : Settles old settled (Ok r))
      (takes : IsStampFor r.volume.geometry stamp) (slot : r.horizon < r.volume.geometry.slots)
      (device : IsDevice new) where
    told : IsTrue old.tells → IsTrue settled.tells
    told tells = subst IsTrue (sym s.called.tells) tells

    volume : IsTrue old.tells → IsVolume settled.cells settled.image r.volume.geometry
    volume tells = (s.ends.1 tells).volume

    unplanned_ends : (refusal : Refusal) → PlansFor r id stamp body settled new (Err refusal)
        → PlanForEnds r id stamp body settled new (Err refusal) → IngestEnds id stamp body old new (Err refusal)
    unplanned_ends (StampTooEarly given last) plans ends = record {
      ready = r;
      settled = has_slot r (planned_behind s plans) takes slot;
      early = ends;
    }
    unplanned_ends (Duplicate n) plans ends = record {
      ready = r;
      past = ends.0;
      settled = has_slot r (planned_behind s plans) takes slot;
      holds = λ tells. (ends.1.2 (told tells)).holds;
      first = λ tells. (ends.1.2 (told tells)).first (volume tells);
      alone = λ tells m trail. (ends.1.2 (told tells)).alone (volume tells) m (has_trail_on s.called trail);
    }
    unplanned_ends PathFull plans ends = record {
      ready = r;
      past = ends.0;
      settled = has_slot r (planned_behind s plans) takes slot;
      passed = λ tells. (ends.1.1 (told tells)).passed (volume tells);
      fresh = λ tells. none_before s.called ((ends.1.1 (told tells)).none (volume tells));
    }
    unplanned_ends (TooManyTerms list count) plans ends = record {
      ready = r;
      settled = has_slot r (planned_behind s plans) takes slot;
      fresh = λ tells. none_before s.called ((ends.path.4 (told tells)).none (volume tells));
      ends = ends;
    }
    unplanned_ends DeviceFault plans ends = rose_sooner old.faults settled.faults new.faults s.called.faults ends
    unplanned_ends (Tampered e) plans ends = λ tells.
        named_on_way r (planned_behind s plans) tells takes slot e (ends (told tells))
    unplanned_ends NoMemory plans ends = inr (r, planned_behind s plans)
    unplanned_ends refusal plans ends = absurd ends

    no_room : (index : PlannedIndex) (refusal : Refusal) → PlansFor r id stamp body settled new (Ok index)
        → RoomEnds r (need_with id body index) (Err refusal) → IngestEnds id stamp body old new (Err refusal)
    no_room index (Full need free) plans ends = record {
      ready = r;
      settled = has_slot r (planned_behind s plans) takes slot;
      fresh = λ tells. none_before s.called ((plans.ends.ends.path.4 (told tells)).none (volume tells));
      index = index;
      has = plans.ends;
      need_is = ends.0;
      free_is = ends.1;
      less = subst (λ (n : ℕ). free < n) (sym ends.0) ends.2;
    }
    no_room index refusal plans ends = absurd ends

  module _ (law : CrashesLeaveWholeSlots) where
    -- an ingest that has come so far, and ends in this way
    far : (result : Result ℕ Refusal) → (IsOk result → PutUnfailed old new) → Called old new
        → IngestComesTo id stamp body old new → IngestEnds id stamp body old new result
        → Ingests id stamp body old new result
    far result unfailed called comes ends = record {
      called = called;
      unfailed = unfailed;
      comes = comes;
      crashes = crashed id stamp body old new law called comes;
      ends = ends;
    }

    -- nothing was begun
    pub unbegun : new ≡ old → Ingests id stamp body old new (Err NoMemory)
    unbegun same = far (Err NoMemory) not_ok (subst (λ (s : DeviceState). Called old s) (sym same) (called_self old))
        (IngestComesTo.nothing same) (inl same)

    -- settling was ended
    pub unsettled : (refusal : Refusal) → Settles old new (Err refusal) → Ingests id stamp body old new (Err refusal)
    unsettled refusal s =
        far (Err refusal) not_ok s.called (IngestComesTo.settling refusal s) (refused refusal s s.ends)

    -- the volume does not take such a stamp
    pub stampless : (r : Ready) (refusal : Refusal) → Settles old new (Ok r) → CheckStampEnds r stamp (Err refusal)
        → Ingests id stamp body old new (Err refusal)
    stampless r refusal s ends = far (Err refusal) not_ok s.called (IngestComesTo.settled r (just_settled s))
        (no_such_stamp r refusal (just_settled s) ends)

    -- there was no slot
    pub slotless : (r : Ready) (refusal : Refusal) → Settles old new (Ok r) → IsStampFor r.volume.geometry stamp
        → SlotsEnd r (Err refusal) → Ingests id stamp body old new (Err refusal)
    slotless r refusal s takes ends = far (Err refusal) not_ok s.called (IngestComesTo.settled r (just_settled s))
        (no_slot r refusal (just_settled s) takes ends)

    module _ (settled : DeviceState) (r : Ready) (s : Settles old settled (Ok r))
        (takes : IsStampFor r.volume.geometry stamp) (slot : r.horizon < r.volume.geometry.slots)
        (device : IsDevice new) where
      -- the index was not planned
      pub unplanned : (refusal : Refusal) → PlansFor r id stamp body settled new (Err refusal)
          → Ingests id stamp body old new (Err refusal)
      unplanned refusal plans = far (Err refusal) not_ok (called_then s.called plans.called)
          (IngestComesTo.settled r (planned_behind s plans))
          (unplanned_ends settled r s takes slot device refusal plans plans.ends)

      -- there was no room
      pub unroomed : (index : PlannedIndex) (need : ℕ) (refusal : Refusal) → need ≡ need_with id body index
          → PlansFor r id stamp body settled new (Ok index) → RoomEnds r need (Err refusal)
          → Ingests id stamp body old new (Err refusal)
      unroomed index need refusal same plans ends = far (Err refusal) not_ok (called_then s.called plans.called)
          (IngestComesTo.settled r (planned_behind s plans))
          (no_room settled r s takes slot device index refusal plans
          (subst (λ (n : ℕ). RoomEnds r n (Err refusal)) same ends))

  module _ (law : CrashesLeaveWholeSlots) (looked : DeviceState) (r : Ready) (p : Plan)
      (layout : IsLayout r.volume.geometry)
      (takes : IsStampFor r.volume.geometry stamp) (slot : r.horizon < r.volume.geometry.slots)
      (has : HasSettled old looked r) (device : IsDevice looked)
      (plan : IsPlanFor r id stamp body has.settled looked p) (puts : PutsPlan r.horizon p looked new) where
    comes_to_put : IngestComesTo id stamp body old new
    comes_to_put = IngestComesTo.put looked r p has device slot plan puts

    called_all : Called old new
    called_all = called_then (called_then has.settles.called has.looked) puts.called

    put_refused : (fault : Fault) → PutPlanEnds r.volume.geometry p r.horizon old looked new (Err fault)
        → IngestEnds id stamp body old new (Err (refusal_of_fault fault))
    put_refused faults.Failed ends = ends
    put_refused (faults.Tampered e) ends = λ tells.
        named_by_plan layout takes slot has tells plan puts.called e (ends tells)

    -- and then the plan was not put
    pub unput : (fault : Fault) → PutPlanEnds r.volume.geometry p r.horizon old looked new (Err fault)
        → Ingests id stamp body old new (Err (refusal_of_fault fault))
    unput fault ends = far law (Err (refusal_of_fault fault)) not_ok called_all comes_to_put (put_refused fault ends)

    volume_at : IsTrue old.tells → IsVolume new.cells new.image r.volume.geometry
    volume_at tells =
        subst (λ (cells : ℕ). IsVolume cells new.image r.volume.geometry)
        (sym (called_then has.looked puts.called).cells)
        (volume_on puts.called.image (volume_on has.looked.image (has.settles.ends.1 tells).volume))

    -- or it was
    pub put : (n : ℕ) → new.faults ≡ looked.faults
        → PutPlanEnds r.volume.geometry p r.horizon old looked new (Ok n) → Ingests id stamp body old new (Ok n)
    put n none ends = far law (Ok n)
        (λ okay. record { ready = r; looked = looked; settled = has; unfailed = none }) called_all
        comes_to_put (λ tells.
        is_ingested n layout has.settles.called tells (has.settles.ends.1 tells).volume puts.called plan (ends.1 tells)
        ends.0 (volume_at tells) (last_free r has slot tells))
