-- What an ingest names, once the volume is settled.
use Rattle.std.proofs.Common.{◌≡◌, ◌<◌, ◌≤◌, ◌+◌, ◌-◌, ◌^◌, ◌∙◌, ⊎_elim, ℕ, Bool, List, Option, Some, None, sym, ap, subst, inl, inr, arith}
use Rattle.std.specs.Prelude.{slice_get, length, if◌then◌else◌, IsTrue}
use Rattle.std.proofs.lemmas.Bool.{cases_lt, le-ltb, lt-ltb}
use Rattle.std.proofs.lemmas.Option.{slice_get_within}
use Rattle.cell_types.specs.Image.{Image}
use Rattle.cell_types.specs.Layout.{IsLayout}
use Rattle.cell_types.specs.declared.refusal.Evidence.{Evidence}
use Rattle.volume_meaning.specs.Slots.{IsEdge, IsHorizon, IsStampFor, cells_for}
use Rattle.volume_meaning.proofs.Extending.{written_on}
use Rattle.volume_meaning.proofs.Holding.{some_is}
use Rattle.worm_device.specs.Calls.{Called}
use Rattle.worm_device.specs.Counts.{IsStill}
use Rattle.worm_device.specs.State.{DeviceState}
use Rattle.worm_device.proofs.Counting.{still_first, still_second}
use Rattle.worm_device.proofs.Elapsing.{called_then}
use Rattle.hash_tree.specs.Readiness.{blank_in, blank_of}
use Rattle.recovery_engine.specs.Entries.{target_of}
use Rattle.recovery_engine.specs.Settling.{HasSettled}
use Rattle.recovery_engine.specs.declared.settling.Ready.{Ready}
use Rattle.identifier_lookup.specs.Walks.{IsBlankIn}
use Rattle.plan_writer.specs.Blank.{IsOfNewSlot}
use Rattle.plan_writer.specs.Planned.{reserved_by}
use Rattle.plan_writer.specs.PuttingPlans.{AsksForBlank, IsFoundByPlan, IsPlanRule}
use Rattle.plan_writer.specs.declared.plan.Plan.{Plan}
use Rattle.plan_writer.proofs.PutFrom.{called, ends_2, free_2, volume_2}
use Rattle.ingest_plan.specs.Planning.{cut_at}
use Rattle.commit_record.specs.Licences.{IsLicensed}
use Rattle.ingest_engine.specs.Indexing.{IsByGrowthRule, IsByPathRule, IsFoundInOrder, IsFoundOnWay}
use Rattle.ingest_engine.specs.Ingesting.{HasFreeSlot, IsInTheWay, IsLogRule, IsIngestEvidence, IsPlanFor, among_stamps, behind_path, by_plan, need_with, on_path}
use Rattle.ingest_engine.proofs.FullLogs.{has_slot}
use Rattle.ingest_engine.proofs.Suited.{copies_of, entry}

module _ {old new : DeviceState} (r : Ready) (has : HasSettled old new r) (tells : IsTrue old.tells) where
  -- the horizon is one of what stands, where nobody else wrote
  pub is_horizon : IsStill old.foreign_writes new.foreign_writes
      → IsHorizon r.volume.geometry new.image new.image r.horizon
  is_horizon still = record {
    most = (has.settles.ends.1 tells).horizon.most;
    below = λ m is. written_on has.looked.image ((has.settles.ends.1 tells).horizon.below m is);
    free = λ less. free_2 r has tells less still;
  }

  -- and so is the edge
  is_edge : IsStill old.foreign_writes new.foreign_writes → IsEdge r.volume.geometry new.image new.image r.edge
  is_edge still = record {
    u = r.horizon;
    most = (has.settles.ends.1 tells).horizon.most;
    free = λ less. free_2 r has tells less still;
    ends = ends_2 r has tells;
  }

  -- what was found on the way is licensed
  licensed : {IsByRule : Evidence → Type 0} (e : Evidence) → IsFoundOnWay IsByRule r has.settled new e
      → IsLicensed old new e
  licensed e found = record {
    stands = found.stands;
    layout = r.volume.geometry;
    volume = volume_2 r has tells;
    place = found.place;
    broken = λ still. found.broken (still_second has.settles.called.foreign_writes has.looked.foreign_writes still)
        (volume_2 r has tells) (is_horizon still) (is_edge still);
  }

  module _ {stamp : Option ℕ} (takes : IsStampFor r.volume.geometry stamp)
      (slot : r.horizon < r.volume.geometry.slots) where
    -- and named, in its order
    pub named_on_way : {id body : List ℕ} (e : Evidence) → IsFoundInOrder r id stamp body has.settled new e
        → IsIngestEvidence id stamp body old new e
    named_on_way e (inl found) =
        among_stamps r (has_slot r has takes slot) found.0 found.1.rule (licensed e found.1)
    named_on_way {id} {body} e (inr found) =
        let free = has_slot r has takes slot in
        let volume = (has.settles.ends.1 tells).volume in
        ⊎_elim
        (λ (path : IsByPathRule r id has.settled new e).
        on_path r free found.0 path.rule (path.lies volume) (licensed e found.1))
        (λ (growth : IsByGrowthRule r id body has.settled new e).
        behind_path r free found.0 growth (licensed e found.1)) found.1.rule

-- a blank cell is blank in what stands before the edge
cut_blank : (edge : ℕ) (image : Image) (cell : ℕ) → image cell ≡ None → cut_at edge image cell ≡ None
cut_blank edge image cell blank = ⊎_elim
    (λ (before : cell < edge).
    let asked : cut_at edge image cell ≡ image cell =
    ap (λ (b : Bool). if b then image cell else None) (lt-ltb cell edge before) in
    asked ∙ blank)
    (λ (past : edge ≤ cell). ap (λ (b : Bool). if b then image cell else None) (le-ltb cell edge past))
    (cases_lt cell edge)

place_blank : (image : Image) (bucket : ℕ) (child : Option ℕ) → IsBlankIn image bucket child
    → image (blank_in bucket child) ≡ None
place_blank image bucket None blank = blank
place_blank image bucket (Some child) blank = blank

-- what is named while a plan is put, an ingest looks at
log_rule : (number : ℕ) → IsPlanRule number → IsLogRule number
log_rule number (inl r) = inl (inl (inl r))
log_rule number (inr (inl r)) = inl (inl (inr (inl r)))
log_rule number (inr (inr (inl r))) = inl (inl (inr (inr r)))
log_rule number (inr (inr (inr (inl r)))) = inl (inr (inr r))
log_rule number (inr (inr (inr (inr r)))) = inr r

module _ {id : List ℕ} {stamp : Option ℕ} {body : List ℕ} {old looked : DeviceState} {r : Ready} {p : Plan}
    (layout : IsLayout r.volume.geometry)
    (takes : IsStampFor r.volume.geometry stamp) (slot : r.horizon < r.volume.geometry.slots)
    (has : HasSettled old looked r) (tells : IsTrue old.tells)
    (plan : IsPlanFor r id stamp body has.settled looked p)
  where
    small : r.edge + plan.index.block_length ≤ 2 ^ 32
    small = omega (arith, plan.starts, plan.blocks, plan.suits.to, layout.cells)

    told : IsTrue has.settled.tells
    told = subst IsTrue (sym has.settles.called.tells) tells

    told_walked : IsTrue plan.has.walked.tells
    told_walked = subst IsTrue (sym plan.has.ends.called.tells) told

    -- where nobody else wrote, the journal asks for blank cells
    asks_for_blank : IsStill old.foreign_writes looked.foreign_writes → AsksForBlank p looked.image
    asks_for_blank still k value is below =
        let got : slice_get plan.index.journal.items k ≡ Some value =
        subst (λ (l : List (List ℕ)). slice_get l k ≡ Some value) plan.journal is in
        let e = entry plan.has.planned k (slice_get_within plan.index.journal.items k value got) in
        let same : e.1 ≡ value = some_is e.1 value (sym e.3 ∙ got) in
        let planned_here : plan.has.planned.planned e.0 ≡ Some value = e.4 ∙ ap Some same in
        let at : target_of value ≡ e.0 = copies_of plan.has.planned small e.0 value planned_here in
        let walked = plan.has.walked in
        let place : walked.image (blank_of plan.has.place) ≡ None =
        place_blank walked.image plan.has.place.bucket plan.has.place.child (plan.has.ends.path.4 told).blank in
        let cut : cut_at r.edge walked.image e.0 ≡ None =
        plan.has.planned.blank told_walked (cut_blank r.edge walked.image (blank_of plan.has.place) place) e.0 value
        planned_here in
        let asked : cut_at r.edge walked.image e.0 ≡ walked.image e.0 =
        ap (λ (b : Bool). if b then walked.image e.0 else None)
        (lt-ltb e.0 r.edge (omega (arith, at, below, plan.starts))) in
        let since = still_second has.settles.called.foreign_writes has.looked.foreign_writes still in
        let after = still_second plan.has.ends.called.foreign_writes plan.has.ends.looked.foreign_writes since in
        ap looked.image at ∙ plan.has.ends.quiet after e.0 ∙ sym asked ∙ cut

    -- there is room for the document and its index
    room : need_with id body plan.index ≤ r.volume.geometry.cells - r.edge
    room = omega (
      arith,
      plan.suits.to,
      plan.starts,
      plan.blocks,
      ap length plan.journal,
      plan.suits.document,
      ap cells_for plan.document.bytes,
    )

    -- a cell of the slot or of the plan's reservation
    own : (cell : ℕ) → IsOfNewSlot r.horizon (reserved_by p) cell
        → IsOfNewSlot r.horizon (record { start = r.edge; length = need_with id body plan.index }) cell
    own cell (inl log) = inl log
    own cell (inr within) = inr (record {
      from = omega (arith, within.from, plan.starts);
      below = omega (
        arith,
        within.below,
        plan.starts,
        plan.blocks,
        ap length plan.journal,
        plan.suits.document,
        ap cells_for plan.document.bytes,
      );
    })

    -- what was found while the plan was put is named
    pub named_by_plan : {new : DeviceState} → Called looked new → (e : Evidence)
        → IsFoundByPlan r.horizon p old looked new e
        → IsIngestEvidence id stamp body old new e
    named_by_plan {new} later e found =
        let asks = λ (still : IsStill old.foreign_writes new.foreign_writes).
        asks_for_blank (still_first (called r has).foreign_writes later.foreign_writes still) in
        by_plan (record {
          found = record {
            rule = log_rule e.rule found.rule;
            licensed = found.licensed;
            before = λ still. found.before still (asks still);
          };
          ready = r;
          looked = looked;
          slot = has_slot r has takes slot;
          index = plan.index;
          has = plan.has;
          room = room;
          own = own e.cell found.own;
          since = later;
          unput = λ still. found.unput still (asks still);
        })

-- where nobody else wrote, all was only looked at since the volume was settled
pub slot_still : {id : List ℕ} {stamp : Option ℕ} {body : List ℕ} {old new : DeviceState} {e : Evidence}
    (way : IsInTheWay id stamp body old new e)
    → IsStill old.foreign_writes new.foreign_writes → HasFreeSlot stamp old new way.ready
slot_still way still =
    let has = way.slot.settled in
    record {
      settled = record {
        settled = has.settled;
        settles = has.settles;
        looked = called_then has.looked way.since;
        quiet = λ later cell. way.unput still cell
            ∙ has.quiet (still_first has.looked.foreign_writes way.since.foreign_writes later) cell;
      };
      takes = way.slot.takes;
      slot = way.slot.slot;
      last_free = way.slot.last_free;
    }
