-- What a walk on the device, and then planning, say of the device.
use Rattle.std.proofs.Common.{◌≡◌, ◌∙◌, ℕ, List, Option, Result, Ok, Err, sym, subst, inl, inr, arith}
use Rattle.std.specs.Prelude.{IsTrue}
use Rattle.cell_types.specs.Image.{Image, IsUnchanged}
use Rattle.cell_types.specs.Refusals.{refusal_of_fault}
use Rattle.cell_types.specs.declared.refusal.Fault.{Fault}
use Rattle.cell_types.specs.declared.refusal.Fault.TheVariants as faults
use Rattle.cell_types.specs.declared.refusal.Refusal.{Refusal}
use Rattle.cell_types.specs.declared.refusal.Refusal.TheVariants.{DeviceFault, Duplicate, NoMemory, PathFull, StampTooEarly, Tampered, TooManyTerms}
use Rattle.worm_device.specs.Calls.{Called}
use Rattle.worm_device.specs.Counts.{IsStill}
use Rattle.worm_device.specs.State.{DeviceState}
use Rattle.worm_device.specs.Views.{Viewed, seen_directly}
use Rattle.worm_device.proofs.Counting.{still_first, still_second}
use Rattle.worm_device.proofs.Elapsing.{called_then}
use Rattle.worm_device.proofs.Resting.{rests_of}
use Rattle.hash_tree.specs.Levels.{IsLedWithin}
use Rattle.hash_tree.proofs.Growing.{led_within_on}
use Rattle.recovery_engine.specs.declared.settling.Ready.{Ready}
use Rattle.identifier_lookup.proofs.Loaned.{any_loan, names_by_any}
use Rattle.volume_meaning.proofs.Extending.{volume_on}
use Rattle.volume_meaning.specs.Volumes.{IsVolume}
use Rattle.identifier_lookup.specs.Walks.{WalkEnds, WalkNames}
use Rattle.identifier_lookup.specs.declared.answers.Walk.{Walk}
use Rattle.identifier_lookup.specs.declared.answers.Walk.TheVariants as walks
use Rattle.ingest_plan.specs.Planning.{IsLater, PlanEnds, PlansIndex}
use Rattle.tamper_rules.proofs.Images.{same_image}
use Rattle.ingest_plan.specs.declared.plan.PlannedIndex.{PlannedIndex}
use Rattle.ingest_engine.specs.Indexing.{FindsSlot, SeeksPathEnd, IsStampPast, LooksPast, PastEnds, PathLookEnds, PlanForEnds, PlansFor, WalksDevice, WalksOn}
use Rattle.ingest_engine.proofs.Trails.{has_trail_on, none_before}
use Rattle.ingest_plan.specs.declared.place.PathEnd.{PathEnd}

-- a walk over a loan of the device is one on the device
pub device_walks : (r : Ready) (id : List ℕ) {entry new : DeviceState} {lent back : ℕ}
    → Viewed (seen_directly entry lent) (seen_directly new back) → (result : Result Walk Fault)
    → WalkEnds r.volume.geometry r.horizon r.edge id (seen_directly entry lent) (seen_directly new back) result
    → WalkNames r.volume.geometry id (seen_directly entry lent) (seen_directly new back) result
    → WalksDevice r id entry new result
device_walks r id {entry} {new} {lent} {back} viewed result ends named = record {
  called = viewed.called;
  quiet = (rests_of viewed).shown;
  ends = any_loan r.volume.geometry r.horizon r.edge id entry new lent back result ends;
  named = names_by_any r.volume.geometry id entry new lent back result named;
}

-- where nobody else wrote from a first state to a third, what stands is as it was at the first, if each call left it so
pub quiet_then : {a b c : DeviceState} → Called a b → Called b c
    → (IsStill a.foreign_writes b.foreign_writes → IsUnchanged a.image b.image)
    → (IsStill b.foreign_writes c.foreign_writes → IsUnchanged b.image c.image)
    → IsStill a.foreign_writes c.foreign_writes → IsUnchanged a.image c.image
quiet_then first second one two still = λ cell.
    two (still_second first.foreign_writes second.foreign_writes still) cell
    ∙ one (still_first first.foreign_writes second.foreign_writes still) cell

-- a walk that was ended
pub walk_failed : (r : Ready) (id : List ℕ) (entry new : DeviceState) (fault : Fault)
    → WalksDevice r id entry new (Err fault) → SeeksPathEnd r id entry new (Err (refusal_of_fault fault))
walk_failed r id entry new faults.Failed walks = record {
  called = walks.called;
  quiet = walks.quiet;
  ends = walks.ends;
}
walk_failed r id entry new (faults.Tampered e) walks = record {
  called = walks.called;
  quiet = walks.quiet;
  ends = λ tells.
      let seen = walks.ends.2 tells in
      record {
        rule = record { rule = seen.rule; lies = walks.named tells };
        stands = seen.stands;
        place = walks.ends.0;
        broken = seen.broken;
      };
}

-- a walk from a later state on, with nothing but looks before it, is one from the earlier state on
module _ (r : Ready) (id : List ℕ) (entry mid new : DeviceState) (first : Called entry mid)
    (quiet : IsStill entry.foreign_writes mid.foreign_writes → IsUnchanged entry.image mid.image)
    (same : mid.faults ≡ entry.faults) where
  told_mid : IsTrue entry.tells → IsTrue mid.tells
  told_mid tells = subst IsTrue (sym first.tells) tells

  volume_mid : IsVolume entry.cells entry.image r.volume.geometry → IsVolume mid.cells mid.image r.volume.geometry
  volume_mid volume =
      subst (λ (c : ℕ). IsVolume c mid.image r.volume.geometry) (sym first.cells) (volume_on first.image volume)

  finds_since : (n : ℕ) → FindsSlot r id mid new n → FindsSlot r id entry new n
  finds_since n h = (
    h.0,
    h.1 ∙ same,
    λ tells. let found = h.2 (told_mid tells) in record {
      holds = found.holds;
      first = λ volume. found.first (volume_mid volume);
      alone = λ volume m trail. found.alone (volume_mid volume) m (has_trail_on first trail);
    },
  )

  walks_since : (walk : Walk) → WalksOn r id mid new walk → WalksOn r id entry new walk
  walks_since (walks.Found part) h = let found = finds_since part.slot (h.0, h.1, h.2) in
      (found.0, found.1, found.2, h.3)
  walks_since (walks.End place level) h = (
    h.0,
    h.1,
    h.2,
    h.3 ∙ same,
    λ tells. let ends = h.4 (told_mid tells) in record {
      blank = ends.blank;
      reached = ends.reached;
      led_within = ends.led_within;
      passed = λ volume. ends.passed (volume_mid volume);
      none = λ volume. none_before first (ends.none (volume_mid volume));
    },
  )
  walks_since walks.PathFull h = (
    h.0 ∙ same,
    λ tells. let full = h.1 (told_mid tells) in record {
      passed = λ volume. full.passed (volume_mid volume);
      none = λ volume. none_before first (full.none (volume_mid volume));
    },
  )

  pub path_since : (result : Result PathEnd Refusal) → SeeksPathEnd r id mid new result
      → SeeksPathEnd r id entry new result
  path_since result path = record {
    called = called_then first path.called;
    quiet = quiet_then first path.called quiet path.quiet;
    ends = why result path.ends;
  }
    where
      why : (result : Result PathEnd Refusal) → PathLookEnds r id mid new result → PathLookEnds r id entry new result
      why (Ok end) h = walks_since (walks.End end.place end.level) h
      why (Err (Duplicate n)) h = finds_since n h
      why (Err PathFull) h = walks_since walks.PathFull h
      why (Err DeviceFault) h = omega (arith, h, same)
      why (Err (Tampered e)) h = λ tells. let found = h (told_mid tells) in record {
        rule = record { rule = found.rule.rule; lies = λ volume. found.rule.lies (volume_mid volume) };
        stands = found.stands;
        place = found.place;
        broken = λ still. found.broken (still_second first.foreign_writes path.called.foreign_writes still);
      }
      why (Err refusal) h = absurd h

-- the stamp is not past the others, or that could not be read
pub not_past : (r : Ready) (id : List ℕ) (stamp : Option ℕ) (body : List ℕ) (entry new : DeviceState)
    (refusal : Refusal)
    → LooksPast r stamp entry new (Err refusal) → PlansFor r id stamp body entry new (Err refusal)
not_past r id stamp body entry new refusal looks =
    record { called = looks.called; quiet = looks.quiet; ends = why refusal looks.ends }
  where
    why : (refusal : Refusal) → PastEnds r stamp entry new (Err refusal)
        → PlanForEnds r id stamp body entry new (Err refusal)
    why (StampTooEarly given last) h = h
    why DeviceFault h = h
    why (Tampered e) h = λ tells. inl (h.0, h.1 tells)
    why refusal h = absurd h

-- the path has no end, or was not walked
pub path_refused : (r : Ready) (id : List ℕ) (stamp : Option ℕ) (body : List ℕ) (entry new : DeviceState)
    (refusal : Refusal) → IsStampPast r stamp entry → SeeksPathEnd r id entry new (Err refusal)
    → PlansFor r id stamp body entry new (Err refusal)
path_refused r id stamp body entry new refusal past path =
    record { called = path.called; quiet = path.quiet; ends = why refusal path.ends }
  where
    why : (refusal : Refusal) → PathLookEnds r id entry new (Err refusal)
        → PlanForEnds r id stamp body entry new (Err refusal)
    why (Duplicate n) h = (past, h)
    why PathFull h = (past, h)
    why DeviceFault h = h
    why (Tampered e) h = λ tells.
        let found = h tells in inr (
          past,
          record { rule = inl found.rule; stands = found.stands; place = found.place; broken = found.broken },
        )
    why refusal h = absurd h

module _ (r : Ready) (id : List ℕ) (stamp : Option ℕ) (body : List ℕ) (entry walked new : DeviceState) (end : PathEnd)
    (past : IsStampPast r stamp entry) (path : SeeksPathEnd r id entry walked (Ok end)) where
  told : IsTrue entry.tells → IsTrue walked.tells
  told tells = subst IsTrue (sym path.called.tells) tells

  -- planning was ended
  pub unplanned : (refusal : Refusal)
      → PlansIndex r.volume.geometry (record { slot = r.horizon; edge = r.edge; end = end }) stamp body walked new
      (Err refusal)
      → PlansFor r id stamp body entry new (Err refusal)
  unplanned refusal plans = record {
    called = called_then path.called plans.called;
    quiet = quiet_then path.called plans.called path.quiet plans.quiet;
    ends = why refusal plans.ends;
  }
    where
      why : (refusal : Refusal)
          → PlanEnds r.volume.geometry r.horizon r.edge end.level end.place stamp body walked new (Err refusal)
          → PlanForEnds r id stamp body entry new (Err refusal)
      why (TooManyTerms list count) h = record {
        past = past;
        place = end.place;
        level = end.level;
        path = subst (λ (s : DeviceState). WalksOn r id entry s (walks.End end.place end.level)) (sym h.1) path.ends;
        many = h.0;
      }
      why (Tampered e) h = λ tells.
          let named = h (told tells) in
          let led : IsLedWithin r.volume.geometry new.image end.level.led_by =
          led_within_on r.volume.geometry end.level.led_by plans.called.image (path.ends.4 tells).led_within in
          inr (
            past,
            record {
              rule = inr (record {
                rule = named.rule;
                ends = record {
                  walked = walked;
                  place = end.place;
                  level = end.level;
                  ends = record { called = path.called; path = path.ends; looked = plans.called; quiet = plans.quiet };
                };
                postings = named.postings;
              });
              stands = named.stands;
              place = named.place led;
              broken = λ still volume horizon edge. named.broken led
                  (still_second path.called.foreign_writes plans.called.foreign_writes still) volume horizon
                  (subst (λ (i : Image). IsLater r.volume.geometry i r.horizon stamp)
                  (sym (same_image (quiet_then path.called plans.called path.quiet plans.quiet still)))
                  (past tells)) edge;
            },
          )
      why DeviceFault h = omega (arith, h, path.called.faults)
      why NoMemory h = tt
      why refusal h = absurd h

  -- or it is done
  pub planned : (index : PlannedIndex)
      → PlansIndex r.volume.geometry (record { slot = r.horizon; edge = r.edge; end = end }) stamp body walked new
      (Ok index)
      → PlansFor r id stamp body entry new (Ok index)
  planned index plans = record {
    called = called_then path.called plans.called;
    quiet = quiet_then path.called plans.called path.quiet plans.quiet;
    ends = record {
      past = past;
      walked = walked;
      place = end.place;
      level = end.level;
      ends = record { called = path.called; path = path.ends; looked = plans.called; quiet = plans.quiet };
      planned = plans.ends;
    };
  }
