-- What the calls of a device in memory do, over all that it tells.
use Rattle.std.proofs.Common.{◌≡◌, ◌≤◌, ◌<◌, ◌^◌, ⊎_elim, inl, inr, ℕ, List, [], ◌∷◌, ◌++◌, length, Some, None, Ok, Err, refl, ap, sym, subst, ◌∙◌, arith}
use Rattle.std.proofs.lemmas.Bool.Decides.{eqb_tells}
use Rattle.cell_types.specs.Image.{Extends, ChangesOnly}
use Rattle.worm_device.specs.State.{DeviceState, Instant}
use Rattle.worm_device.specs.Calls.{Called, Writes, Syncs}
use Rattle.worm_device.specs.Counts.{Rose, next_count}
use Rattle.worm_device.specs.declared.device.Failed.{Failed}
use Rattle.worm_device.specs.declared.device.Written.TheVariants.{Done, Taken}
use Rattle.worm_device.proofs.Images.{extends_self}
use Rattle.worm_device.proofs.Elapsing.{elapsed_since, remembered_since, called_self, called_then, leaves_all, leaves_of}
use Rattle.worm_memory.specs.declared.change.Change.{Change}
use Rattle.worm_memory.specs.declared.change.Change.TheVariants.{Wrote, Foreign, Synced}
use Rattle.worm_memory.specs.Device.{ForeignWrites}
use Rattle.worm_memory.proofs.Worlds.{Adds}
use Rattle.worm_memory.specs.Worlds.{blank, world, IsAllSure}
use Rattle.worm_memory.specs.Memory.{IsBeforeStep, Memory, at_step, call_of, change_step, device_of, with_change, with_foreign, with_fault, with_hand}
use Rattle.worm_memory.proofs.Worlds.{after_append, image_is, written_here, written_elsewhere}
use Rattle.worm_memory.proofs.Crashes.{left_still, elapses_counted, elapses_changed, image_after, remembers_changed, remembers_counted, sure_after}

-- what every call keeps, where only counts rise
pub called_counted : (m : Memory) (from to faults reads : ℕ) → from ≤ to → m.faults ≤ faults → m.reads ≤ reads
    → Called (at_step from (device_of m)) (at_step to (device_of (record m { faults = faults; reads = reads })))
called_counted m from to faults reads more_steps more_faults more_reads = record {
  cells = refl;
  tells = refl;
  begun = refl;
  image = extends_self (world m.changes).image;
  sure = extends_self (world m.changes).sure;
  faults = more_faults;
  foreign_writes = omega arith;
  reads = more_reads;
  crashes = elapsed_since (elapses_counted m from to faults reads m.foreign_writes);
  remembers = remembered_since (remembers_counted m from to faults reads m.foreign_writes more_steps);
}

-- and where something changes
called_changed : (m : Memory) (from to : ℕ) (change : Change) → Adds change → length m.made_in ≡ length m.changes
    → from ≤ to → Rose from (change_step change (call_of m))
    → Called (at_step from (device_of m)) (at_step to (device_of (with_change m change)))
called_changed m from to change adds one_each less rose = record {
  cells = refl;
  tells = refl;
  begun = refl;
  image = image_after m change adds;
  sure = sure_after m change;
  faults = omega arith;
  foreign_writes = omega arith;
  reads = omega arith;
  crashes = elapsed_since (elapses_changed m from to change adds);
  remembers = remembered_since (remembers_changed m from to change one_each less rose);
}

-- what stands in the cells after a blank one is written
pub value_stands : (m : Memory) (at : ℕ) (value : List ℕ) → (world m.changes).image at ≡ None
    → (device_of (with_change m (Wrote at value))).image at ≡ Some value
value_stands m at value free = image_is m.changes (Wrote at value) at
    ∙ written_here (world m.changes).image at value free

changes_one : (m : Memory) (at : ℕ) (value : List ℕ) → (world m.changes).image at ≡ None
    → ChangesOnly at value (device_of m).image (device_of (with_change m (Wrote at value))).image
changes_one m at value free = λ cell.
    let new = (device_of (with_change m (Wrote at value))).image in
    ⊎_elim
    (λ here. inr (here.1, ap (world m.changes).image here.1 ∙ free, ap new here.1 ∙ value_stands m at value free))
    (λ elsewhere. inl (image_is m.changes (Wrote at value) cell ∙ written_elsewhere
    (world m.changes).image at value cell elsewhere.1))
    (eqb_tells cell at)

-- a blank cell is written
pub writes_done : (m : Memory) (before at : ℕ) (value : List ℕ) → length m.made_in ≡ length m.changes
    → IsBeforeStep before m → (world m.changes).image at ≡ None
    → Writes at value (at_step before (device_of m)) (device_of (with_change m (Wrote at value))) (Ok Done)
writes_done m before at value one_each step free = record {
  called = called_changed m before m.steps (Wrote at value) tt one_each step.below step.counted;
  leaves = leaves_all _ _ (λ image between. inl (record {
    above = subst (λ (now : Instant). Extends now.sure image)
        (sym (after_append blank m.changes (Wrote at value))) between.above;
    below = between.below;
  }));
  only = λ still. changes_one m at value free;
  answer = λ tells. (free, value_stands m at value free);
  cause = refl;
  count = refl;
}

-- a written cell stays
pub writes_taken : (m : Memory) (before at : ℕ) (value found : List ℕ) → IsBeforeStep before m
    → (world m.changes).image at ≡ Some found
    → Writes at value (at_step before (device_of m)) (device_of m) (Ok (Taken found))
writes_taken m before at value found step stands = record {
  called = called_counted m before m.steps m.faults m.reads step.below (omega arith) (omega arith);
  leaves = leaves_all _ _ (λ image between. inl between);
  only = λ still cell. inl refl;
  answer = λ tells. (stands, λ still. stands);
  cause = refl;
  count = refl;
}

-- a write that fails changes nothing
pub writes_failed : (m : Memory) (before at : ℕ) (value : List ℕ) (failed : Failed) → IsBeforeStep before m
    → m.faults < 2 ^ 64 → Writes at value (at_step before (device_of m)) (device_of (with_fault m)) (Err failed)
writes_failed m before at value failed step fits = record {
  called = called_counted m before m.steps (next_count m.faults) m.reads step.below (omega arith) (omega arith);
  leaves = leaves_all _ _ (λ image between. inl between);
  only = λ still cell. inl refl;
  answer = λ tells. tt;
  cause = omega arith;
  count = refl;
}

-- a sync makes sure what stands
pub syncs_done : (m : Memory) (before : ℕ) → length m.made_in ≡ length m.changes → IsBeforeStep before m
    → Syncs (at_step before (device_of m)) (device_of (with_change m Synced)) (Ok tt)
syncs_done m before one_each counted = record {
  called = called_changed m before m.steps Synced tt one_each counted.below counted.counted;
  leaves = leaves_all _ _ (λ image between. left_still m Synced (length m.changes) image (omega arith)
      (inl (record {
        above = between.above;
        below = record {
          keeps = λ cell value h. sym
              (image_is m.changes Synced cell) ∙ between.below.keeps cell value h;
        };
      })));
  only = λ still cell. image_is m.changes Synced cell;
  answer = λ tells.
      subst (λ (now : Instant). Extends (world m.changes).image now.sure) (sym (after_append blank m.changes Synced))
      (extends_self (world m.changes).image);
  step = λ tells. counted.counted;
  cause = refl;
  count = refl;
}

-- where all that stands is sure, there is nothing to do
pub syncs_idle : (m : Memory) (before : ℕ) → IsBeforeStep before m → IsAllSure (world m.changes)
    → Syncs (at_step before (device_of m)) (device_of m) (Ok tt)
syncs_idle m before counted all_sure = record {
  called = called_counted m before m.steps m.faults m.reads counted.below (omega arith) (omega arith);
  leaves = leaves_all _ _ (λ image between. inl between);
  only = λ still cell. refl;
  answer = λ tells. record { keeps = λ cell value h. sym (all_sure cell) ∙ h };
  step = λ tells. counted.counted;
  cause = refl;
  count = refl;
}

-- a sync that fails changes nothing
pub syncs_failed : (m : Memory) (before : ℕ) (failed : Failed) → IsBeforeStep before m → m.faults < 2 ^ 64
    → Syncs (at_step before (device_of m)) (device_of (with_fault m)) (Err failed)
syncs_failed m before failed counted fits = record {
  called = called_counted m before m.steps (next_count m.faults) m.reads counted.below (omega arith) (omega arith);
  leaves = leaves_all _ _ (λ image between. inl between);
  only = λ still cell. refl;
  answer = λ tells. tt;
  step = λ tells. tt;
  cause = omega arith;
  count = refl;
}

-- somebody else writes a blank cell: first the record grows, and then the count
pub called_foreign : (m : Memory) (from at : ℕ) (value : List ℕ) → m.foreign_writes < 2 ^ 64
    → length m.made_in ≡ length m.changes → from ≤ m.steps
    → Called (at_step from (device_of m)) (at_step from (device_of (with_foreign m at value)))
called_foreign m from at value fits one_each less =
    called_then (called_changed m from from (Foreign at value) tt one_each (omega arith) (omega (arith, less))) (record {
      cells = refl;
      tells = refl;
      begun = refl;
      image = extends_self (world (m.changes ++ Foreign at value ∷ [])).image;
      sure = extends_self (world (m.changes ++ Foreign at value ∷ [])).sure;
      faults = omega arith;
      foreign_writes = omega arith;
      reads = omega arith;
      crashes = elapsed_since (elapses_counted (with_change m (Foreign at value)) from from m.faults m.reads
          (next_count m.foreign_writes));
      remembers = remembered_since (remembers_counted (with_change m (Foreign at value)) from from m.faults m.reads
          (next_count m.foreign_writes) (omega arith));
    })

pub foreign_done : (m : Memory) (at : ℕ) (value : List ℕ) → m.foreign_writes < 2 ^ 64
    → length m.made_in ≡ length m.changes → ForeignWrites (device_of m) (device_of (with_foreign m at value))
foreign_done m at value fits one_each = record {
  called = called_foreign m m.steps at value fits one_each (omega arith);
  leaves = leaves_all _ _ (λ image between. inl (record {
    above = subst (λ (now : Instant). Extends now.sure image)
        (sym (after_append blank m.changes (Foreign at value))) between.above;
    below = between.below;
  }));
  quiet = λ still. absurd (omega (arith, still.same, still.below));
}

pub foreign_taken : (m : Memory) → ForeignWrites (device_of m) (device_of m)
foreign_taken m = record {
  called = called_self (device_of m);
  leaves = leaves_all _ _
      (λ image between. inl between);
  quiet = λ still cell. refl;
}

pub foreign_failed : (m : Memory) → m.faults < 2 ^ 64 → ForeignWrites (device_of m) (device_of (with_fault m))
foreign_failed m fits = record {
  called = called_counted m m.steps m.steps (next_count m.faults) m.reads (omega arith) (omega arith) (omega arith);
  leaves = leaves_all _ _ (λ image between. inl between);
  quiet = λ still cell. refl;
}

-- and whether the command went by its plan does not matter to it
pub foreign_by_hand : (m : Memory) (new : DeviceState) → ForeignWrites (device_of (with_hand m)) new
    → ForeignWrites (device_of m) new
foreign_by_hand m new writes = record {
  called = writes.called;
  leaves = leaves_all (device_of m) new (leaves_of (device_of (with_hand m)) new writes.leaves);
  quiet = writes.quiet;
}
