-- A volume that is settled: from the looks over the slot's last cell to the end.
use Rattle.std.proofs.Common.{◌≡◌, ◌≤◌, ◌<◌, ◌+◌, ◌⊎◌, ℕ, Some, Ok, Err, refl, sym, ◌∙◌, inl, inr, ⊎_elim, subst, arith}
use Rattle.std.proofs.lemmas.Option.{none-some}
use Rattle.std.specs.Prelude.{IsTrue}
use Rattle.cell_types.specs.Image.{Extends, IsUnchanged}
use Rattle.cell_types.specs.Layout.{Layout, IsLayout, reserve_at, outcome_at, done_at}
use Rattle.cell_types.specs.Records.{record_bytes}
use Rattle.cell_types.specs.declared.geometry.TheConstants.{MAX_SLOTS}
use Rattle.cell_types.specs.declared.record_cell.RecordCell.TheVariants as records
use Rattle.cell_types.specs.declared.refusal.Evidence.{Evidence}
use Rattle.commit_record.specs.Reservations.{reservation_of}
use Rattle.commit_record.specs.Licences.{IsLicensed}
use Rattle.commit_record.specs.LogEnds.{IsLogEnd}
use Rattle.commit_record.specs.declared.reservation.Reservation.{Reservation}
use Rattle.commit_record.specs.declared.slot.SlotState.{SlotState}
use Rattle.commit_record.specs.declared.slot.SlotState.TheVariants.{Unused, Reserved, Abandoned, Committed, Done}
use Rattle.volume_meaning.specs.Slots.{Reserves, HasEnded}
use Rattle.volume_meaning.specs.Volumes.{IsVolume}
use Rattle.volume_meaning.proofs.Extending.{blank_before, ended_further, ends_on, reserves_on, commits_on, reserved_further, abandoned_further, committed_further, done_on, horizon_further, written_on}
use Rattle.cell_types.specs.declared.refusal.Fault.{Fault}
use Rattle.cell_types.specs.declared.refusal.Fault.TheVariants as faults
use Rattle.commit_record.specs.Opening.{OpenEnds, refusal_of}
use Rattle.commit_record.specs.declared.opening.OpenRefusal.{OpenRefusal}
use Rattle.commit_record.specs.declared.opening.OpenRefusal.TheVariants.{NotFormatted, NotAVolume, WrongSize, ReadFault}
use Rattle.worm_device.specs.Views.{seen_directly}
use Rattle.worm_device.specs.Calls.{Called}
use Rattle.worm_device.specs.Counts.{IsStill}
use Rattle.worm_device.specs.State.{DeviceState}
use Rattle.worm_device.proofs.Counting.{still_first, still_second}
use Rattle.worm_device.proofs.Elapsing.{called_then}
use Rattle.worm_device.proofs.Images.{extends_self, extends_then}
use Rattle.recovery_engine.specs.LastSlot.{IsLastSlot, IsSlotEvidence, IsSlotRule, LastEnds}
use Rattle.recovery_engine.specs.Settling.{LastFollows, StepMakes, IsReady, LiesInBounds, NamesTarget, SettleEnds, unused}
use Rattle.tamper_rules.specs.declared.numbers.TheConstants.{OTHER_TARGET, RESERVE_CELL, OUTCOME_CELL, DONE_CELL}
use Rattle.cell_types.specs.declared.geometry.Volume.{Volume}
use Rattle.cell_types.specs.Refusals.{refusal_of_fault}
use Rattle.recovery_engine.specs.Ending.{HasJournal, abandon_put, done_put, end_plan, end_phases, step_of}
use Rattle.recovery_engine.specs.Putting.{PutsPhases}
use Rattle.recovery_engine.specs.declared.put.Blame.TheVariants.{Journal}
use Rattle.recovery_engine.specs.Entries.{target_of}
use Rattle.tamper_rules.specs.Journals.{journal_at}
use Rattle.recovery_engine.specs.declared.settling.Ready.{Ready}
use Rattle.recovery_engine.proofs.Licensed.{stays_free, found_looked}
use Rattle.recovery_engine.proofs.Looked.{Looked}
use Rattle.recovery_engine.proofs.States.{reserved_by}

-- evidence of the last look, from the first state on
named_licensed : (g : Layout) (s0 s3 s4 : DeviceState) (e : Evidence) → Called s0 s3 → Called s3 s4
    → IsVolume s4.cells s4.image g
    → IsSlotEvidence g s4.cells s3.foreign_writes s4.foreign_writes s4.image e → IsLicensed s0 s4 e
named_licensed g s0 s3 s4 e c03 c34 volume named = record {
  stands = named.stands;
  layout = g;
  volume = volume;
  place = named.place;
  broken = λ still. named.broken (still_second c03.foreign_writes c34.foreign_writes still) volume;
}

module _ (g : Layout) (n u : ℕ) (cells : Reservation) (next : u ≡ n + 1) (less : n < MAX_SLOTS)
    (s0 s2 s3 s4 s5 : DeviceState)
    (c02 : Called s0 s2) (c23 : Called s2 s3) (c34 : Called s3 s4) (c45 : Called s4 s5) (tells : IsTrue s4.tells) where
  e03 : Extends s0.image s3.image
  e03 = extends_then c02.image c23.image

  same_slot : (m : ℕ) → u ≡ m + 1 → n ≡ m
  same_slot m is = omega (arith, next, is)

  -- what the step has made of the slot
  pub step_makes : (state : SlotState) (u0 : Unit {0}) → IsLastSlot g s3.image s4.image n state
      → HasJournal g state s4.image → reservation_of state ≡ Some cells
      → PutsPhases (end_plan s4.image n state) (end_phases state) s4 s5 (Ok u0) → StepMakes g s0 s5 u (step_of n state)
  step_makes Unused u0 last entries reserved p = absurd (none-some cells reserved)
  step_makes (Abandoned s l) u0 last entries reserved p =
      λ m is. subst (HasEnded g s0.image s5.image) (same_slot m is)
      (inl (record { start = s; length = l; abandoned = abandoned_further e03 c45.image last.is }))
  step_makes (Done s l b j) u0 last entries reserved p =
      λ m is. subst (HasEnded g s0.image s5.image) (same_slot m is)
      (inr (record { start = s; length = l; bytes = b; journal = j; done = done_on c45.image last.is }))
  step_makes (Reserved s l) u0 last entries reserved p =
      let sure = p.sure tells in
      let synced = sure.1 (omega arith) in
      let stands : s5.sure (outcome_at n) ≡ Some (record_bytes records.Abandon (outcome_at n)) = sure.0 (abandon_put n)
      (0, omega arith, inl (refl, refl)) in (
        next,
        s,
        l,
        reserved_further e03 c45.image last.is,
        record {
          abandons = record {
            reserves = reserves_on synced last.is.reserves;
            outcome = record {
              cell = record_bytes records.Abandon (outcome_at n);
              stands = stands;
              is = record
                  { fits = tt; well_formed = tt; same = refl };
            };
          };
          done = blank_before e03 last.is.done;
        },
      )
  step_makes (Committed s l b j) u0 last entries reserved p =
      let sure = p.sure tells in
      let synced = sure.1 (omega arith) in
      let stands : s5.sure (done_at n) ≡ Some (record_bytes (records.Done n) (done_at n)) = sure.0 (done_put n)
      (1, omega arith, inr (refl, refl)) in (
        next,
        s,
        l,
        b,
        j,
        committed_further e03 c45.image last.is,
        record {
          commits = commits_on synced last.is.commits;
          done = record {
            cell = record_bytes (records.Done n) (done_at n);
            stands = stands;
            is = record
                { fits = omega (arith, less); well_formed = less; same = refl };
          };
        },
        λ k within.
            let h = entries k within in (
              h.cell,
              synced.keeps (journal_at s l j + k) h.cell h.stands,
              sure.0 (record { at = target_of h.cell; value = h.cell; blame = Journal (journal_at s l j + k) })
                  (0, omega arith, inl (refl, (k, within, record { stands = h.stands; at = refl; blame = refl }))),
            ),
      )

  -- the slot follows the one before it, at the end too
  last_follows : (state : SlotState) → IsLastSlot g s3.image s4.image n state → reservation_of state ≡ Some cells
      → LastFollows g s0.image s5.image n
  last_follows state last reserved =
      let follows = last.follows cells reserved in
      record {
        start = cells.start;
        length = cells.length;
        reserves = reserves_on c45.image (reserved_by g s3.image s4.image n state cells last.is reserved);
        follows = record {
          begins = ends_on {before = s3.image} {before' = s3.image} (extends_self s3.image) c45.image follows.begins;
          ended = λ m is. ended_further e03 c45.image (follows.ended m is);
        };
      }

  -- the volume is ready
  pub ready : (r : Ready) (state : SlotState) (u0 : Unit {0}) → r.volume.geometry ≡ g → r.horizon ≡ u
      → r.edge ≡ cells.start + cells.length → IsVolume s5.cells s5.image r.volume.geometry
      → IsLogEnd r.volume.geometry s2.image s3.image r.horizon
      → IsLastSlot g s3.image s4.image n state → reservation_of state ≡ Some cells
      → HasJournal g state s4.image → PutsPhases (end_plan s4.image n state) (end_phases state) s4 s5 (Ok u0) → r.step ≡
      step_of n state → Extends s0.image s5.sure
      → (IsStill s2.foreign_writes s4.foreign_writes → IsUnchanged s2.image s4.image) → IsReady s0 s5 r
  ready r state u0 e_g e_u e_edge volume log last reserved entries phases e_step synced quiet = record {
    volume = volume;
    horizon = horizon_further c02.image (extends_then c34.image c45.image) log.horizon;
    full = λ w. log.full (written_on c02.image w);
    free = λ still under.
        let more : s2.foreign_writes ≤ s4.foreign_writes = omega (arith, c23.foreign_writes, c34.foreign_writes) in
        let e25 = still_second c02.foreign_writes (omega (arith, more, c45.foreign_writes)) still in
        stays_free g n r.horizon state s4 s5 u0 (subst (λ (h : Layout). r.horizon < h.slots) e_g under) entries phases
        tells (still_second more c45.foreign_writes e25)
        (quiet (still_first more c45.foreign_writes e25) (reserve_at r.horizon) ∙ log.horizon.free under);
    edge = inr (
      n,
      cells.start,
      cells.length,
      e_u ∙ next,
      subst (λ (h : Layout). Reserves h s5.image n cells.start cells.length) (sym e_g)
          (reserves_on c45.image (reserved_by g s3.image s4.image n state cells last.is reserved)),
      e_edge,
    );
    last = λ m is.
        subst (λ (h : Layout). LastFollows h s0.image s5.image m) (sym e_g)
        (subst (LastFollows g s0.image s5.image) (same_slot m (sym e_u ∙ is)) (last_follows state last reserved));
    step = subst (λ (h : Layout). StepMakes h s0 s5 r.horizon r.step) (sym e_g)
        (subst (λ (k : ℕ). StepMakes g s0 s5 k r.step) (sym e_u)
        (subst (StepMakes g s0 s5 u) (sym e_step) (step_makes state u0 last entries reserved phases)));
    synced = synced;
  }

-- a volume of which no slot is used
pub unused_bounds : (new : DeviceState) (volume : Volume) → volume.version ≡ volume.geometry.version
    → IsLayout volume.geometry → volume.geometry.cells ≡ new.cells → LiesInBounds new (unused volume)
unused_bounds new volume version layout size = record {
  version = version;
  layout = layout;
  size = size;
  horizon = omega arith;
  from = omega arith;
  to = layout.pool;
}

pub unused_ready : (s0 s2 s3 : DeviceState) (volume : Volume) → Called s0 s2 → Called s2 s3
    → (IsStill s2.foreign_writes s3.foreign_writes → IsUnchanged s2.image s3.image)
    → IsVolume s3.cells s3.image volume.geometry → IsLogEnd volume.geometry s2.image s3.image 0
    → Extends s0.image s3.sure → IsReady s0 s3 (unused volume)
unused_ready s0 s2 s3 volume c02 c23 quiet is log synced = record {
  volume = is;
  horizon = horizon_further c02.image (extends_self s3.image) log.horizon;
  full = λ w. log.full (written_on c02.image w);
  free = λ still under.
      quiet (still_second c02.foreign_writes c23.foreign_writes still) (reserve_at 0) ∙ log.horizon.free under;
  edge = inl (refl, refl);
  last = λ m is. absurd (omega (arith, is));
  step = λ m is. absurd (omega (arith, is));
  synced = synced;
}

-- the volume was not opened
pub open_refused : (s0 s1 s2 : DeviceState) (fault : OpenRefusal) → Looked s0 s1 → Looked s0 s2 → Called s1 s2
    → OpenEnds (seen_directly s1 0) (seen_directly s2 0) (Err fault) → SettleEnds s0 s2 (Err (refusal_of fault))
open_refused s0 s1 s2 NotFormatted l1 l2 c12 ends = λ tells.
    blank_before l2.called.image (ends.1 (subst IsTrue (sym l1.called.tells) tells))
open_refused s0 s1 s2 (NotAVolume found) l1 l2 c12 ends = λ tells. ends.1 (subst IsTrue (sym l1.called.tells) tells)
open_refused s0 s1 s2 (WrongSize stated real) l1 l2 c12 ends =
    (ends.1, ends.2, λ tells. ends.3 (subst IsTrue (sym l1.called.tells) tells))
open_refused s0 s1 s2 ReadFault l1 l2 c12 ends = omega (arith, ends, l1.called.faults)

-- cell 0 names no target
pub open_names : (s0 s2 : DeviceState) (fault : OpenRefusal) → NamesTarget s0 s2 (Err (refusal_of fault))
open_names s0 s2 NotFormatted = tt
open_names s0 s2 (NotAVolume found) = tt
open_names s0 s2 (WrongSize stated real) = tt
open_names s0 s2 ReadFault = tt

-- nor do the cells of a slot's state
not_other : (number : ℕ) → IsSlotRule number → number ≡ OTHER_TARGET → ⊥
not_other number rule six = ⊎_elim
    (λ (a : number ≡ RESERVE_CELL). omega (arith, a, six))
    (λ (b : (number ≡ OUTCOME_CELL) ⊎ (number ≡ DONE_CELL)). ⊎_elim
    (λ (c : number ≡ OUTCOME_CELL). omega (arith, c, six))
    (λ (d : number ≡ DONE_CELL). omega (arith, d, six)) b)
    rule

pub last_names : (g : Layout) (n : ℕ) (s0 s3 s4 : DeviceState) (fault : Fault) → IsTrue s3.tells
    → LastEnds g n (seen_directly s3 0) (seen_directly s4 0) (Err fault)
    → NamesTarget s0 s4 (Err (refusal_of_fault fault))
last_names g n s0 s3 s4 faults.Failed tells ends = tt
last_names g n s0 s3 s4 (faults.Tampered e) tells ends = λ six still.
    absurd (not_other e.rule (ends tells).rule six)

-- the last slot is out of place, or a read failed
pub last_refused : (g : Layout) (n : ℕ) (s0 s3 s4 : DeviceState) (fault : Fault) → Called s0 s3 → Called s3 s4
    → (IsStill s0.foreign_writes s4.foreign_writes → IsUnchanged s0.image s4.image)
    → (IsTrue s0.tells → IsVolume s4.cells s4.image g)
    → LastEnds g n (seen_directly s3 0) (seen_directly s4 0) (Err fault)
    → SettleEnds s0 s4 (Err (refusal_of_fault fault))
last_refused g n s0 s3 s4 faults.Failed c03 c34 quiet volume ends = omega (arith, ends, c03.faults)
last_refused g n s0 s3 s4 (faults.Tampered e) c03 c34 quiet volume ends = λ tells.
    let named = ends (subst IsTrue (sym c03.tells) tells) in
    found_looked s0 s4 e (inl named.rule) (called_then c03 c34) quiet
    (named_licensed g s0 s3 s4 e c03 c34 (volume tells) named)
