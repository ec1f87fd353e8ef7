-- What settling knows when all that stood is sure, and it has only looked since.
use Rattle.std.proofs.Common.{true, false, ◌≡◌, ◌≤◌, ◌<◌, ◌+◌, ◌-◌, ◌⊎◌, ◌↔◌, ℕ, zero, suc, List, Option, None, Some, Ok, Err, refl, sym, ◌∙◌, inl, inr, ⊎_elim, subst, arith}
use Rattle.std.specs.Prelude.{IsNone, IsTrue, IsOk, IfOk, Result}
use Rattle.cell_types.specs.Image.{Image, Extends, Between, IsUnchanged}
use Rattle.cell_types.specs.declared.refusal.Fault.{Fault}
use Rattle.cell_types.specs.declared.refusal.Refusal.{Refusal}
use Rattle.cell_types.specs.declared.refusal.Refusal.TheVariants.{DeviceFault}
use Rattle.commit_record.specs.declared.slot.SlotState.{SlotState}
use Rattle.commit_record.specs.declared.slot.SlotState.TheVariants.{Unused, Reserved, Abandoned, Committed, Done}
use Rattle.recovery_engine.specs.declared.put.Put.{Put}
use Rattle.recovery_engine.specs.Putting.{IsInFirst, CrashesLeavePhases, PutsPhases}
use Rattle.recovery_engine.proofs.Phasing.{changes_same, changes_wider, crashes_wider, false_true, phases_append, phases_append_ended}
use Rattle.worm_device.specs.Calls.{Called, Syncs}
use Rattle.worm_device.specs.Counts.{IsStill, Rose}
use Rattle.worm_device.specs.State.{DeviceState, LeftSince}
use Rattle.worm_device.specs.declared.device.Failed.{Failed}
use Rattle.worm_device.proofs.Counting.{still_first, still_second}
use Rattle.worm_device.proofs.Elapsing.{called_then, elapses_of, remembers_of}
use Rattle.worm_device.proofs.Images.{extends_self, extends_then, unchanged_then}
use Rattle.recovery_engine.specs.Ending.{IsFirstEnd, IsLastEnd, end_plan, end_phases, step_of}
use Rattle.recovery_engine.specs.Settling.{Settles, SettleEnds, LooksBriefly, LooksBrieflyAgain, NamesTarget, EndsByPhases, IsEnding, settle_plan}
use Rattle.recovery_engine.specs.declared.settling.Step.TheVariants.{Nothing}
use Rattle.recovery_engine.specs.declared.settling.Ready.{Ready}

true_false : true ≡ false → ⊥
true_false e = cc

-- where no reserve cell is handed over there is none
pub none_is : (last : Option (List ℕ)) → last ≡ None → IsNone last
none_is last is = subst IsNone (sym is) refl

-- where one is, a slot is used
pub some_used : (last : Option (List ℕ)) (cell : List ℕ) (u : ℕ) → last ≡ Some cell → (IsNone last ↔ (u ≡ 0)) → 1 ≤ u
some_used last cell zero is none = absurd (true_false (subst IsNone is (none.1 refl)))
some_used last cell (suc u) is none = omega arith

-- a crash keeps what was sure at old, and leaves nothing that does not stand
pub record IsSpared (old now : DeviceState) (image : Image) : Type 0 where
  pub above : Extends old.sure image
  pub below : Extends image now.image

abbrev pub CrashesSpare : DeviceState → DeviceState → Type 0
CrashesSpare old now = (since : ℕ) (image : Image) → since ≤ old.moment → LeftSince now since image → LeftSince old
    since image ⊎ IsSpared old now image

pub record Looked (old now : DeviceState) : Type 0 where
  pub called : Called old now
  pub quiet : IsStill old.foreign_writes now.foreign_writes → IsUnchanged old.image now.image
  pub synced : IsTrue old.tells → Extends old.image now.sure
  pub stepped : IsTrue old.tells → Rose old.steps now.steps
  pub crashes : CrashesSpare old now

spared_call : {old new : DeviceState} → Called old new → CrashesSpare old new
spared_call {old} {new} called since image le left = ⊎_elim inl
    (λ (b : Between old.sure new.image image). inr (record { above = b.above; below = b.below }))
    ((elapses_of called).adds since image le left)

-- all that stood is sure
pub looked_sync : (old new : DeviceState) → Syncs old new (Ok tt) → Looked old new
looked_sync old new sync = record {
  called = sync.called;
  quiet = sync.only;
  synced = sync.answer;
  stepped = sync.step;
  crashes = spared_call
      sync.called;
}

-- one look more
pub looked_more : (old mid new : DeviceState) → Looked old mid → Called mid new
    → (IsStill mid.foreign_writes new.foreign_writes → IsUnchanged mid.image new.image) → Looked old new
looked_more old mid new looked called quiet = record {
  called = called_then looked.called called;
  quiet = λ still. unchanged_then (looked.quiet (still_first looked.called.foreign_writes called.foreign_writes still))
      (quiet (still_second looked.called.foreign_writes called.foreign_writes still));
  synced = λ tells. extends_then (looked.synced tells) called.sure;
  stepped = λ tells. omega (arith, looked.stepped tells, (remembers_of called).steps);
  crashes = λ since image le left. ⊎_elim
      (λ (before : LeftSince mid since image). ⊎_elim inl
      (λ (s : IsSpared old mid image). inr (record { above = s.above; below = extends_then s.below called.image }))
      (looked.crashes since image le before))
      (λ (b : Between mid.sure new.image image). inr
      (record { above = extends_then looked.called.sure b.above; below = b.below }))
      ((elapses_of called).adds since image (omega (arith, le, (elapses_of looked.called).later)) left);
}

-- looks, as a row of phases of which none has put anything
pub spared_phases : (plan : ℕ → Put → Type 0) (k : ℕ) (old now : DeviceState)
    → (IsStill old.foreign_writes now.foreign_writes → IsUnchanged old.image now.image) → CrashesSpare old now
    → CrashesLeavePhases plan k old now
spared_phases plan k old now quiet crashes tells since image le left = ⊎_elim inl
    (λ (s : IsSpared old now image). inr (record {
      phase = 0;
      begun = omega arith;
      all = λ put h. absurd (omega (arith, h.1));
      sure = s.above;
      synced = λ some. absurd (omega (arith, some));
      only = λ still at value h. inl (sym (quiet still at) ∙ s.below.keeps at value h);
    }))
    (crashes since image le left)

pub looked_phases : (plan : ℕ → Put → Type 0) → ((put : Put) → plan 0 put → ⊥) → (old now : DeviceState)
    → Looked old now → now.faults ≡ old.faults → PutsPhases plan 1 old now (Ok tt)
looked_phases plan none old now looked unfailed =
    let never : (put : Put) → IsInFirst plan 1 put → ⊥ = λ put h. none put
    (subst (λ (j : ℕ). plan j put) (omega (arith, h.1)) h.2) in
    record {
      puts = record {
        called = looked.called;
        unfailed = λ okay. unfailed;
        only = λ tells still. changes_same (IsInFirst plan 1) old.image now.image (looked.quiet still);
        ends = λ tells put h. absurd (never put h);
      };
      sure = λ tells. (λ put h. absurd (never put h), λ some. looked.synced tells);
      crashes = spared_phases plan 1 old now looked.quiet looked.crashes;
    }

none_settles : (image : Image) (j : ℕ) (put : Put) → settle_plan image 0 Unused j put → ⊥
none_settles image j put h = ⊎_elim
    (λ (a : (j ≡ 1) × IsFirstEnd image 0 Unused put). a.1)
    (λ (b : (j ≡ 2) × IsLastEnd 0 Unused put). b.1)
    h

-- settling ends after looks alone
settled_spared : (old now : DeviceState) (result : Result Ready Refusal) → Called old now
    → (IsOk result → now.faults ≡ old.faults) → (IsOk result → Rose old.reads now.reads)
    → (IsOk result → IsTrue old.tells → Rose old.steps now.steps)
    → (IsStill old.foreign_writes now.foreign_writes → IsUnchanged old.image now.image) → CrashesSpare old now
    → (IsOk result → IsTrue old.tells → Extends old.image now.sure) → IfOk result (λ r. r.step ≡ step_of 0 Unused)
    → (IsTrue old.tells → NamesTarget old now result) → SettleEnds old now result → LooksBriefly old now result
    → (IsTrue old.tells → LooksBrieflyAgain old now) → Settles old now result
settled_spared old now result called unfailed read stepped quiet crashes synced step targets ends reads again = record {
  called = called;
  unfailed = unfailed;
  read = read;
  stepped = stepped;
  writes = λ tells. record {
    between = old.image;
    grows = extends_self old.image;
    stands = called.image;
    slot = 0;
    state = Unused;
    quiet = λ still cell. refl;
    ending = λ some. absurd (omega (arith, some));
    step = step;
    below = λ some. absurd (omega (arith, some));
    sure = λ okay. (λ put h. absurd (none_settles old.image h.0 put h.2), synced okay tells);
    only = λ still. changes_same (IsInFirst (settle_plan old.image 0 Unused) 3) old.image now.image (quiet still);
    crashes = spared_phases (settle_plan old.image 0 Unused) 3 old now quiet crashes;
  };
  ends = ends;
  targets = targets;
  reads = reads;
  again = again;
}

pub settled_looked : (old now : DeviceState) (result : Result Ready Refusal) → Looked old now
    → (IsOk result → now.faults ≡ old.faults) → (IsOk result → Rose old.reads now.reads)
    → IfOk result (λ r. r.step ≡ step_of 0 Unused) → (IsTrue old.tells → NamesTarget old now result)
    → SettleEnds old now result → LooksBriefly old now result → (IsTrue old.tells → LooksBrieflyAgain old now)
    → Settles old now result
settled_looked old now result looked unfailed read step targets ends reads again = settled_spared old now result
    looked.called unfailed read (λ okay tells. looked.stepped tells) looked.quiet looked.crashes
    (λ okay tells. looked.synced tells) step targets ends reads again

-- so they do where they are refused
pub refused_looked : (old now : DeviceState) (refusal : Refusal) → Looked old now
    → (IsTrue old.tells → NamesTarget old now (Err refusal)) → SettleEnds old now (Err refusal)
    → (IsTrue old.tells → LooksBrieflyAgain old now) → Settles old now (Err refusal)
refused_looked old now refusal looked targets ends again = settled_looked old now (Err refusal) looked
    (λ okay. absurd (false_true okay)) (λ okay. absurd (false_true okay)) tt targets ends tt again

-- the sync failed
pub sync_failed : (s0 s1 : DeviceState) (f : Failed) → Syncs s0 s1 (Err f) → Settles s0 s1 (Err DeviceFault)
sync_failed s0 s1 f sync = settled_spared s0 s1 (Err DeviceFault) sync.called (λ okay. absurd (false_true okay))
    (λ okay. absurd (false_true okay)) (λ okay. absurd (false_true okay)) sync.only (spared_call sync.called)
    (λ okay tells. absurd (false_true okay)) tt (λ tells. tt) sync.cause tt
    (λ tells settled still. omega (arith, sync.count))

-- where the step is none, no phase was to be put
pub none_ended : (n : ℕ) (state : SlotState) → step_of n state ≡ Nothing → end_phases state ≡ 0
none_ended n Unused is = refl
none_ended n (Reserved s l) is = cc
none_ended n (Abandoned s l) is = refl
none_ended n (Committed s l b j) is = cc
none_ended n (Done s l b j) is = refl

two_phases : (state : SlotState) → end_phases state ≤ 2
two_phases Unused = omega arith
two_phases (Reserved s l) = omega arith
two_phases (Abandoned s l) = omega arith
two_phases (Committed s l b j) = omega arith
two_phases (Done s l b j) = omega arith

module _ (image : Image) (n : ℕ) (state : SlotState) where
  shift_to : (j : ℕ) (put : Put) → end_plan image n state j put → settle_plan image n state (1 + j) put
  shift_to j put h = ⊎_elim
      (λ (a : (j ≡ 0) × IsFirstEnd image n state put). inl (omega (arith, a.0), a.1))
      (λ (b : (j ≡ 1) × IsLastEnd n state put). inr (omega (arith, b.0), b.1))
      h

  shift_back : (j : ℕ) (put : Put) → 1 ≤ j → settle_plan image n state j put → end_plan image n state (j - 1) put
  shift_back j put some h = ⊎_elim
      (λ (a : (j ≡ 1) × IsFirstEnd image n state put). inl (omega (arith, a.0), a.1))
      (λ (b : (j ≡ 2) × IsLastEnd n state put). inr (omega (arith, b.0), b.1))
      h

  never_first : (put : Put) → settle_plan image n state 0 put → ⊥
  never_first put h = ⊎_elim
      (λ (a : (0 ≡ 1) × IsFirstEnd image n state put). omega (arith, a.0))
      (λ (b : (0 ≡ 2) × IsLastEnd n state put). omega (arith, b.0))
      h

in_phases : (image : Image) (n : ℕ) (state : SlotState) (j : ℕ) (put : Put) → settle_plan image n state j put
    → j < 1 + end_phases state
in_phases image n Unused j put h = absurd (⊎_elim (λ (a : (j ≡ 1) × ⊥). a.1) (λ (b : (j ≡ 2) × ⊥). b.1) h)
in_phases image n (Reserved s l) j put h = ⊎_elim
    (λ (a : (j ≡ 1) × IsFirstEnd image n (Reserved s l) put). omega (arith, a.0)) (λ (b : (j ≡ 2) × ⊥). absurd b.1) h
in_phases image n (Abandoned s l) j put h = absurd (⊎_elim (λ (a : (j ≡ 1) × ⊥). a.1) (λ (b : (j ≡ 2) × ⊥). b.1) h)
in_phases image n (Committed s l b k) j put h = ⊎_elim
    (λ (a : (j ≡ 1) × IsFirstEnd image n (Committed s l b k) put). omega (arith, a.0))
    (λ (c : (j ≡ 2) × IsLastEnd n (Committed s l b k) put). omega (arith, c.0)) h
in_phases image n (Done s l b k) j put h = absurd (⊎_elim (λ (a : (j ≡ 1) × ⊥). a.1) (λ (c : (j ≡ 2) × ⊥). c.1) h)

-- settling ends after the slot was ended, or not
pub settled_ended : (n : ℕ) (s0 s4 s5 : DeviceState) (state : SlotState) (ended : Result (Unit {0}) Fault)
    (result : Result Ready Refusal) → Looked s0 s4 → s4.faults ≡ s0.faults
    → Rose s0.reads s4.reads → PutsPhases (end_plan s4.image n state) (end_phases state) s4 s5 ended →
    (IsTrue s0.tells → IsEnding s0.cells s0.image s4.image n state)
    → (IsOk result → PutsPhases (end_plan s4.image n state) (end_phases state) s4 s5 (Ok tt))
    → IfOk result (λ r. r.step ≡ step_of n state) → IfOk result (λ r. r.horizon ≡ n + 1)
    → (IsTrue s0.tells → NamesTarget s0 s5 result) → SettleEnds s0 s5 result → LooksBriefly s0 s5 result
    → (IsTrue s0.tells → LooksBrieflyAgain s0 s5) → Settles s0 s5 result
settled_ended n s0 s4 s5 state ended result looked unfailed read phases ending okay step below targets ends reads
    again = record {
      called = called_then looked.called phases.puts.called;
      unfailed = λ ok. (okay ok).puts.unfailed refl ∙ unfailed;
      read = λ ok. omega (arith, read, phases.puts.called.reads);
      stepped = λ ok tells. omega (arith, looked.stepped tells, (remembers_of phases.puts.called).steps);
      writes = λ tells. writes ended phases tells;
      ends = ends;
      targets = targets;
      reads = reads;
      again = again;
    }
  where
    plan : ℕ → Put → Type 0
    plan = settle_plan s4.image n state

    all : (r : Result (Unit {0}) Fault) → PutsPhases (end_plan s4.image n state) (end_phases state) s4 s5 r
        → PutsPhases (settle_plan s4.image n state) (1 + end_phases state) s0 s5 r
    all (Ok tt) p = phases_append (settle_plan s4.image n state) (end_plan s4.image n state) 1 (end_phases state)
        (shift_to s4.image n state) (shift_back s4.image n state) tt
        (looked_phases (settle_plan s4.image n state) (never_first s4.image n state) s0 s4 looked unfailed) tt tt p
    all (Err fault) p = phases_append_ended (settle_plan s4.image n state) (end_plan s4.image n state) 1
        (end_phases state) (shift_to s4.image n state) (shift_back s4.image n state) tt
        (looked_phases (settle_plan s4.image n state) (never_first s4.image n state) s0 s4 looked unfailed) fault p

    writes : (r : Result (Unit {0}) Fault) → PutsPhases (end_plan s4.image n state) (end_phases state) s4 s5 r
        → IsTrue s0.tells → EndsByPhases s0 s5 result
    writes r p tells =
        let whole = all r p in
        record {
          between = s4.image;
          grows = looked.called.image;
          stands = p.puts.called.image;
          slot = n;
          state = state;
          quiet = λ still. looked.quiet (still_first looked.called.foreign_writes p.puts.called.foreign_writes still);
          ending = λ some. ending tells;
          step = step;
          below = λ some. below;
          sure = λ ok.
              let sure = (all (Ok tt) (okay ok)).sure tells in (
                λ put h. sure.0 put (h.0, in_phases s4.image n state h.0 put h.2, h.2),
                sure.1 (omega arith),
              );
          only = λ still. changes_wider (λ put h. (h.0, omega (arith, h.1, two_phases state), h.2))
              (whole.puts.only tells still);
          crashes = crashes_wider plan (1 + end_phases state) 3 (omega (arith, two_phases state)) whole.puts.called
              whole.crashes;
        }
