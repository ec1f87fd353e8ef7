-- How a call of a device in memory comes: what others do before it, and that it fails by the plan, keep what every call
-- keeps, and so the call itself may be said from where it came on.
use Rattle.std.proofs.Common.{◌≡◌, ◌<◌, ◌^◌, ◌≤◌, ◌==◌, if◌then◌else◌, inl, inr, ⊎_elim, ℕ, Bool, true, false, List, [], ◌∷◌, length, length-append, Option, Some, None, Result, Ok, Err, IsErr, refl, ap, sym, subst, ◌∙◌, arith}
use Rattle.cell_types.specs.Image.{Image, Extends, IsUnchanged, ChangesOnly}
use Rattle.worm_device.specs.State.{DeviceState, Instant}
use Rattle.worm_device.specs.Calls.{Called, Reads, Writes, WriteAnswers, Syncs, LeavesAll}
use Rattle.worm_device.specs.Counts.{next_count, Rose, IsStill}
use Rattle.worm_device.specs.declared.device.Failed.{Failed}
use Rattle.worm_device.specs.declared.device.Written.{Written}
use Rattle.worm_device.specs.declared.device.Written.TheVariants.{Done, Taken}
use Rattle.worm_device.proofs.Counting.{still_first, still_second}
use Rattle.worm_device.proofs.Elapsing.{called_self, called_then, elapsed_since, elapses_of, leaves_all, leaves_of, remembered_since, remembers_of}
use Rattle.worm_device.proofs.Images.{extends_self, extends_then, between_wider, unchanged_then}
use Rattle.worm_memory.specs.Memory.{IsBeforeStep, Memory, at_step, device_of, with_call, with_fault, with_foreign, with_read}
use Rattle.worm_memory.specs.Outcomes.{Outcome, goes_on, fails, foreign_into, after_timed, after_others, after_plan, arrived}
use Rattle.worm_memory.specs.Plans.{CommandPlan, no_plan, names, next_step, is_refused}
use Rattle.worm_memory.specs.Worlds.{blank, world}
use Rattle.worm_memory.specs.declared.change.Change.TheVariants.{Foreign}
use Rattle.worm_memory.specs.declared.moment.Timed.{Timed}
use Rattle.worm_memory.proofs.Calls.{called_counted, called_foreign, foreign_done}
use Rattle.worm_memory.proofs.Worlds.{after_append, blank_below}

-- how the faults stand, where the call has failed or not
abbrev FaultsAre : Bool → ℕ → ℕ → Type 0
FaultsAre true old new = Rose old new
FaultsAre false old new = new ≡ old

-- others have been at work, and then the call failed or not
pub record Comes (old new : DeviceState) (failed : Bool) : Type 0 where
  pub called : Called old new
  pub sure : Extends new.sure old.sure
  pub quiet : IsStill old.foreign_writes new.foreign_writes → IsUnchanged old.image new.image
  pub faults : FaultsAre failed old.faults new.faults
  pub reads : new.reads ≡ old.reads

pub comes_self : (s : DeviceState) → Comes s s false
comes_self s = record {
  called = called_self s;
  sure = extends_self s.sure;
  quiet = λ still cell. refl;
  faults = refl;
  reads = refl;
}

faults_then : (failed : Bool) (a b c : ℕ) → b ≡ a → FaultsAre failed b c → FaultsAre failed a c
faults_then failed a b c e f = subst (λ n. FaultsAre failed n c) e f

pub comes_then : {a b c : DeviceState} (failed : Bool) → Comes a b false → Comes b c failed → Comes a c failed
comes_then {a} {b} {c} failed p q = record {
  called = called_then p.called q.called;
  sure = extends_then q.sure p.sure;
  quiet = λ still. unchanged_then
      (p.quiet (still_first p.called.foreign_writes q.called.foreign_writes still))
      (q.quiet (still_second p.called.foreign_writes q.called.foreign_writes still));
  faults = faults_then failed a.faults b.faults c.faults p.faults q.faults;
  reads = q.reads ∙ p.reads;
}

comes_foreign : (m : Memory) (before at : ℕ) (value : List ℕ) → m.foreign_writes < 2 ^ 64
    → length m.made_in ≡ length m.changes → before ≤ m.steps
    → Comes (at_step before (device_of m)) (at_step before (device_of (with_foreign m at value))) false
comes_foreign m before at value fits one_each less =
    let done = foreign_done m at value fits one_each in
    record {
      called = called_foreign m before at value fits one_each less;
      sure = subst (λ (now : Instant). Extends now.sure (world m.changes).sure)
          (sym (after_append blank m.changes (Foreign at value))) (extends_self (world m.changes).sure);
      quiet = done.quiet;
      faults = refl;
      reads = refl;
    }

comes_fault : (m : Memory) (before : ℕ) → m.faults < 2 ^ 64
    → Comes (at_step before (device_of m)) (at_step before (device_of (with_fault m))) true
comes_fault m before fits = record {
  called = called_counted m before before (next_count m.faults) m.reads (omega arith) (omega arith) (omega arith);
  sure = extends_self (world m.changes).sure;
  quiet = λ still cell. refl;
  faults = omega arith;
  reads = refl;
}

-- how a call of this device has come, with which there are so many steps, and before it there were not more
pub record HasCome (steps : ℕ) (m : Memory) (now : Outcome) : Type 0 where
  pub comes : Comes (device_of m) (at_step m.steps (device_of now.memory)) now.failed
  pub cells : now.memory.cells ≡ m.cells
  pub counted : now.memory.steps ≡ steps
  pub before : m.steps ≤ steps
  pub one_each : length now.memory.made_in ≡ length now.memory.changes
  pub faults : now.memory.faults < 2 ^ 64
  pub foreign_writes : now.memory.foreign_writes < 2 ^ 64

either_way : {A : Type 0} (P : A → Type 0) (b : Bool) (x y : A) → (b ≡ true → P x) → (b ≡ false → P y)
    → P (if b then x else y)
either_way P true x y first second = first refl
either_way P false x y first second = second refl

-- it has not failed yet, and then it fails
come_fails : (n : ℕ) (m : Memory) (now : Outcome) → now.failed ≡ false → HasCome n m now
    → HasCome n m (fails now.memory now.room)
come_fails n m now ongoing come = record {
  comes = comes_then true (subst (λ b. Comes (device_of m) (at_step m.steps (device_of now.memory)) b) ongoing come.comes)
      (comes_fault now.memory m.steps come.faults);
  cells = come.cells;
  counted = come.counted;
  before = come.before;
  one_each = come.one_each;
  faults = omega (arith, come.faults);
  foreign_writes = come.foreign_writes;
}

-- or it goes on as it is
come_on : (n : ℕ) (m : Memory) (now : Outcome) → now.failed ≡ false → HasCome n m now
    → HasCome n m (goes_on now.memory now.room)
come_on n m now ongoing come = record {
  comes = subst (λ b. Comes (device_of m) (at_step m.steps (device_of now.memory)) b) ongoing come.comes;
  cells = come.cells;
  counted = come.counted;
  before = come.before;
  one_each = come.one_each;
  faults = come.faults;
  foreign_writes = come.foreign_writes;
}

-- or somebody else writes
come_written : (n : ℕ) (m : Memory) (now : Outcome) (at room : ℕ) (value : List ℕ) → now.failed ≡ false → HasCome n m now
    → HasCome n m (goes_on (with_foreign now.memory at value) room)
come_written n m now at room value ongoing come = record {
  comes = comes_then false (subst (λ b. Comes (device_of m) (at_step m.steps (device_of now.memory)) b) ongoing come.comes)
      (comes_foreign now.memory m.steps at value come.foreign_writes come.one_each (omega (arith, come.before, come.counted)));
  cells = come.cells;
  counted = come.counted;
  before = come.before;
  one_each = simp (length-append, come.one_each);
  faults = come.faults;
  foreign_writes = omega (arith, come.foreign_writes);
}

come_into : (n : ℕ) (found : Option (List ℕ)) (m : Memory) (now : Outcome) (at : ℕ) (value : List ℕ)
    → now.failed ≡ false → HasCome n m now → HasCome n m (foreign_into found at value now.memory now.room)
come_into n (Some found) m now at value ongoing come = come_on n m now ongoing come
come_into n None m now at value ongoing come =
    either_way (HasCome n m) (now.room == 0) _ _ (λ full. come_fails n m now ongoing come)
    (λ room. come_written n m now at _ value ongoing come)

pub come_timed : (n : ℕ) (is_step : Bool) (timed : Timed) (m : Memory) (now : Outcome) → now.failed ≡ false
    → HasCome n m now → HasCome n m (after_timed is_step timed now.memory now.room)
come_timed n is_step timed m now ongoing come =
    either_way (HasCome n m) (names timed.before is_step now.memory.steps now.memory.calls) _ _
    (λ named. come_into n ((world now.memory.changes).image timed.at) m now timed.at timed.value ongoing come)
    (λ other. come_on n m now ongoing come)

pub come_others : (n : ℕ) (is_step : Bool) (planned : List Timed) (m : Memory) (now : Outcome) → HasCome n m now
    → HasCome n m (after_others is_step planned now)
come_others n is_step [] m now come = come
come_others n is_step (timed ∷ rest) m now come =
    either_way (HasCome n m) now.failed _ _ (λ failed. come)
    (λ ongoing. come_others n is_step rest m (after_timed is_step timed now.memory now.room)
    (come_timed n is_step timed m now ongoing come))

come_plan : (n : ℕ) (refused : Bool) (m : Memory) (now : Outcome) → HasCome n m now → HasCome n m (after_plan refused now)
come_plan n refused m now come =
    either_way (HasCome n m) now.failed _ _ (λ failed. come)
    (λ ongoing. either_way (HasCome n m) refused _ _ (λ planned. come_fails n m now ongoing come) (λ other. come))

not_before : (is_step : Bool) (steps : ℕ) → steps < 2 ^ 64 → steps ≤ next_step is_step steps
not_before true steps fits = omega (arith, fits)
not_before false steps fits = omega arith

-- what is known of a device before each call
pub record IsReadyToCome (m : Memory) : Type 0 where
  pub faults : m.faults < 2 ^ 64
  pub foreign_writes : m.foreign_writes < 2 ^ 64
  pub steps : m.steps < 2 ^ 64
  pub one_each : length m.made_in ≡ length m.changes

-- each call comes so
pub has_come : (is_step : Bool) (m : Memory) (room : ℕ) → IsReadyToCome m
    → HasCome (next_step is_step m.steps) m (arrived is_step m room)
has_come is_step m room ready =
    come_plan (next_step is_step m.steps) (is_refused is_step m.plan m.steps m.calls) m _
    (come_others (next_step is_step m.steps) is_step m.plan.foreign m (goes_on (with_call is_step m) room)
    (record {
      comes = comes_self (device_of m);
      cells = refl;
      counted = refl;
      before = not_before is_step m.steps ready.steps;
      one_each = ready.one_each;
      faults = ready.faults;
      foreign_writes = ready.foreign_writes;
    }))

come_as : (is_step : Bool) (m : Memory) (room : ℕ) (now : Outcome) → now ≡ arrived is_step m room
    → IsReadyToCome m → HasCome (next_step is_step m.steps) m now
come_as is_step m room now arrives ready =
    subst (λ (o : Outcome). HasCome (next_step is_step m.steps) m o) (sym arrives) (has_come is_step m room ready)

-- the steps that came are counted, and else nothing changes
called_stepped : (s : DeviceState) (before : ℕ) → before ≤ s.steps → Called (at_step before s) s
called_stepped s before less = record {
  cells = refl;
  tells = refl;
  begun = refl;
  image = extends_self s.image;
  sure = extends_self s.sure;
  faults = omega arith;
  foreign_writes = omega arith;
  reads = omega arith;
  crashes = elapsed_since (record {
    later = omega arith;
    image = extends_self s.image;
    sure = extends_self s.sure;
    keeps = λ since image le left. left;
    adds = λ since image le left. inl left;
  });
  remembers = remembered_since (record {
    later = omega arith;
    past = λ m earlier. refl;
    last = λ later. absurd (omega (arith, later));
    still = λ same. refl;
    steps = less;
    steps_past = λ m earlier. refl;
    steps_since = λ m since earlier. absurd (omega (arith, since, earlier));
  });
}

comes_stepped : (old new : DeviceState) (before : ℕ) (failed : Bool) → before ≤ new.steps
    → Comes old (at_step before new) failed → Comes old new failed
comes_stepped old new before failed less come = record {
  called = called_then come.called (called_stepped new before less);
  sure = come.sure;
  quiet = come.quiet;
  faults = come.faults;
  reads = come.reads;
}

-- how a call has come, once it is counted
pub comes_as : (is_step : Bool) (m : Memory) (room : ℕ) (now : Outcome) → now ≡ arrived is_step m room
    → IsReadyToCome m → Comes (device_of m) (device_of now.memory) now.failed
comes_as is_step m room now arrives ready =
    let come = come_as is_step m room now arrives ready in
    comes_stepped (device_of m) (device_of now.memory) m.steps now.failed (omega (arith, come.counted, come.before))
    come.comes

-- and before it is, where it is a step
pub comes_before : (m : Memory) (room : ℕ) (now : Outcome) → now ≡ arrived true m room → IsReadyToCome m
    → Comes (device_of m) (at_step m.steps (device_of now.memory)) now.failed
comes_before m room now arrives ready = (come_as true m room now arrives ready).comes

pub is_before_step : (m : Memory) (room : ℕ) (now : Outcome) → now ≡ arrived true m room → IsReadyToCome m
    → IsBeforeStep m.steps now.memory
is_before_step m room now arrives ready =
    let come = come_as true m room now arrives ready in record {
      counted = omega (arith, come.counted);
      below = omega (arith, come.counted, come.before);
    }

-- where nothing is planned, a call comes as it is counted
pub comes_unplanned : (is_step : Bool) (m : Memory) (room : ℕ) → m.plan ≡ no_plan
    → arrived is_step m room ≡ goes_on (with_call is_step m) room
comes_unplanned is_step m room none =
    ap (λ (plan : CommandPlan). after_plan (is_refused is_step plan m.steps m.calls)
    (after_others is_step plan.foreign (goes_on (with_call is_step m) room))) none

-- what a crash may leave in a call that came so: nothing was made sure before
leaves_since : (old mid new : DeviceState) (failed : Bool) → Comes old mid failed → LeavesAll mid new
    → LeavesAll old new
leaves_since old mid new failed come leaves = leaves_all old new (λ image between.
    let left = leaves_of mid new leaves image (between_wider come.sure (extends_self new.image) between) in
    let later = (elapses_of come.called).later in
    ⊎_elim (λ now. inl now) (λ past. inr (past.0, omega (arith, later, past.1), past.2, past.3)) left)

leaves_self : (s : DeviceState) → LeavesAll s s
leaves_self s = leaves_all s s (λ image between. inl between)

only_since : (old mid new : Image) (at : ℕ) (value : List ℕ) → IsUnchanged old mid
    → ChangesOnly at value mid new → ChangesOnly at value old new
only_since old mid new at value same only = λ cell.
    ⊎_elim (λ still. inl (still ∙ same cell)) (λ wrote. inr (wrote.0, sym (same cell) ∙ wrote.1, wrote.2)) (only cell)

-- a write from where it came on
write_answers_since : {old mid new : DeviceState} (at : ℕ) (value : List ℕ) (written : Written) → Comes old mid false
    → Called mid new → WriteAnswers at value mid new written → WriteAnswers at value old new written
write_answers_since at value Done come called did = (blank_below _ _ (come.called.image.keeps at) did.0, did.1)
write_answers_since at value (Taken found) come called did = (
  did.0,
  λ still. sym (come.quiet (still_first come.called.foreign_writes called.foreign_writes still) at)
      ∙ did.1 (still_second come.called.foreign_writes called.foreign_writes still),
)

pub writes_since : {old mid new : DeviceState} (at : ℕ) (value : List ℕ) (result : Result Written Failed)
    → Comes old mid false → Writes at value mid new result → Writes at value old new result
writes_since {old} {mid} {new} at value (Ok written) come writes = record {
  called = called_then come.called writes.called;
  leaves = leaves_since old mid new false come writes.leaves;
  only = λ still. only_since old.image mid.image new.image at value
      (come.quiet (still_first come.called.foreign_writes writes.called.foreign_writes still))
      (writes.only (still_second come.called.foreign_writes writes.called.foreign_writes still));
  answer = λ tells. write_answers_since at value written come writes.called (writes.answer (come.called.tells ∙ tells));
  cause = writes.cause ∙ come.faults;
  count = writes.count ∙ come.reads;
}
writes_since {old} {mid} {new} at value (Err failed) come writes = record {
  called = called_then come.called writes.called;
  leaves = leaves_since old mid new false come writes.leaves;
  only = λ still. only_since old.image mid.image new.image at value
      (come.quiet (still_first come.called.foreign_writes writes.called.foreign_writes still))
      (writes.only (still_second come.called.foreign_writes writes.called.foreign_writes still));
  answer = λ tells. tt;
  cause = subst (λ n. Rose n new.faults) come.faults writes.cause;
  count = writes.count ∙ come.reads;
}

no_error : {A : Type 0} → false ≡ true → A
no_error e = absurd (let clash : false ≡ true = e in cc)

-- a write that came to fail
pub writes_refused : {old new : DeviceState} (at : ℕ) (value : List ℕ) (result : Result Written Failed) → IsErr result
    → Comes old new true → Writes at value old new result
writes_refused {old} {new} at value (Ok written) is come = no_error is
writes_refused {old} {new} at value (Err failed) is come = record {
  called = come.called;
  leaves = leaves_since _ new new true come (leaves_self new);
  only = λ still cell. inl (come.quiet still cell);
  answer = λ tells. tt;
  cause = come.faults;
  count = come.reads;
}

-- a sync from where it came on
pub syncs_since : {old mid new : DeviceState} (result : Result Unit Failed) → Comes old mid false → Syncs mid new result
    → Syncs old new result
syncs_since {old} {mid} {new} (Ok done) come syncs = record {
  called = called_then come.called syncs.called;
  leaves = leaves_since old mid new false come syncs.leaves;
  only = λ still. unchanged_then (come.quiet (still_first come.called.foreign_writes syncs.called.foreign_writes still))
      (syncs.only (still_second come.called.foreign_writes syncs.called.foreign_writes still));
  answer = λ tells. extends_then come.called.image (syncs.answer (come.called.tells ∙ tells));
  step = λ tells. omega (arith, (remembers_of come.called).steps, syncs.step (come.called.tells ∙ tells));
  cause = syncs.cause ∙ come.faults;
  count = syncs.count ∙ come.reads;
}
syncs_since {old} {mid} {new} (Err failed) come syncs = record {
  called = called_then come.called syncs.called;
  leaves = leaves_since old mid new false come syncs.leaves;
  only = λ still. unchanged_then (come.quiet (still_first come.called.foreign_writes syncs.called.foreign_writes still))
      (syncs.only (still_second come.called.foreign_writes syncs.called.foreign_writes still));
  answer = λ tells. tt;
  step = λ tells. tt;
  cause = subst (λ n. Rose n new.faults) come.faults syncs.cause;
  count = syncs.count ∙ come.reads;
}

-- a sync that came to fail
pub syncs_refused : {old new : DeviceState} (result : Result Unit Failed) → IsErr result → Comes old new true
    → Syncs old new result
syncs_refused {old} {new} (Ok done) is come = no_error is
syncs_refused {old} {new} (Err failed) is come = record {
  called = come.called;
  leaves = leaves_since _ new new true come (leaves_self new);
  only = come.quiet;
  answer = λ tells. tt;
  step = λ tells. tt;
  cause = come.faults;
  count = come.reads;
}

-- a read is counted, and then comes
read_counted : (m : Memory) → m.reads < 2 ^ 64 → Called (device_of m) (device_of (with_read m))
read_counted m fits = called_counted m m.steps m.steps m.faults (next_count m.reads) (omega arith) (omega arith) (omega arith)

pub reads_come : (m : Memory) (new : DeviceState) (at : ℕ) → m.reads < 2 ^ 64
    → Comes (device_of (with_read m)) new false
    → Reads at (device_of m) new (Ok (new.image at))
reads_come m new at fits come = record {
  called = called_then (read_counted m fits) come.called;
  leaves = leaves_all (device_of m) new (leaves_of (device_of (with_read m)) new
      (leaves_since _ new new false come (leaves_self new)));
  only = come.quiet;
  answer = λ tells. refl;
  cause = come.faults;
  count = come.reads;
}

pub reads_refused : (m : Memory) (new : DeviceState) (at : ℕ) (result : Result (Option (List ℕ)) Failed)
    → m.reads < 2 ^ 64
    → IsErr result → Comes (device_of (with_read m)) new true → Reads at (device_of m) new result
reads_refused m new at (Ok found) fits is come = no_error is
reads_refused m new at (Err failed) fits is come = record {
  called = called_then (read_counted m fits) come.called;
  leaves = leaves_all (device_of m) new (leaves_of (device_of (with_read m)) new
      (leaves_since _ new new true come (leaves_self new)));
  only = come.quiet;
  answer = λ tells. tt;
  cause = come.faults;
  count = come.reads;
}
