-- The row of calls by which a command has run: it begins with none, and each call that comes is one more.
use Rattle.std.proofs.Common.{◌≡◌, ◌≤◌, ◌-◌, ◌==◌, if◌then◌else◌, ℕ, Bool, true, false, List, [], ◌∷◌, ◌++◌, length, map, Option, Some, None, refl, ap, sym, subst, ◌∙◌, arith}
use Rattle.std.proofs.Math.Logic.{∥∥₁_elim, ∥∥₁_map}
use Rattle.std.proofs.Props.{props}
use Rattle.std.proofs.lemmas.Bool.{cond-false, cond_both, true≢false}
use Rattle.std.proofs.lemmas.List.{append-nil}
use Rattle.worm_device.specs.Counts.{next_count}
use Rattle.worm_memory.specs.Memory.{IsStepOpen, Memory, course_of, with_call, with_change, with_foreign}
use Rattle.worm_memory.specs.Outcomes.{Outcome, goes_on, fails, foreign_into, after_timed, after_others, others_done, arrived}
use Rattle.worm_memory.specs.Plans.{CommandPlan, is_refused, last_changes, names}
use Rattle.worm_memory.specs.Runs.{Course, OneCall, a_read, a_step, a_sync, a_write, is_step_of, own_changes, call_in, counted_call, planned_into, planned_write, planned_writes, after_coming, called_so, after_call, after_calls, IsBegun, HasRun, IsInStep}
use Rattle.worm_memory.specs.Worlds.{world}
use Rattle.worm_memory.specs.declared.change.Change.{Change}
use Rattle.worm_memory.specs.declared.change.Change.TheVariants.{Wrote, Synced}
use Rattle.worm_memory.specs.declared.mark.CallNumbers.{CallNumbers}
use Rattle.worm_memory.specs.declared.mark.Mark.{Mark}
use Rattle.worm_memory.specs.declared.moment.Timed.{Timed}
use Rattle.worm_memory.proofs.Others.{ongoing_before}

-- one call more
one_more : (plan : CommandPlan) (calls : List OneCall) (call : OneCall) (begun : Course)
    → after_calls plan (calls ++ call ∷ []) begun ≡ after_call plan call (after_calls plan calls begun)
one_more plan [] call begun = refl
one_more plan (first ∷ calls) call begun = one_more plan calls call (after_call plan first begun)

run_then : (plan : CommandPlan) (marks : List Mark) (before now : Course) (call : OneCall)
    → now ≡ after_call plan call before → HasRun plan marks before → HasRun plan marks now
run_then plan marks before now call is run = record {
  begun = run.begun;
  begins = run.begins;
  calls = run.calls ++ call ∷ [];
  is = is ∙ ap (after_call plan call) run.is ∙ sym (one_more plan run.calls call run.begun);
}

-- What others write as a call comes, where it finds room.
into_same : (found : Option (List ℕ)) (t : Timed) (m : Memory) (room : ℕ)
    → (foreign_into found t.at t.value m room).failed ≡ false
    → course_of (foreign_into found t.at t.value m room).memory ≡ planned_into found t (course_of m)
into_same (Some there) t m room ongoing = refl
into_same None t m room ongoing =
    cond_both (room == 0) (fails m room) (goes_on (with_foreign m t.at t.value) (room - 1))
    (λ (o : Outcome). o.failed ≡ false → course_of o.memory ≡ planned_into None t (course_of m))
    (λ full so. absurd (true≢false so)) (λ some so. refl) ongoing

named_same : (named : Bool) (found : Option (List ℕ)) (t : Timed) (m : Memory) (room : ℕ)
    → (if named then foreign_into found t.at t.value m room else goes_on m room).failed ≡ false
    → course_of (if named then foreign_into found t.at t.value m room else goes_on m room).memory
    ≡ (if named then planned_into found t (course_of m) else course_of m)
named_same true found t m room ongoing = into_same found t m room ongoing
named_same false found t m room ongoing = refl

others_same : (b : Bool) (rest : List Timed) (now : Outcome) → (after_others b rest now).failed ≡ false
    → course_of (after_others b rest now).memory ≡ planned_writes b rest (course_of now.memory)
others_same b [] now ongoing = refl
others_same b (t ∷ rest) now ongoing =
    let so : now.failed ≡ false = ongoing_before b (t ∷ rest) now ongoing in
    let one = after_timed b t now.memory now.room in
    let goes : after_others b (t ∷ rest) now ≡ after_others b rest one =
    cond-false now.failed now (after_others b rest one) so in
    let still : (after_others b rest one).failed ≡ false = ap (λ (o : Outcome). o.failed) (sym goes) ∙ ongoing in
    ap (λ (o : Outcome). course_of o.memory) goes ∙ others_same b rest one still
    ∙ ap (planned_writes b rest)
    (named_same (names t.before b now.memory.steps now.memory.calls) ((world now.memory.changes).image t.at) t now.memory
    now.room (ongoing_before b rest one still))

-- And what was planned, and the marks, stay.
abbrev Keeps : Memory → Outcome → Type 0
Keeps m now = (now.memory.plan ≡ m.plan) × (now.memory.marks ≡ m.marks)

into_keeps : (found : Option (List ℕ)) (at : ℕ) (value : List ℕ) (m : Memory) (room : ℕ)
    → Keeps m (foreign_into found at value m room)
into_keeps (Some there) at value m room = (refl, refl)
into_keeps None at value m room =
    cond_both (room == 0) (fails m room) (goes_on (with_foreign m at value) (room - 1)) (Keeps m)
    (λ full. (refl, refl)) (λ some. (refl, refl))

timed_keeps : (b : Bool) (t : Timed) (m : Memory) (room : ℕ) → Keeps m (after_timed b t m room)
timed_keeps b t m room =
    cond_both (names t.before b m.steps m.calls) (foreign_into ((world m.changes).image t.at) t.at t.value m room)
    (goes_on m room) (Keeps m) (λ named. into_keeps ((world m.changes).image t.at) t.at t.value m room)
    (λ other. (refl, refl))

others_keep : (b : Bool) (rest : List Timed) (now : Outcome) → Keeps now.memory (after_others b rest now)
others_keep b [] now = (refl, refl)
others_keep b (t ∷ rest) now =
    let one = after_timed b t now.memory now.room in
    let first = timed_keeps b t now.memory now.room in
    let more = others_keep b rest one in
    cond_both now.failed now (after_others b rest one) (Keeps now.memory) (λ failed. (refl, refl))
    (λ ongoing. (more.0 ∙ first.0, more.1 ∙ first.1))

-- a call that changes nothing itself
abbrev quiet : Bool → OneCall
quiet true = a_step
quiet false = a_read

nothing_more : (came : Course) → record came { changes = came.changes ++ []; made_in = came.made_in ++ [] } ≡ came
nothing_more came =
    ap (λ (l : List Change). record came { changes = l; made_in = came.made_in ++ [] }) (append-nil came.changes)
    ∙ ap (λ (l : List CallNumbers). record came { made_in = l }) (append-nil came.made_in)

after_quiet : (b refused : Bool) (came : Course)
    → called_so refused (quiet b) came ≡ (if refused then record came { faults = next_count came.faults } else came)
after_quiet b true came = refl
after_quiet true false came = nothing_more came
after_quiet false false came = nothing_more came

quiet_call : (b : Bool) (plan : CommandPlan) (before : Course)
    → after_call plan (quiet b) before
    ≡ called_so (is_refused b plan before.steps before.calls) (quiet b) (after_coming plan b before)
quiet_call true plan before = refl
quiet_call false plan before = refl

refused_same : (r : Bool) (o : Outcome)
    → course_of (if r then fails o.memory o.room else o).memory
    ≡ (if r then record (course_of o.memory) { faults = next_count o.memory.faults } else course_of o.memory)
refused_same true o = refl
refused_same false o = refl

-- A call that came, where others' writes found room, is one more call of the run.
module _ (b : Bool) (m : Memory) (room : ℕ) (now : Outcome) (is : now ≡ arrived b m room)
    (ongoing : (others_done b m room).failed ≡ false) where
  abbrev others : Outcome
  others = others_done b m room

  abbrev refused : Bool
  refused = is_refused b m.plan m.steps m.calls

  abbrev coming : Course
  coming = after_coming m.plan b (course_of m)

  others_are : course_of others.memory ≡ coming
  others_are = others_same b m.plan.foreign (goes_on (with_call b m) room) ongoing

  now_is : now ≡ (if refused then fails others.memory others.room else others)
  now_is = is ∙ cond-false others.failed others (if refused then fails others.memory others.room else others) ongoing

  course_is : course_of now.memory ≡ (if refused then record coming { faults = next_count coming.faults } else coming)
  course_is = ap (λ (o : Outcome). course_of o.memory) now_is ∙ refused_same refused others
      ∙ ap (λ (came : Course). if refused then record came { faults = next_count came.faults } else came) others_are

  pub arrived_run : HasRun m.plan m.marks (course_of m) → HasRun m.plan m.marks (course_of now.memory)
  arrived_run run = run_then m.plan m.marks (course_of m) (course_of now.memory) (quiet b)
      (course_is ∙ sym (after_quiet b refused coming) ∙ sym (quiet_call b m.plan (course_of m))) run

  unrefused : (r : Bool) → (if r then fails others.memory others.room else others).failed ≡ false → r ≡ false
  unrefused true so = absurd (true≢false so)
  unrefused false so = refl

  -- and one that goes on has changed nothing itself so far
  pub in_step : b ≡ true → now.failed ≡ false → HasRun m.plan m.marks (course_of m)
      → IsInStep now.memory.plan now.memory.marks (course_of now.memory)
  in_step step goes run =
      let not : refused ≡ false = unrefused refused (ap (λ (o : Outcome). o.failed) (sym now_is) ∙ goes) in
      let same : now ≡ others = now_is ∙ cond-false refused (fails others.memory others.room) others not in
      let kept : Keeps m others = others_keep b m.plan.foreign (goes_on (with_call b m) room) in
      let plan : m.plan ≡ now.memory.plan = sym (ap (λ (o : Outcome). o.memory.plan) same ∙ kept.0) in
      let marks : m.marks ≡ now.memory.marks = sym (ap (λ (o : Outcome). o.memory.marks) same ∙ kept.1) in
      subst (λ p. IsInStep p now.memory.marks (course_of now.memory)) plan
      (subst (λ l. IsInStep m.plan l (course_of now.memory)) marks (record {
        before = course_of m;
        ran = run;
        goes_on = ap (λ (x : Bool). is_refused x m.plan m.steps m.calls) (sym step) ∙ not;
        is = course_is ∙ cond-false refused (record coming { faults = next_count coming.faults }) coming not
            ∙ ap (λ (x : Bool). after_coming m.plan x (course_of m)) step;
      }))

-- what a call that does not fail changes itself
abbrev changed_by : OneCall → Course → Course
changed_by call now = record now {
  changes = now.changes ++ own_changes call;
  made_in = now.made_in ++ map (λ change. call_in now) (own_changes call);
}

-- What such a step changes is what it is to change.
own_done : (plan : CommandPlan) (marks : List Mark) (now : Course) (call : OneCall) → is_step_of call ≡ true
    → IsInStep plan marks now → HasRun plan marks (changed_by call now)
own_done plan marks now call step open_step =
    let before = open_step.before in
    let came = after_coming plan true before in
    let goes : is_refused (is_step_of call) plan before.steps before.calls ≡ false =
    ap (λ (x : Bool). is_refused x plan before.steps before.calls) step ∙ open_step.goes_on in
    run_then plan marks before (changed_by call now) call
    (ap (changed_by call) open_step.is
    ∙ ap (λ (x : Bool). called_so false call (after_coming plan x before)) (sym step)
    ∙ ap (λ (r : Bool). called_so r call (after_coming plan (is_step_of call) before)) (sym goes))
    open_step.ran

pub wrote_in_step : (m : Memory) (at : ℕ) (value : List ℕ) → IsStepOpen m
    → ∥ HasRun m.plan m.marks (course_of (with_change m (Wrote at value))) ∥₁
wrote_in_step m at value is_open =
    ∥∥₁_map is_open (own_done m.plan m.marks (course_of m) (a_write at value) refl)

pub synced_in_step : (m : Memory) → IsStepOpen m
    → ∥ HasRun m.plan m.marks (course_of (with_change m Synced)) ∥₁
synced_in_step m is_open = ∥∥₁_map is_open (own_done m.plan m.marks (course_of m) a_sync refl)

-- A command that has made no call is as it began.
write_calls : (named : Bool) (found : Option (List ℕ)) (t : Timed) (now : Course)
    → (if named then planned_into found t now else now).calls ≡ now.calls
write_calls true (Some there) t now = refl
write_calls true None t now = refl
write_calls false found t now = refl

writes_calls : (b : Bool) (rest : List Timed) (now : Course) → (planned_writes b rest now).calls ≡ now.calls
writes_calls b [] now = refl
writes_calls b (t ∷ rest) now =
    writes_calls b rest (planned_write b t now)
    ∙ write_calls (names t.before b now.steps now.calls) ((world now.changes).image t.at) t now

so_calls : (refused : Bool) (call : OneCall) (came : Course) → (called_so refused call came).calls ≡ came.calls
so_calls true call came = refl
so_calls false call came = refl

call_some : (plan : CommandPlan) (call : OneCall) (now : Course) → 1 ≤ (after_call plan call now).calls
call_some plan call now =
    let came = after_coming plan (is_step_of call) now in
    let first = so_calls (is_refused (is_step_of call) plan now.steps now.calls) call came in
    let second = writes_calls (is_step_of call) plan.foreign (counted_call (is_step_of call) now) in
    omega (arith, first, second)

calls_some : (plan : CommandPlan) (calls : List OneCall) (now : Course) → 1 ≤ now.calls
    → 1 ≤ (after_calls plan calls now).calls
calls_some plan [] now some = some
calls_some plan (call ∷ calls) now some = calls_some plan calls (after_call plan call now) (call_some plan call now)

none_made : (plan : CommandPlan) (calls : List OneCall) (begun now : Course) → now ≡ after_calls plan calls begun
    → now.calls ≡ 0 → now ≡ begun
none_made plan [] begun now is none = is
none_made plan (call ∷ calls) begun now is none =
    let some = calls_some plan calls (after_call plan call begun) (call_some plan call begun) in
    let same = ap (λ (c : Course). c.calls) is in
    absurd (omega (arith, some, same, none))

pub begun_still : (plan : CommandPlan) (marks : List Mark) (now : Course) → ∥ HasRun plan marks now ∥₁ → now.calls ≡ 0
    → length now.changes ≡ last_changes marks
begun_still plan marks now ran none =
    ∥∥₁_elim ran (Prim.hlevel props)
    (λ (run : HasRun plan marks now).
    ap (λ (c : Course). length c.changes) (none_made plan run.calls run.begun now run.is none) ∙ run.begins.changes)

-- and may be planned for anew
pub runs_yet : (plan : CommandPlan) (marks : List Mark) (now : Course) → IsBegun marks now → ∥ HasRun plan marks now ∥₁
runs_yet plan marks now begins = ∣ record { begun = now; begins = begins; calls = []; is = refl } ∣₁
