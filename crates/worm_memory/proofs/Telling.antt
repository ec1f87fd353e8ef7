-- What a device's record tells of what was, what it keeps from a command's beginning on, and what follows for a command
-- that goes by its plan.
use Rattle.std.proofs.Common.{◌≡◌, ◌≤◌, ◌<◌, ⊎_elim, ℕ, zero, suc, Bool, true, false, List, [], ◌∷◌, ◌++◌, map, length, take, Option, Some, None, refl, sym, ap, ◌∙◌, arith}
use Rattle.std.proofs.Math.Seq.{take-length}
use Rattle.std.proofs.lemmas.Bool.{cases_lt}
use Rattle.std.proofs.lemmas.List.{append-nil, append_assoc}
use Rattle.worm_device.specs.Calls.{Called}
use Rattle.worm_memory.specs.Device.{ACommandHasRoom, ACrashHasRoom, APlanIsKept, TheCountIsRecorded, memory_of, state_of}
use Rattle.worm_memory.specs.Memory.{BeginningsTell, KeepsPlan, TheRecordTells, course_of}
use Rattle.worm_memory.specs.Plans.{CommandPlan, begun_rows, by_plan_rows, fail_row, foreign_row, mark_row, plan_of, stop_rows}
use Rattle.worm_memory.specs.Worlds.{world}
use Rattle.worm_memory.specs.declared.mark.Mark.{Mark}
use Rattle.worm_memory.specs.declared.memory_device.MemoryDevice.{MemoryDevice}
use Rattle.worm_memory.proofs.Blanks.{some_blank}
use Rattle.worm_memory.proofs.MadeThen.{kept_made}
use Rattle.worm_memory.specs.declared.moment.Moment.{Moment}
use Rattle.worm_memory.specs.declared.moment.Moment.TheVariants.{Step, Call}
use Rattle.worm_memory.specs.declared.moment.Timed.{Timed}

pub record_tells : TheRecordTells
record_tells old new r = ⊎_elim
    (λ (less : length old.changes < length new.changes). r.last less)
    (λ (most : length new.changes ≤ length old.changes).
    let same : length new.changes ≡ length old.changes = omega (arith, most, r.later) in
    let now : take (length old.changes) new.changes ≡ new.changes =
    ap (λ n. take n new.changes) (sym same) ∙ take-length new.changes in
    ap world now ∙ r.still same)
    (cases_lt (length old.changes) (length new.changes))

-- what rows of numbers tell
abbrev collect : {A : Type 0} → (List ℕ → List A) → List (List ℕ) → List A
collect read [] = []
collect read (row ∷ rows) = read row ++ collect read rows

collect_both : {A : Type 0} (read : List ℕ → List A) (xs ys : List (List ℕ))
    → collect read (xs ++ ys) ≡ collect read xs ++ collect read ys
collect_both read [] ys = refl
collect_both read (row ∷ xs) ys =
    ap (λ l. read row ++ l) (collect_both read xs ys)
    ∙ sym (append_assoc (read row) (collect read xs) (collect read ys))

collect_all : {A : Type 0} (read : List ℕ → List A) (write : A → List ℕ) → ((x : A) → read (write x) ≡ x ∷ [])
    → (xs : List A) → collect read (map write xs) ≡ xs
collect_all read write told [] = refl
collect_all read write told (x ∷ xs) =
    ap (λ l. l ++ collect read (map write xs)) (told x) ∙ ap (λ l. x ∷ l) (collect_all read write told xs)

collect_none : {A B : Type 0} (read : List ℕ → List A) (write : B → List ℕ) → ((x : B) → read (write x) ≡ [])
    → (xs : List B) → collect read (map write xs) ≡ []
collect_none read write told [] = refl
collect_none read write told (x ∷ xs) =
    ap (λ l. l ++ collect read (map write xs)) (told x) ∙ collect_none read write told xs

five : {A : Type 0} (read : List ℕ → List A) (marks : List Mark) (plan : CommandPlan) (by_plan : Bool) (a b c d e : List A)
    → collect read (map mark_row marks) ≡ a → collect read (map fail_row plan.fails) ≡ b
    → collect read (stop_rows plan.stop) ≡ c → collect read (map foreign_row plan.foreign) ≡ d
    → collect read (by_plan_rows by_plan) ≡ e
    → collect read (begun_rows marks plan by_plan) ≡ a ++ b ++ c ++ d ++ e
five read marks plan by_plan a b c d e p q r s t =
    let m = map mark_row marks in
    let f = map fail_row plan.fails in
    let o = stop_rows plan.stop in
    let w = map foreign_row plan.foreign in
    let y = by_plan_rows by_plan in
    collect_both read (m ++ f ++ o ++ w) y
    ∙ ap (λ l. l ++ collect read y) (collect_both read (m ++ f ++ o) w
    ∙ ap (λ l. l ++ collect read w) (collect_both read (m ++ f) o
    ∙ ap (λ l. l ++ collect read o) (collect_both read m f)))
    ∙ ap (λ l. l ++ collect read f ++ collect read o ++ collect read w ++ collect read y) p
    ∙ ap (λ l. a ++ l ++ collect read o ++ collect read w ++ collect read y) q
    ∙ ap (λ l. a ++ b ++ l ++ collect read w ++ collect read y) r
    ∙ ap (λ l. a ++ b ++ c ++ l ++ collect read y) s
    ∙ ap (λ l. a ++ b ++ c ++ d ++ l) t

abbrev mark_in : List ℕ → List Mark
mark_in (zero ∷ steps ∷ calls ∷ changes ∷ faults ∷ foreign_writes ∷ reads ∷ []) = record {
  steps = steps;
  calls = calls;
  changes = changes;
  faults = faults;
  foreign_writes = foreign_writes;
  reads = reads;
} ∷ []
mark_in row = []

abbrev fail_in : List ℕ → List Moment
fail_in (suc zero ∷ zero ∷ number ∷ []) = Step number ∷ []
fail_in (suc zero ∷ suc zero ∷ number ∷ []) = Call number ∷ []
fail_in row = []

abbrev stop_in : List ℕ → List Moment
stop_in (suc (suc zero) ∷ zero ∷ number ∷ []) = Step number ∷ []
stop_in (suc (suc zero) ∷ suc zero ∷ number ∷ []) = Call number ∷ []
stop_in row = []

abbrev timed_in : List ℕ → List Timed
timed_in (suc (suc (suc zero)) ∷ zero ∷ number ∷ at ∷ value) =
    record { before = Step number; at = at; value = value } ∷ []
timed_in (suc (suc (suc zero)) ∷ suc zero ∷ number ∷ at ∷ value) =
    record { before = Call number; at = at; value = value } ∷ []
timed_in row = []

abbrev by_plan_in : List ℕ → List Bool
by_plan_in (suc (suc (suc (suc zero))) ∷ []) = true ∷ []
by_plan_in row = []

no_stop : {A : Type 0} (read : List ℕ → List A) → ((n m : ℕ) → read (2 ∷ n ∷ m ∷ []) ≡ []) → (stop : Option Moment)
    → collect read (stop_rows stop) ≡ []
no_stop read none None = refl
no_stop read none (Some (Step n)) = ap (λ l. l ++ []) (none 0 n)
no_stop read none (Some (Call n)) = ap (λ l. l ++ []) (none 1 n)

no_by_plan : {A : Type 0} (read : List ℕ → List A) → read (4 ∷ []) ≡ [] → (by_plan : Bool)
    → collect read (by_plan_rows by_plan) ≡ []
no_by_plan read none false = refl
no_by_plan read none true = ap (λ l. l ++ []) none

read_fail : (m : Moment) → fail_in (fail_row m) ≡ m ∷ []
read_fail (Step n) = refl
read_fail (Call n) = refl

read_timed : (before : Moment) (at : ℕ) (value : List ℕ)
    → timed_in (foreign_row (record { before = before; at = at; value = value }))
    ≡ record { before = before; at = at; value = value } ∷ []
read_timed (Step n) at value = refl
read_timed (Call n) at value = refl

abbrev stops : Option Moment → List Moment
stops None = []
stops (Some m) = m ∷ []

read_stop : (stop : Option Moment) → collect stop_in (stop_rows stop) ≡ stops stop
read_stop None = refl
read_stop (Some (Step n)) = refl
read_stop (Some (Call n)) = refl

abbrev tests : Bool → List Bool
tests false = []
tests true = true ∷ []

read_by_plan : (by_plan : Bool) → collect by_plan_in (by_plan_rows by_plan) ≡ tests by_plan
read_by_plan false = refl
read_by_plan true = refl

module _ (marks : List Mark) (plan : CommandPlan) (by_plan : Bool) where
  marks_told : collect mark_in (begun_rows marks plan by_plan) ≡ marks
  marks_told = five mark_in marks plan by_plan marks [] [] [] []
      (collect_all mark_in mark_row (λ m. refl) marks)
      (collect_none mark_in fail_row no_mark plan.fails)
      (no_stop mark_in (λ n m. refl) plan.stop)
      (collect_none mark_in foreign_row (λ t. refl) plan.foreign)
      (no_by_plan mark_in refl by_plan)
      ∙ append-nil (marks ++ [] ++ [] ++ []) ∙ append-nil (marks ++ [] ++ []) ∙ append-nil (marks ++ [])
      ∙ append-nil marks
    where
      no_mark : (m : Moment) → mark_in (fail_row m) ≡ []
      no_mark (Step n) = refl
      no_mark (Call n) = refl

  fails_told : collect fail_in (begun_rows marks plan by_plan) ≡ plan.fails
  fails_told = five fail_in marks plan by_plan [] plan.fails [] [] []
      (collect_none fail_in mark_row (λ m. refl) marks)
      (collect_all fail_in fail_row read_fail plan.fails)
      (no_stop fail_in (λ n m. refl) plan.stop)
      (collect_none fail_in foreign_row (λ t. refl) plan.foreign)
      (no_by_plan fail_in refl by_plan)
      ∙ append-nil (plan.fails ++ [] ++ []) ∙ append-nil (plan.fails ++ []) ∙ append-nil plan.fails

  stops_told : collect stop_in (begun_rows marks plan by_plan) ≡ stops plan.stop
  stops_told = five stop_in marks plan by_plan [] [] (stops plan.stop) [] []
      (collect_none stop_in mark_row (λ m. refl) marks)
      (collect_none stop_in fail_row no_fail plan.fails)
      (read_stop plan.stop)
      (collect_none stop_in foreign_row (λ t. refl) plan.foreign)
      (no_by_plan stop_in refl by_plan)
      ∙ append-nil (stops plan.stop ++ []) ∙ append-nil (stops plan.stop)
    where
      no_fail : (m : Moment) → stop_in (fail_row m) ≡ []
      no_fail (Step n) = refl
      no_fail (Call n) = refl

  foreign_told : collect timed_in (begun_rows marks plan by_plan) ≡ plan.foreign
  foreign_told = five timed_in marks plan by_plan [] [] [] plan.foreign []
      (collect_none timed_in mark_row (λ m. refl) marks)
      (collect_none timed_in fail_row no_fail plan.fails)
      (no_stop timed_in (λ n m. refl) plan.stop)
      (collect_all timed_in foreign_row (λ t. read_timed t.before t.at t.value) plan.foreign)
      (no_by_plan timed_in refl by_plan)
      ∙ append-nil plan.foreign
    where
      no_fail : (m : Moment) → timed_in (fail_row m) ≡ []
      no_fail (Step n) = refl
      no_fail (Call n) = refl

  by_plan_told : collect by_plan_in (begun_rows marks plan by_plan) ≡ tests by_plan
  by_plan_told = five by_plan_in marks plan by_plan [] [] [] [] (tests by_plan)
      (collect_none by_plan_in mark_row (λ m. refl) marks)
      (collect_none by_plan_in fail_row no_fail plan.fails)
      (no_stop by_plan_in (λ n m. refl) plan.stop)
      (collect_none by_plan_in foreign_row (λ t. refl) plan.foreign)
      (read_by_plan by_plan)
    where
      no_fail : (m : Moment) → by_plan_in (fail_row m) ≡ []
      no_fail (Step n) = refl
      no_fail (Call n) = refl

one_stop : (a b : Option Moment) → stops a ≡ stops b → a ≡ b
one_stop None None same = refl
one_stop None (Some m) same = absurd (let e : [] ≡ m ∷ [] = same in cc)
one_stop (Some m) None same = absurd (let e : m ∷ [] ≡ [] = same in cc)
one_stop (Some m) (Some n) same = ap first same
  where
    first : List Moment → Option Moment
    first [] = None
    first (x ∷ xs) = Some x

one_test : (a b : Bool) → tests a ≡ tests b → a ≡ b
one_test false false same = refl
one_test false true same = absurd (let e : [] ≡ true ∷ [] = same in cc)
one_test true false same = absurd (let e : true ∷ [] ≡ [] = same in cc)
one_test true true same = refl

abbrev plan_from : List Moment → Option Moment → List Timed → CommandPlan
plan_from fails stop foreign = record { fails = fails; stop = stop; foreign = foreign }

one_plan : (p q : CommandPlan) → p.fails ≡ q.fails → p.stop ≡ q.stop → p.foreign ≡ q.foreign → p ≡ q
one_plan p q fails stop foreign =
    ap (λ l. plan_from l p.stop p.foreign) fails ∙ ap (λ o. plan_from q.fails o p.foreign) stop
    ∙ ap (λ l. plan_from q.fails q.stop l) foreign

pub beginnings_tell : BeginningsTell
beginnings_tell old new same = (
  sym (marks_told new.marks new.plan new.by_plan) ∙ ap (collect mark_in) same
      ∙ marks_told old.marks old.plan old.by_plan,
  one_plan new.plan old.plan
      (sym (fails_told new.marks new.plan new.by_plan) ∙ ap (collect fail_in) same
      ∙ fails_told old.marks old.plan old.by_plan)
      (one_stop new.plan.stop old.plan.stop
      (sym (stops_told new.marks new.plan new.by_plan) ∙ ap (collect stop_in) same
      ∙ stops_told old.marks old.plan old.by_plan))
      (sym (foreign_told new.marks new.plan new.by_plan) ∙ ap (collect timed_in) same
      ∙ foreign_told old.marks old.plan old.by_plan),
  one_test new.by_plan old.by_plan
      (sym (by_plan_told new.marks new.plan new.by_plan) ∙ ap (collect by_plan_in) same
      ∙ by_plan_told old.marks old.plan old.by_plan),
)

-- whether a command goes by its plan is kept too
pub still_by_plan : (begun now : MemoryDevice) → Called (state_of begun) (state_of now)
    → (memory_of begun).by_plan ≡ true → now.by_plan ≡ true
still_by_plan begun now called by_plan = (beginnings_tell (memory_of begun) (memory_of now) called.begun).2 ∙ by_plan

-- a device whose command goes by its plan
pub keeps_plan : (d : MemoryDevice) → d.by_plan ≡ true → KeepsPlan (memory_of d)
keeps_plan d is = record {
  run = d.ran is;
  none = d.none_failed is;
  most = d.most_failed is;
  some = d.some_failed is;
  unwritten = d.none_written is;
  few = d.most_written is;
  named = d.named is;
  made = kept_made (plan_of d.schedule) d.marks.items (course_of (memory_of d)) (d.ran is);
  stands = d.stands is;
}

pub plan_is_kept : APlanIsKept
plan_is_kept begun now called by_plan =
    let same = beginnings_tell (memory_of begun) (memory_of now) called.begun in
    let still = still_by_plan begun now called by_plan in (
      same.0,
      same.1,
      keeps_plan now still,
    )

pub command_has_room : ACommandHasRoom
command_has_room begun now called by_plan =
    let room = now.roomy (now.backed (still_by_plan begun now called by_plan)) in (
      λ at inside free.
          let one = some_blank now.cells.items at (omega (arith, inside)) (now.holds at ∙ free) in
          omega (arith, one, room),
      λ some. let same = ap length now.are_unsure in omega (arith, some, same, room),
    )

pub count_is_recorded : TheCountIsRecorded
count_is_recorded device = device.counted

pub crash_has_room : ACrashHasRoom
crash_has_room device = let same = ap length device.are_unsure in omega (arith, same, device.few)
