-- Along a run each change that the command makes itself takes a step of its own, what others have written stands, and
-- nobody else is counted where nobody else wrote.
use Rattle.std.proofs.Common.{◌≡◌, ◌≤◌, ◌<◌, ◌+◌, ◌-◌, ◌^◌, ◌==◌, ◌&&◌, ◌||◌, ◌⊎◌, if◌then◌else◌, ⊎_elim, inl, inr, is_none, ℕ, Bool, true, false, List, [], ◌∷◌, ◌++◌, take, drop, length, length-append, length-drop, take-add, Option, Some, None, Contains, eqb-true, refl, ap, sym, subst, ◌∙◌, arith}
use Rattle.std.specs.List.{AllByRecursion, list_all, list_any}
use Rattle.std.proofs.lemmas.List.Elements.{All-contains, All-from_recursion}
use Rattle.std.proofs.Math.Logic.{∥∥₁_elim}
use Rattle.std.proofs.Math.Seq.{take-length}
use Rattle.std.proofs.Props.{props}
use Rattle.std.proofs.lemmas.Bool.{and_from, and_parts, cases_Bool, cond_both}
use Rattle.std.proofs.lemmas.Bool.Decides.{nat_tests}
use Rattle.std.proofs.lemmas.List.{append-nil, append_assoc, drop-drop, drop-take}
use Rattle.std.proofs.lemmas.List.Folds.{list_all-append, list_any-append}
use Rattle.worm_memory.specs.Moments.{is_others_write, made_before, made_if_blank, stood_at}
use Rattle.worm_memory.specs.OwnChanges.{is_of_call, own_changes_in, changes_since, made_since, IsBelowMoment, IsNumbered, IsWrittenEarly, NoneIsUncounted, PlannedWritesComeFirst, TakesSteps, OwnChangesTakeSteps, ComePast}
use Rattle.worm_memory.specs.Memory.{KeepsPlan, Memory, course_of}
use Rattle.worm_memory.specs.Plans.{CommandPlan, calls_for, is_called_for, is_past, is_reached, last_changes, last_foreign_writes, names, next_step}
use Rattle.worm_memory.specs.Runs.{Course, OneCall, a_read, a_step, a_sync, a_write, is_step_of, planned_into, planned_write, planned_writes, after_coming, called_so, after_call, after_calls, HasRun}
use Rattle.worm_memory.specs.Worlds.{foreign_writes_in, world}
use Rattle.worm_memory.specs.declared.change.Change.{Change}
use Rattle.worm_memory.specs.declared.change.Change.TheVariants.{Wrote, Foreign, Synced, Lost, Crashed}
use Rattle.worm_memory.specs.declared.mark.CallNumbers.{CallNumbers}
use Rattle.worm_memory.specs.declared.mark.Mark.{Mark}
use Rattle.worm_memory.specs.declared.moment.Moment.{Moment}
use Rattle.worm_memory.specs.declared.moment.Moment.TheVariants.{Step, Call}
use Rattle.worm_memory.specs.declared.moment.Timed.{Timed}
use Rattle.worm_memory.proofs.Worlds.{image_grows, image_is, written_here, Adds}
use Rattle.worm_device.specs.Counts.{Rose}
use Rattle.worm_memory.proofs.Accounts.{ordered_next, step_later}
use Rattle.worm_memory.proofs.LaterSteps.{ComeFrom, Rises, come_from, later_all, later_before, own_calls, rises_call}
use Rattle.worm_memory.proofs.MadeThen.{one_added, added, Noted, changes_of, numbers_of, changes_more, before_in, before_more, own_of, Tells, tells_first, s', c', k, refused, extra, theirs, begun_call, noted', steps_are, tells_call, noted_call, noted_first, begun_dropped}

own_both : (xs ys : List Change) → own_changes_in (xs ++ ys) ≡ own_changes_in xs + own_changes_in ys
own_both [] ys = omega arith
own_both (Wrote at value ∷ xs) ys = omega (arith, own_both xs ys)
own_both (Foreign at value ∷ xs) ys = own_both xs ys
own_both (Synced ∷ xs) ys = omega (arith, own_both xs ys)
own_both (Lost at ∷ xs) ys = own_both xs ys
own_both (Crashed ∷ xs) ys = own_both xs ys

-- what others write is none of them
own_one : (named : Bool) (found : Option (List ℕ)) (t : Timed) (rest : List Change)
    → own_changes_in (one_added named found t ++ rest) ≡ own_changes_in rest
own_one false found t rest = refl
own_one true (Some there) t rest = refl
own_one true None t rest = refl

own_added : (b : Bool) (rest : List Timed) (x : Course) → own_changes_in (added b rest x) ≡ 0
own_added b [] x = refl
own_added b (t ∷ rest) x =
    own_one (names t.before b x.steps x.calls) ((world x.changes).image t.at) t (added b rest (planned_write b t x))
    ∙ own_added b rest (planned_write b t x)

abbrev one_for : Bool → ℕ
one_for true = 1
one_for false = 0

own_call : (refused : Bool) (call : OneCall) → own_changes_in (own_of refused call) ≤ one_for (is_step_of call)
own_call true a_read = omega arith
own_call true a_step = omega arith
own_call true (a_write at value) = omega arith
own_call true a_sync = omega arith
own_call false a_read = omega arith
own_call false a_step = omega arith
own_call false (a_write at value) = omega arith
own_call false a_sync = omega arith

-- all of them are made by calls
calls_one : (named : Bool) (found : Option (List ℕ)) (t : Timed) (rest : List Change)
    → list_all is_of_call rest ≡ true → list_all is_of_call (one_added named found t ++ rest) ≡ true
calls_one false found t rest is = is
calls_one true (Some there) t rest is = is
calls_one true None t rest is = is

calls_added : (b : Bool) (rest : List Timed) (x : Course) → list_all is_of_call (added b rest x) ≡ true
calls_added b [] x = refl
calls_added b (t ∷ rest) x =
    calls_one (names t.before b x.steps x.calls) ((world x.changes).image t.at) t (added b rest (planned_write b t x))
    (calls_added b rest (planned_write b t x))

calls_call : (refused : Bool) (call : OneCall) → list_all is_of_call (own_of refused call) ≡ true
calls_call true call = refl
calls_call false a_read = refl
calls_call false a_step = refl
calls_call false (a_write at value) = refl
calls_call false a_sync = refl

calls_both : (xs ys : List Change) → list_all is_of_call xs ≡ true → list_all is_of_call ys ≡ true
    → list_all is_of_call (xs ++ ys) ≡ true
calls_both xs ys p q =
    list_all-append is_of_call xs ys ∙ and_from (list_all is_of_call xs) (list_all is_of_call ys) p q

-- those that were made before a moment are not more
own_before : (m : Moment) (noted : Noted) → own_changes_in (before_in m noted) ≤ own_changes_in (changes_of noted)
own_before m [] = omega arith
own_before m (p ∷ noted) =
    cond_both (is_past m p.1.steps p.1.calls) [] (p.0 ∷ before_in m noted)
    (λ (l : List Change). own_changes_in l ≤ own_changes_in (p.0 ∷ changes_of noted)) (λ past. omega arith)
    (λ not. behind p.0 (before_in m noted) (changes_of noted) (own_before m noted))
  where
    behind : (c : Change) (xs ys : List Change) → own_changes_in xs ≤ own_changes_in ys
        → own_changes_in (c ∷ xs) ≤ own_changes_in (c ∷ ys)
    behind (Wrote at value) xs ys le = omega (arith, le)
    behind (Foreign at value) xs ys le = le
    behind Synced xs ys le = omega (arith, le)
    behind (Lost at) xs ys le = le
    behind Crashed xs ys le = le

-- Someone's write into this cell is among these changes, so that what holds of each of them holds of it.
abbrev HasForeign : List Change → ℕ → List ℕ → Type 0
HasForeign changes at value = (P : Change → Bool) → list_all P changes ≡ true → P (Foreign at value) ≡ true

-- Where somebody else has written the cell, what stands there is what was written so.
abbrev AreTold : ℕ → List Change → Option (List ℕ) → Type 0
AreTold at changes found = list_any (is_others_write at) changes ≡ true
    → (value : List ℕ) × HasForeign changes at value × (found ≡ Some value)

has_left : (xs ys : List Change) (at : ℕ) (value : List ℕ) → HasForeign xs at value → HasForeign (xs ++ ys) at value
has_left xs ys at value has P all =
    has P ((and_parts (list_all P xs) (list_all P ys) (sym (list_all-append P xs ys) ∙ all)).0)

false_true : false ≡ true → ⊥
false_true e = cc

-- more changes, of which none is somebody else's write of the cell
any_first : (f : Change → Bool) (xs ys : List Change) → list_any f ys ≡ false → list_any f (xs ++ ys) ≡ true
    → list_any f xs ≡ true
any_first f xs ys none is = either (list_any f xs) (list_any f ys) none (sym (list_any-append f xs ys) ∙ is)
  where
    either : (a b : Bool) → b ≡ false → (a || b) ≡ true → a ≡ true
    either true b not so = refl
    either false b not so = absurd (false_true (sym not ∙ so))

told_grows : (at : ℕ) (cs more : List Change) (found found' : Option (List ℕ))
    → ((value : List ℕ) → found ≡ Some value → found' ≡ Some value)
    → list_any (is_others_write at) more ≡ false → AreTold at cs found → AreTold at (cs ++ more) found'
told_grows at cs more found found' grows none so any =
    let was = so (any_first (is_others_write at) cs more none any) in
    (was.0, has_left cs more at was.0 was.1, grows was.0 was.2)

row_grows : (changes : List Change) (c : Change) → Adds c → (at : ℕ) (value : List ℕ)
    → (world changes).image at ≡ Some value → (world (changes ++ c ∷ [])).image at ≡ Some value
row_grows changes c adds at value is = image_is changes c at ∙ (image_grows (world changes) c adds).keeps at value is

told_nothing : (at : ℕ) (cs changes : List Change) → AreTold at cs ((world changes).image at)
    → AreTold at (cs ++ []) ((world (changes ++ [])).image at)
told_nothing at cs changes so =
    subst (λ (l : List Change). AreTold at l ((world (changes ++ [])).image at)) (sym (append-nil cs))
    (subst (λ (l : List Change). AreTold at cs ((world l).image at)) (sym (append-nil changes)) so)

-- one that the command makes itself
told_own : (at : ℕ) (refused : Bool) (call : OneCall) (cs changes : List Change)
    → AreTold at cs ((world changes).image at)
    → AreTold at (cs ++ own_of refused call) ((world (changes ++ own_of refused call)).image at)
told_own at true call cs changes so = told_nothing at cs changes so
told_own at false a_read cs changes so = told_nothing at cs changes so
told_own at false a_step cs changes so = told_nothing at cs changes so
told_own at false (a_write to value) cs changes so =
    told_grows at cs (Wrote to value ∷ []) ((world changes).image at) ((world (changes ++ Wrote to value ∷ [])).image at)
    (row_grows changes (Wrote to value) tt at) refl so
told_own at false a_sync cs changes so =
    told_grows at cs (Synced ∷ []) ((world changes).image at) ((world (changes ++ Synced ∷ [])).image at)
    (row_grows changes Synced tt at) refl so

-- one that somebody else makes, in a blank cell
told_theirs : (at to : ℕ) (value : List ℕ) (cs changes : List Change) → (world changes).image to ≡ None
    → AreTold at cs ((world changes).image at)
    → AreTold at (cs ++ Foreign to value ∷ []) ((world (changes ++ Foreign to value ∷ [])).image at)
told_theirs at to value cs changes blank so = ⊎_elim
    (λ (here : (at == to) ≡ true).
    let same : to ≡ at = sym (eqb-true at to here) in
    subst (λ n. AreTold n (cs ++ Foreign to value ∷ []) ((world (changes ++ Foreign to value ∷ [])).image n)) same
    (λ any. (
      value,
      λ P all. head_is P ((and_parts (list_all P cs) (list_all P (Foreign to value ∷ []))
          (sym (list_all-append P cs (Foreign to value ∷ [])) ∙ all)).1),
      image_is changes (Foreign to value) to ∙ written_here (world changes).image to value blank,
    )))
    (λ (elsewhere : (at == to) ≡ false).
    told_grows at cs (Foreign to value ∷ []) ((world changes).image at)
    ((world (changes ++ Foreign to value ∷ [])).image at)
    (row_grows changes (Foreign to value) tt at) (ap (λ (b : Bool). b || false) elsewhere) so)
    (cases_Bool (at == to))
  where
    head_is : (P : Change → Bool) → (P (Foreign to value) && true) ≡ true → P (Foreign to value) ≡ true
    head_is P both = (and_parts (P (Foreign to value)) true both).0

told_one : (at : ℕ) (named : Bool) (found : Option (List ℕ)) (t : Timed) (x : Course) (cs : List Change)
    → (world x.changes).image t.at ≡ found → AreTold at cs ((world x.changes).image at)
    → AreTold at (cs ++ one_added named found t)
    ((world (if named then planned_into found t x else x).changes).image at)
told_one at false found t x cs is so = subst (λ l. AreTold at l ((world x.changes).image at)) (sym (append-nil cs)) so
told_one at true (Some there) t x cs is so =
    subst (λ l. AreTold at l ((world x.changes).image at)) (sym (append-nil cs)) so
told_one at true None t x cs is so = told_theirs at t.at t.value cs x.changes is so

told_added : (at : ℕ) (b : Bool) (rest : List Timed) (x : Course) (cs : List Change)
    → AreTold at cs ((world x.changes).image at)
    → AreTold at (cs ++ added b rest x) ((world (planned_writes b rest x).changes).image at)
told_added at b [] x cs so = subst (λ l. AreTold at l ((world x.changes).image at)) (sym (append-nil cs)) so
told_added at b (t ∷ rest) x cs so =
    let named = names t.before b x.steps x.calls in
    let found = (world x.changes).image t.at in
    let next = planned_write b t x in
    subst (λ l. AreTold at l ((world (planned_writes b rest next).changes).image at))
    (append_assoc cs (one_added named found t) (added b rest next))
    (told_added at b rest next (cs ++ one_added named found t) (told_one at named found t x cs refl so))

-- where nobody else writes, nobody else is counted
foreign_both : (xs ys : List Change) → foreign_writes_in (xs ++ ys) ≡ foreign_writes_in xs + foreign_writes_in ys
foreign_both [] ys = omega arith
foreign_both (Wrote at value ∷ xs) ys = foreign_both xs ys
foreign_both (Foreign at value ∷ xs) ys = omega (arith, foreign_both xs ys)
foreign_both (Synced ∷ xs) ys = foreign_both xs ys
foreign_both (Lost at ∷ xs) ys = foreign_both xs ys
foreign_both (Crashed ∷ xs) ys = foreign_both xs ys

still_one : (named : Bool) (found : Option (List ℕ)) (t : Timed) (x : Course) (rest : List Change)
    → foreign_writes_in (one_added named found t ++ rest) ≡ 0
    → (foreign_writes_in rest ≡ 0)
    × ((if named then planned_into found t x else x).foreign_writes ≡ x.foreign_writes)
still_one false found t x rest none = (none, refl)
still_one true (Some there) t x rest none = (none, refl)
still_one true None t x rest none = absurd (omega (arith, none))

still_added : (b : Bool) (rest : List Timed) (x : Course) → foreign_writes_in (added b rest x) ≡ 0
    → (planned_writes b rest x).foreign_writes ≡ x.foreign_writes
still_added b [] x none = refl
still_added b (t ∷ rest) x none =
    let next = planned_write b t x in
    let first = still_one (names t.before b x.steps x.calls) ((world x.changes).image t.at) t x (added b rest next) none in
    still_added b rest next first.0 ∙ first.1

so_still : (refused : Bool) (call : OneCall) (came : Course)
    → (called_so refused call came).foreign_writes ≡ came.foreign_writes
so_still true call came = refl
so_still false call came = refl

so_changes : (refused : Bool) (call : OneCall) (came : Course)
    → (called_so refused call came).changes ≡ came.changes ++ own_of refused call
so_changes true call came = sym (append-nil came.changes)
so_changes false call came = refl

-- What a run tells besides.
record Counts (b x : Course) (noted : Noted) : Type 0 where
  pub calls : list_all is_of_call (changes_of noted) ≡ true
  pub most : x.steps < 2 ^ 64 - 1 → own_changes_in (changes_of noted) ≤ x.steps
  pub before : (m : Moment) → IsNumbered m → IsBelowMoment (own_changes_in (before_in m noted)) m
  pub told : (at : ℕ) → AreTold at (changes_of noted) ((world x.changes).image at)
  pub rises : Rises 0 x.steps (own_calls noted)
  pub still : foreign_writes_in (changes_of noted) ≡ 0 → x.foreign_writes ≡ b.foreign_writes

counts_first : (b : Course) → Counts b b []
counts_first b = record {
  calls = refl;
  most = λ below. omega arith;
  before = none_before;
  told = λ at any. absurd (false_true any);
  rises = omega arith;
  still = λ none. refl;
}
  where
    none_before : (m : Moment) → IsNumbered m → IsBelowMoment 0 m
    none_before (Step n) is = omega (arith, is.0)
    none_before (Call n) is = omega (arith, is.0)

-- the moment has not come, so that its number is past those of the call
far : (s c own : ℕ) (m : Moment) → s ≤ c → (s < 2 ^ 64 - 1 → own ≤ s) → is_past m s c ≡ false → IsNumbered m
    → IsBelowMoment own m
far s c own (Step n) ordered most not is = below (most (omega (arith, less, is.1)))
  where
    less : s < n
    less = grind (arith, nat_tests)

    below : own ≤ s → own < n
    below le = omega (arith, le, less)
far s c own (Call n) ordered most not is = below (most (omega (arith, ordered, less, is.1)))
  where
    less : c < n
    less = grind (arith, nat_tests)

    below : own ≤ s → own < n
    below le = omega (arith, le, less, ordered)

below_less : (a b : ℕ) (m : Moment) → a ≤ b → IsBelowMoment b m → IsBelowMoment a m
below_less a b (Step n) le is = omega (arith, le, is)
below_less a b (Call n) le is = omega (arith, le, is)

next_most : (call : OneCall) (s old own : ℕ) → own ≤ one_for (is_step_of call) → (s < 2 ^ 64 - 1 → old ≤ s)
    → next_step (is_step_of call) s < 2 ^ 64 - 1 → old + own ≤ next_step (is_step_of call) s
next_most a_read s old own le was below = omega (arith, le, was below)
next_most a_step s old own le was below = omega (arith, le, was (omega (arith, below)), below)
next_most (a_write at value) s old own le was below = omega (arith, le, was (omega (arith, below)), below)
next_most a_sync s old own le was below = omega (arith, le, was (omega (arith, below)), below)

-- One call more.
module _ (p : CommandPlan) (b x : Course) (call : OneCall) (so : Tells p b x) (counts : Counts b x so.noted) where
  abbrev after : Course
  after = after_call p call x

  abbrev others : List Change
  others = theirs p b x call so

  abbrev own : List Change
  own = own_of (refused p b x call so) call

  abbrev more : List Change
  more = extra p b x call so

  abbrev steps' : ℕ
  steps' = s' p b x call so

  abbrev calls' : ℕ
  calls' = c' p b x call so

  abbrev noted : Noted
  noted = noted' p b x call so

  own_more : own_changes_in more ≤ one_for (is_step_of call)
  own_more =
      omega (
        arith,
        own_both others own,
        own_added (is_step_of call) p.foreign (begun_call p b x call so),
        own_call (refused p b x call so) call,
      )

  changes_are : changes_of noted ≡ changes_of so.noted ++ more
  changes_are = changes_more (k p b x call so) more so.noted

  most_after : steps' < 2 ^ 64 - 1 → own_changes_in (changes_of noted) ≤ steps'
  most_after below =
      let all = ap own_changes_in changes_are ∙ own_both (changes_of so.noted) more in
      let le = next_most call x.steps (own_changes_in (changes_of so.noted)) (own_changes_in more) own_more counts.most
      below in
      omega (arith, all, le)

  ordered_after : steps' ≤ calls'
  ordered_after = ordered_next (is_step_of call) x.steps x.calls so.ordered so.fits

  before_after : (m : Moment) → IsNumbered m → IsBelowMoment (own_changes_in (before_in m noted)) m
  before_after m is = ⊎_elim
      (λ (past : is_past m steps' calls' ≡ true).
      subst (λ (l : List Change). IsBelowMoment (own_changes_in l) m)
      (sym (before_more m (k p b x call so) more so.noted past)) (counts.before m is))
      (λ (not : is_past m steps' calls' ≡ false).
      below_less (own_changes_in (before_in m noted)) (own_changes_in (changes_of noted)) m (own_before m noted)
      (far steps' calls' (own_changes_in (changes_of noted)) m ordered_after most_after not is))
      (cases_Bool (is_past m steps' calls'))

  told_after : (at : ℕ) → AreTold at (changes_of noted) ((world after.changes).image at)
  told_after at =
      let came = after_coming p (is_step_of call) x in
      let first = told_added at (is_step_of call) p.foreign (begun_call p b x call so) (changes_of so.noted)
      (counts.told at) in
      let second = told_own at (refused p b x call so) call (changes_of so.noted ++ others) came.changes first in
      subst (λ (l : List Change). AreTold at l ((world after.changes).image at))
      (append_assoc (changes_of so.noted) others own ∙ sym changes_are)
      (subst (λ (l : List Change). AreTold at ((changes_of so.noted ++ others) ++ own) ((world l).image at))
      (sym (so_changes (refused p b x call so) call came)) second)

  still_after : foreign_writes_in (changes_of noted) ≡ 0 → after.foreign_writes ≡ b.foreign_writes
  still_after none =
      let all = ap foreign_writes_in changes_are ∙ foreign_both (changes_of so.noted) more in
      let parts = foreign_both others own in
      so_still (refused p b x call so) call (after_coming p (is_step_of call) x)
      ∙ still_added (is_step_of call) p.foreign (begun_call p b x call so) (omega (arith, all, parts, none))
      ∙ counts.still (omega (arith, all, parts, none))

  rose_call : own_changes_in more ≡ 1 → Rose x.steps steps'
  rose_call one = rose_if call (omega (arith, one, own_more))
    where
      rose_if : (next : OneCall) → 1 ≤ one_for (is_step_of next) → Rose x.steps (next_step (is_step_of next) x.steps)
      rose_if a_read some = absurd (omega (arith, some))
      rose_if a_step some = omega arith
      rose_if (a_write at value) some = omega arith
      rose_if a_sync some = omega arith

  at_most_one : own_changes_in more ≤ 1
  at_most_one = one_at_most call own_more
    where
      one_at_most : (next : OneCall) → own_changes_in more ≤ one_for (is_step_of next) → own_changes_in more ≤ 1
      one_at_most a_read le = omega (arith, le)
      one_at_most a_step le = le
      one_at_most (a_write at value) le = le
      one_at_most a_sync le = le

  counts_call : Counts b after noted
  counts_call = record {
    calls = subst (λ (l : List Change). list_all is_of_call l ≡ true) (sym changes_are)
        (calls_both (changes_of so.noted) more counts.calls (calls_both others own
        (calls_added (is_step_of call) p.foreign (begun_call p b x call so))
        (calls_call (refused p b x call so) call)));
    most = λ below. subst (λ n. own_changes_in (changes_of noted) ≤ n) (sym (steps_are p b x call so))
        (most_after (subst (λ n. n < 2 ^ 64 - 1) (steps_are p b x call so) below));
    before = before_after;
    told = told_after;
    rises = subst (λ n. Rises 0 n (own_calls noted)) (sym (steps_are p b x call so))
        (rises_call x.steps (k p b x call so) more so.noted counts.rises
        (step_later (is_step_of call) x.steps (omega (arith, so.ordered, so.fits))) ordered_after at_most_one rose_call);
    still = still_after;
  }

counts_calls : (p : CommandPlan) (b : Course) (calls : List OneCall) (x : Course) (so : Tells p b x)
    → Counts b x so.noted
    → (now : Tells p b (after_calls p calls x)) × Counts b (after_calls p calls x) now.noted
counts_calls p b [] x so counts = (so, counts)
counts_calls p b (call ∷ calls) x so counts =
    counts_calls p b calls (after_call p call x) (tells_call p b x call so)
    (subst (Counts b (after_call p call x)) (sym (noted_call p b x call so)) (counts_call p b x call so counts))

-- what holds of the run's row of changes holds of the record since the command began
record RunTells (p : CommandPlan) (marks : List Mark) (now : Course) : Type 0 where
  pub within : last_changes marks ≤ length now.changes
  pub ordered : now.steps ≤ now.calls
  pub made : list_all is_of_call (drop (last_changes marks) now.changes) ≡ true
  pub most : now.steps < 2 ^ 64 - 1 → own_changes_in (drop (last_changes marks) now.changes) ≤ now.steps
  pub before : (m : Moment) → IsNumbered m → IsBelowMoment
      (own_changes_in (made_before m (drop (last_changes marks) now.changes) (drop (last_changes marks) now.made_in))) m
  pub told : (at : ℕ) → AreTold at (drop (last_changes marks) now.changes) ((world now.changes).image at)
  pub later : (m : Moment) → IsNumbered m → (j steps : ℕ) → steps ≤ now.steps
      → ComeFrom steps j (drop (last_changes marks) now.changes) (drop (last_changes marks) now.made_in)
      → j ≤ length (made_before m (drop (last_changes marks) now.changes) (drop (last_changes marks) now.made_in))
      → 1 ≤ own_changes_in
      (drop j (made_before m (drop (last_changes marks) now.changes) (drop (last_changes marks) now.made_in)))
      → IsBelowMoment (steps + own_changes_in
      (drop j (made_before m (drop (last_changes marks) now.changes) (drop (last_changes marks) now.made_in)))) m
  pub later_most : (j steps : ℕ) → steps ≤ now.steps → now.steps < 2 ^ 64 - 1
      → ComeFrom steps j (drop (last_changes marks) now.changes) (drop (last_changes marks) now.made_in)
      → steps + own_changes_in (drop j (drop (last_changes marks) now.changes)) ≤ now.steps
  pub still : foreign_writes_in (drop (last_changes marks) now.changes) ≡ 0
      → now.foreign_writes ≡ last_foreign_writes marks

run_tells : (p : CommandPlan) (marks : List Mark) (now : Course) → HasRun p marks now → RunTells p marks now
run_tells p marks now run =
    let n = last_changes marks in
    let b = run.begun in
    let all = counts_calls p b run.calls b (tells_first p b run.begins.no_steps run.begins.no_calls)
    (subst (Counts b b) (sym (noted_first p b run.begins.no_steps run.begins.no_calls)) (counts_first b)) in
    let so = all.0 in
    let counts = all.1 in
    let end = after_calls p run.calls b in
    let since : drop n end.changes ≡ changes_of so.noted =
    begun_dropped n end.changes b.changes (changes_of so.noted) so.changes run.begins.changes in
    let in_calls : drop n end.made_in ≡ numbers_of so.noted =
    begun_dropped n end.made_in b.made_in (numbers_of so.noted) so.made_in run.begins.made_in in
    subst (RunTells p marks) (sym run.is) (record {
      within = omega (
        arith,
        ap (λ (l : List Change). length l) so.changes,
        length-append b.changes (changes_of so.noted),
        run.begins.changes,
      );
      ordered = so.ordered;
      made = subst (λ (l : List Change). list_all is_of_call l ≡ true) (sym since) counts.calls;
      most = λ below. subst (λ (l : List Change). own_changes_in l ≤ end.steps) (sym since) (counts.most below);
      before = λ m is. subst (λ (l : List Change). IsBelowMoment (own_changes_in (made_before m l (drop n end.made_in))) m)
          (sym since) (subst (λ (l : List CallNumbers). IsBelowMoment (own_changes_in
          (made_before m (changes_of so.noted) l)) m) (sym in_calls) (counts.before m is));
      told = λ at. subst (λ (l : List Change). AreTold at l ((world end.changes).image at)) (sym since) (counts.told at);
      later = λ m is j steps less. subst (λ (two : List Change × List CallNumbers). ComeFrom steps j two.0 two.1
          → j ≤ length (made_before m two.0 two.1) → 1 ≤ own_changes_in (drop j (made_before m two.0 two.1))
          → IsBelowMoment (steps + own_changes_in (drop j (made_before m two.0 two.1))) m)
          (sym (pair_is (drop n end.changes) (changes_of so.noted) (drop n end.made_in) (numbers_of so.noted) since in_calls))
          (later_before m is j steps end.steps so.noted less counts.rises);
      later_most = λ j steps less below. subst (λ (two : List Change × List CallNumbers). ComeFrom steps j two.0 two.1
          → steps + own_changes_in (drop j two.0) ≤ end.steps)
          (sym (pair_is (drop n end.changes) (changes_of so.noted) (drop n end.made_in) (numbers_of so.noted) since in_calls))
          (later_all j steps end.steps so.noted less below counts.rises);
      still = λ none. counts.still (ap foreign_writes_in (sym since) ∙ none) ∙ run.begins.foreign_writes;
    })
  where
    pair_is : {A B : Type 0} (a a' : A) (b b' : B) → a ≡ a' → b ≡ b' → ◌≡◌ {A = A × B} (a, b) (a', b')
    pair_is a a' b b' p q = cc

pub takes_steps : OwnChangesTakeSteps
takes_steps m keeps = record {
  calls = ∥∥₁_elim keeps.run (Prim.hlevel props) (λ run. (run_tells m.plan m.marks (course_of m) run).made);
  ordered = ∥∥₁_elim keeps.run (Prim.hlevel props) (λ run. (run_tells m.plan m.marks (course_of m) run).ordered);
  most = λ below. ∥∥₁_elim keeps.run (Prim.hlevel props)
      (λ run. (run_tells m.plan m.marks (course_of m) run).most below);
  before = early;
}
  where
    early : (moment : Moment) → IsNumbered moment
        → IsBelowMoment (own_changes_in (made_before moment (changes_since m) (made_since m))) moment
    early (Step n) is = ∥∥₁_elim keeps.run (Prim.hlevel props)
        (λ run. (run_tells m.plan m.marks (course_of m) run).before (Step n) is)
    early (Call n) is = ∥∥₁_elim keeps.run (Prim.hlevel props)
        (λ run. (run_tells m.plan m.marks (course_of m) run).before (Call n) is)

pub none_uncounted : NoneIsUncounted
none_uncounted m keeps none = ∥∥₁_elim keeps.run (Prim.hlevel props)
    (λ run. (run_tells m.plan m.marks (course_of m) run).still none)

is_same : (a b : List ℕ) (found : Option (List ℕ)) → found ≡ Some a → found ≡ Some b → a ≡ b
is_same a b found p q = cc

-- a row up to a place in its second part
take_both : {A : Type 0} (n k : ℕ) (all : List A) → n ≤ length all → take (n + k) all ≡ take n all ++ take k (drop n all)
take_both n k all le = take-add n k all

-- those before a moment come first
before_first : (moment : Moment) (changes : List Change) (made_in : List CallNumbers)
    → take (length (made_before moment changes made_in)) changes ≡ made_before moment changes made_in
before_first moment [] made_in = refl
before_first moment (c ∷ changes) [] = refl
before_first moment (c ∷ changes) (numbers ∷ made_in) =
    cond_both (is_past moment numbers.steps numbers.calls) [] (c ∷ made_before moment changes made_in)
    (λ (l : List Change). take (length l) (c ∷ changes) ≡ l) (λ past. refl)
    (λ not. ap (λ (l : List Change). c ∷ l) (before_first moment changes made_in))

before_length : (moment : Moment) (changes : List Change) (made_in : List CallNumbers)
    → length (made_before moment changes made_in) ≤ length changes
before_length moment [] made_in = omega arith
before_length moment (c ∷ changes) [] = omega arith
before_length moment (c ∷ changes) (numbers ∷ made_in) =
    cond_both (is_past moment numbers.steps numbers.calls) [] (c ∷ made_before moment changes made_in)
    (λ (l : List Change). length l ≤ length (c ∷ changes)) (λ past. omega arith)
    (λ not. omega (arith, before_length moment changes made_in))

some_of : (found : Option (List ℕ)) → is_none found ≡ false → (value : List ℕ) × (found ≡ Some value)
some_of None not = absurd (false_true (sym not))
some_of (Some value) not = (value, refl)

-- A moment that was not reached.
unreached : (s c own : ℕ) (moment : Moment) → s ≤ c → (s < 2 ^ 64 - 1 → own ≤ s) → is_reached s c moment ≡ false
    → IsNumbered moment → IsBelowMoment own moment
unreached s c own (Step n) ordered most not is = far s c own (Step n) ordered most past is
  where
    past : is_past (Step n) s c ≡ false
    past = grind (arith, nat_tests, is.0)
unreached s c own (Call n) ordered most not is = far s c own (Call n) ordered most past is
  where
    past : is_past (Call n) s c ≡ false
    past = grind (arith, nat_tests, is.0)

both_false : (r blank any : Bool) → (if r && blank then any else true) ≡ true → any ≡ false → r ≡ true → blank ≡ false
both_false true true any is none so = absurd (false_true (sym none ∙ is))
both_false true false any is none so = refl
both_false false blank any is none so = absurd (false_true so)

all_at : {A : Type 0} (f : A → Bool) (xs : List A) (x : A) → list_all f xs ≡ true → Contains xs x → f x ≡ true
all_at f xs x all has = All-contains (λ y. f y ≡ true) xs x (All-from_recursion (λ y. f y ≡ true) xs (each xs all)) has
  where
    each : (ys : List _) → list_all f ys ≡ true → AllByRecursion (λ y. f y ≡ true) ys
    each [] is = tt
    each (y ∷ ys) is = let both = and_parts (f y) (list_all f ys) is in (both.0, each ys both.1)

-- A planned write whose cell is written in the end.
module _ (m : Memory) (timed : Timed) (value : List ℕ) (keeps : KeepsPlan m) (planned : Contains m.plan.foreign timed)
    (numbered : IsNumbered timed.before) (stands : (world m.changes).image timed.at ≡ Some value) where
  abbrev n : ℕ
  n = last_changes m.marks

  abbrev since : List Change
  since = changes_since m

  steps : TakesSteps m
  steps = takes_steps m keeps

  within : n ≤ length m.changes
  within = ∥∥₁_elim keeps.run (Prim.hlevel props) (λ run. (run_tells m.plan m.marks (course_of m) run).within)

  since_length : length since ≡ length m.changes - n
  since_length = length-drop n m.changes

  -- a place behind the command's beginning
  module _ (place count steps early' : ℕ) (from : n ≤ place) (whole : place + count ≡ n + early')
      (past : ComePast steps place m) where
    abbrev j : ℕ
    j = place - n

    there : n + j ≡ place
    there = omega (arith, from)

    come : ComeFrom steps j since (made_since m)
    come = come_from n j steps m.changes m.made_in within
        (subst (λ k. ComeFrom steps k m.changes m.made_in) (sym there) past.each)

    dropped : take count (drop place m.changes) ≡ take count (drop j since)
    dropped = ap (take count) (ap (λ k. drop k m.changes) (sym there) ∙ sym (drop-drop j n m.changes))

    -- the row up to an early one, without those before the place
    cut : (first : List Change) → length first ≡ early' → take (length first) since ≡ first
        → take count (drop j since) ≡ drop j first
    cut first long is =
        sym (drop-take j count since)
        ∙ ap (λ k. drop j (take k since)) (omega (arith, whole, there, long)) ∙ ap (drop j) is

  by_others : list_any (is_others_write timed.at) since ≡ true
      → list_any (calls_for m.steps m.calls timed.at value) m.plan.foreign ≡ true
  by_others any = ∥∥₁_elim keeps.run (Prim.hlevel props)
      (λ run.
      let was = (run_tells m.plan m.marks (course_of m) run).told timed.at any in
      subst (λ v. list_any (calls_for m.steps m.calls timed.at v) m.plan.foreign ≡ true)
      (is_same was.0 value ((world m.changes).image timed.at) was.2 stands)
      (was.1 (is_called_for m.steps m.calls m.plan.foreign) keeps.named))

  later_than : (moment : Moment) → IsNumbered moment → (j' past : ℕ) → past ≤ m.steps
      → ComeFrom past j' since (made_since m) → j' ≤ length (made_before moment since (made_since m))
      → 1 ≤ own_changes_in (drop j' (made_before moment since (made_since m)))
      → IsBelowMoment (past + own_changes_in (drop j' (made_before moment since (made_since m)))) moment
  later_than (Step number) is j' past less come_past low some = ∥∥₁_elim keeps.run (Prim.hlevel props)
      (λ run. (run_tells m.plan m.marks (course_of m) run).later (Step number) is j' past less come_past low some)
  later_than (Call number) is j' past less come_past low some = ∥∥₁_elim keeps.run (Prim.hlevel props)
      (λ run. (run_tells m.plan m.marks (course_of m) run).later (Call number) is j' past less come_past low some)

  at_the_end : list_any (is_others_write timed.at) since ≡ false → is_reached m.steps m.calls timed.before ≡ false
      → IsWrittenEarly m timed.at timed.before
  at_the_end none not = record {
    alone = none;
    early = length since;
    within = omega (arith, since_length, within);
    few = subst (λ l. IsBelowMoment (own_changes_in l) timed.before) (sym (take-length since))
        (unreached m.steps m.calls (own_changes_in since) timed.before steps.ordered steps.most not numbered);
    later = λ place count past from whole come_past some.
        let row : take count (drop place m.changes) ≡ drop (place - n) since =
        dropped place count past (length since) from whole come_past
        ∙ cut place count past (length since) from whole come_past since refl (take-length since) in
        subst (λ l. IsBelowMoment (past + own_changes_in l) timed.before) (sym row)
        (unreached m.steps m.calls (past + own_changes_in (drop (place - n) since)) timed.before steps.ordered
        (λ below. ∥∥₁_elim keeps.run (Prim.hlevel props)
        (λ run. (run_tells m.plan m.marks (course_of m) run).later_most (place - n) past come_past.counted below
        (come place count past (length since) from whole come_past))) not numbered);
    found = value;
    stands = subst (λ l. (world l).image timed.at ≡ Some value)
        (sym (take-length m.changes) ∙ ap (λ k. take k m.changes) (omega (arith, since_length, within))) stands;
  }

  in_time : list_any (is_others_write timed.at) since ≡ false → is_reached m.steps m.calls timed.before ≡ true
      → IsWrittenEarly m timed.at timed.before
  in_time none reached =
      let first = made_before timed.before since (made_since m) in
      let made = all_at (made_if_blank m.steps m.calls (take n m.changes) since (made_since m)) m.plan.foreign timed keeps.made
      planned in
      let there = some_of (stood_at timed.before timed.at (take n m.changes) since (made_since m))
      (both_false (is_reached m.steps m.calls timed.before)
      (is_none (stood_at timed.before timed.at (take n m.changes) since (made_since m)))
      (list_any (is_others_write timed.at) since) made none reached) in
      record {
        alone = none;
        early = length first;
        within = omega (arith, since_length, within, before_length timed.before since (made_since m));
        few = subst (λ l. IsBelowMoment (own_changes_in l) timed.before)
            (sym (before_first timed.before since (made_since m))) (steps.before timed.before numbered);
        later = λ place count past from whole come_past some.
            let row : take count (drop place m.changes) ≡ drop (place - n) first =
            dropped place count past (length first) from whole come_past
            ∙ cut place count past (length first) from whole come_past first refl
            (before_first timed.before since (made_since m)) in
            subst (λ l. IsBelowMoment (past + own_changes_in l) timed.before) (sym row)
            (later_than timed.before numbered (place - n) past come_past.counted
            (come place count past (length first) from whole come_past) (omega (arith, whole, from))
            (subst (λ l. 1 ≤ own_changes_in l) row some));
        found = there.0;
        stands = ap (λ (l : List Change). (world l).image timed.at)
            (take_both n (length first) m.changes within
            ∙ ap (λ (l : List Change). take n m.changes ++ l) (before_first timed.before since (made_since m)))
            ∙ there.1;
      }

  written_first : (list_any (calls_for m.steps m.calls timed.at value) m.plan.foreign ≡ true)
      ⊎ IsWrittenEarly m timed.at timed.before
  written_first = ⊎_elim
      (λ (any : list_any (is_others_write timed.at) since ≡ true). inl (by_others any))
      (λ (none : list_any (is_others_write timed.at) since ≡ false). inr (⊎_elim
      (λ (reached : is_reached m.steps m.calls timed.before ≡ true). in_time none reached)
      (λ (not : is_reached m.steps m.calls timed.before ≡ false). at_the_end none not)
      (cases_Bool (is_reached m.steps m.calls timed.before))))
      (cases_Bool (list_any (is_others_write timed.at) since))

pub planned_first : PlannedWritesComeFirst
planned_first m timed value keeps planned numbered stands = written_first m timed value keeps planned numbered stands
