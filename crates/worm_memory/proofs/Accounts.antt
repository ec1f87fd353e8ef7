-- That calls fail as is planned, by the numbers of steps and calls: before the first call, and with each one more.
use Rattle.std.proofs.Common.{◌≡◌, ◌≤◌, ◌<◌, ◌^◌, ◌+◌, ◌-◌, ◌==◌, if◌then◌else◌, ◌&&◌, ◌||◌, ◌⊎◌, ⊎_elim, inl, inr, cond, nat_le, ℕ, Bool, true, false, List, [], ◌∷◌, ◌++◌, Option, Some, None, refl, ap, sym, subst, ◌∙◌, arith}
use Rattle.std.specs.List.{count_by, list_all, list_any}
use Rattle.std.proofs.lemmas.Bool.{and_from, and_parts, and_right, cases_Bool, or_cases, or_from, or_left, or_right, true≢false}
use Rattle.std.proofs.lemmas.Bool.Decides.{nat_tests}
use Rattle.std.proofs.lemmas.List.Sums.{sum_by-cons}
use Rattle.worm_device.specs.Counts.{Rose, next_count}
use Rattle.worm_memory.specs.Plans.{CommandPlan, names, next_step, is_past, is_stopped, is_refused, is_reached, may_stop, must_stop, may_fail, must_fail, failures_reached, changes_from, faults_from, foreign_writes_from, is_due}
use Rattle.worm_memory.specs.declared.mark.Mark.{Mark}
use Rattle.worm_memory.specs.declared.moment.Moment.{Moment}
use Rattle.worm_memory.specs.declared.moment.Moment.TheVariants.{Step, Call}
use Rattle.worm_memory.specs.declared.moment.Timed.{Timed}

-- what the last mark says
pub faults_append : (n : ℕ) (marks : List Mark) (mark : Mark) → faults_from n (marks ++ mark ∷ []) ≡ mark.faults
faults_append n [] mark = refl
faults_append n (m ∷ marks) mark = faults_append m.faults marks mark

pub foreign_writes_append : (n : ℕ) (marks : List Mark) (mark : Mark)
    → foreign_writes_from n (marks ++ mark ∷ []) ≡ mark.foreign_writes
foreign_writes_append n [] mark = refl
foreign_writes_append n (m ∷ marks) mark = foreign_writes_append m.foreign_writes marks mark

pub changes_append : (n : ℕ) (marks : List Mark) (mark : Mark) → changes_from n (marks ++ mark ∷ []) ≡ mark.changes
changes_append n [] mark = refl
changes_append n (m ∷ marks) mark = changes_append m.changes marks mark

-- tests of which one is passed
pub no_true : {A : Type 0} (b : Bool) → b ≡ true → b ≡ false → A
no_true b p q = absurd (true≢false (sym p ∙ q))

pub not_before : (before now : Bool) → (before ≡ true → now ≡ true) → now ≡ false → before ≡ false
not_before true now so not = absurd (true≢false (sym (so refl) ∙ not))
not_before false now so not = refl

or_more : (a b a' b' : Bool) → (a ≡ true → a' ≡ true) → (b ≡ true → b' ≡ true) → (a || b) ≡ true → (a' || b') ≡ true
or_more a b a' b' left right is =
    ⊎_elim (λ p. or_left a' b' (left p)) (λ q. or_right a' b' (right q)) (or_cases a b is)

or_split : (a b c d e f : Bool) → (a ≡ true → (c ≡ true) ⊎ (e ≡ true)) → (b ≡ true → (d ≡ true) ⊎ (f ≡ true))
    → (a || b) ≡ true → ((c || d) ≡ true) ⊎ ((e || f) ≡ true)
or_split a b c d e f left right is = ⊎_elim
    (λ p. ⊎_elim (λ x. inl (or_left c d x)) (λ y. inr (or_left e f y)) (left p))
    (λ q. ⊎_elim (λ x. inl (or_right c d x)) (λ y. inr (or_right e f y)) (right q))
    (or_cases a b is)

pub any_more : {A : Type 0} (f g : A → Bool) → ((x : A) → f x ≡ true → g x ≡ true) → (xs : List A)
    → list_any f xs ≡ true → list_any g xs ≡ true
any_more f g each [] is = is
any_more f g each (x ∷ xs) is = or_more (f x) (list_any f xs) (g x) (list_any g xs) (each x) (any_more f g each xs) is

any_split : {A : Type 0} (f g h : A → Bool) → ((x : A) → f x ≡ true → (g x ≡ true) ⊎ (h x ≡ true)) → (xs : List A)
    → list_any f xs ≡ true → (list_any g xs ≡ true) ⊎ (list_any h xs ≡ true)
any_split f g h each [] is = inl is
any_split f g h each (x ∷ xs) is =
    or_split (f x) (list_any f xs) (g x) (list_any g xs) (h x) (list_any h xs) (each x) (any_split f g h each xs) is

-- tests that each passes
pub all_more : {A : Type 0} (f g : A → Bool) → ((x : A) → f x ≡ true → g x ≡ true) → (xs : List A)
    → list_all f xs ≡ true → list_all g xs ≡ true
all_more f g each [] is = refl
all_more f g each (x ∷ xs) is =
    let both = and_parts (f x) (list_all f xs) is in
    and_from (g x) (list_all g xs) (each x both.0) (all_more f g each xs both.1)

pub all_both : {A : Type 0} (f g h : A → Bool) → ((x : A) → f x ≡ true → g x ≡ true → h x ≡ true) → (xs : List A)
    → list_all f xs ≡ true → list_all g xs ≡ true → list_all h xs ≡ true
all_both f g h each [] one two = refl
all_both f g h each (x ∷ xs) one two =
    let f_both = and_parts (f x) (list_all f xs) one in
    let g_both = and_parts (g x) (list_all g xs) two in
    and_from (h x) (list_all h xs) (each x f_both.0 g_both.0) (all_both f g h each xs f_both.1 g_both.1)

-- how many pass a test
sums_below : (u v w a b c d e f : ℕ) → u ≡ a + d → v ≡ b + e → w ≡ c + f → a + b ≤ c → d + e ≤ f → u + v ≤ w
sums_below u v w a b c d e f p q r first rest = omega arith

abbrev pub one_if : {A : Type 0} → (A → Bool) → A → ℕ
one_if f x = cond (f x) 1 0

pub count_both : {A : Type 0} (f g h : A → Bool) → ((x : A) → one_if f x + one_if g x ≤ one_if h x) → (xs : List A)
    → count_by f xs + count_by g xs ≤ count_by h xs
count_both f g h each [] = omega arith
count_both f g h each (x ∷ xs) =
    sums_below (count_by f (x ∷ xs)) (count_by g (x ∷ xs)) (count_by h (x ∷ xs)) (one_if f x) (one_if g x) (one_if h x)
    (count_by f xs) (count_by g xs) (count_by h xs) (sum_by-cons (one_if f) x xs) (sum_by-cons (one_if g) x xs)
    (sum_by-cons (one_if h) x xs) (each x) (count_both f g h each xs)

some_sum : (u a b : ℕ) → u ≡ a + b → (a ≡ 1) ⊎ (1 ≤ b) → 1 ≤ u
some_sum u a b is (inl one) = omega arith
some_sum u a b is (inr some) = omega arith

some_count : {A : Type 0} (f : A → Bool) (xs : List A) → list_any f xs ≡ true → 1 ≤ count_by f xs
some_count f [] is = absurd (true≢false (sym is))
some_count f (x ∷ xs) is =
    some_sum (count_by f (x ∷ xs)) (one_if f x) (count_by f xs) (sum_by-cons (one_if f) x xs)
    (⊎_elim (λ here. inl (ap (λ b. cond b 1 0) here)) (λ there. inr (some_count f xs there))
    (or_cases (f x) (list_any f xs) is))

-- before the first call no moment is reached, and so none may have failed, whatever is planned
none_reached : (fails : List Moment) → list_any (is_reached 0 0) fails ≡ false
none_reached [] = refl
none_reached (Step n ∷ fails) =
    or_from (is_reached 0 0 (Step n)) (list_any (is_reached 0 0) fails) (grind (arith, nat_tests)) (none_reached fails)
none_reached (Call n ∷ fails) =
    or_from (is_reached 0 0 (Call n)) (list_any (is_reached 0 0) fails) (grind (arith, nat_tests)) (none_reached fails)

none_passed : (stop : Option Moment) → must_stop stop 0 0 ≡ false
none_passed None = refl
none_passed (Some (Step n)) = grind (arith, nat_tests)
none_passed (Some (Call n)) = grind (arith, nat_tests)

none_stopped : (stop : Option Moment) → may_stop stop 0 0 ≡ false
none_stopped None = refl
none_stopped (Some moment) = and_right (is_past moment 0 0) false refl

module _ (p : CommandPlan) (s c : ℕ) (ordered : s ≤ c) (first : c ≡ 0) where
  no_steps : s ≡ 0
  no_steps = omega (arith, ordered, first)

  pub none_may_yet : may_fail p s c ≡ false
  none_may_yet = ap (may_fail p s) first ∙ ap (λ n. may_fail p n 0) no_steps
      ∙ or_from (may_stop p.stop 0 0) (list_any (is_reached 0 0) p.fails) (none_stopped p.stop) (none_reached p.fails)

  pub none_yet : {R : Type 0} → must_fail p s c ≡ true → R
  none_yet must = no_true (must_fail p s c) must
      (ap (must_fail p s) first ∙ ap (λ n. must_fail p n 0) no_steps
      ∙ or_from (must_stop p.stop 0 0) (list_any (is_reached 0 0) p.fails) (none_passed p.stop) (none_reached p.fails))

-- nor is anything that others are to write
pub reached_none : (s c : ℕ) → s ≤ c → c ≡ 0 → (m : Moment) → is_reached s c m ≡ false
reached_none s c le zero (Step n) = grind (arith, nat_tests)
reached_none s c le zero (Call n) = grind (arith, nat_tests)

pub none_due : (s c : ℕ) → s ≤ c → c ≡ 0 → (planned : List Timed) → list_any (is_due s c) planned ≡ false
none_due s c ordered first [] = refl
none_due s c ordered first (timed ∷ planned) =
    or_from (is_due s c timed) (list_any (is_due s c) planned)
    (reached_none s c ordered first timed.before) (none_due s c ordered first planned)

-- what was reached is reached later
pub reached_later : (s c s' c' : ℕ) → s ≤ s' → c ≤ c' → (m : Moment) → is_reached s c m ≡ true
    → is_reached s' c' m ≡ true
reached_later s c s' c' more calls (Step n) is = grind (arith, nat_tests)
reached_later s c s' c' more calls (Call n) is = grind (arith, nat_tests)

stopped_later : (stop : Option Moment) (s c s' c' : ℕ) → s ≤ s' → c ≤ c' → may_stop stop s c ≡ true
    → may_stop stop s' c' ≡ true
stopped_later None s c s' c' more calls is = is
stopped_later (Some (Step n)) s c s' c' more calls is = grind (arith, nat_tests)
stopped_later (Some (Call n)) s c s' c' more calls is = grind (arith, nat_tests)

-- not fewer steps, and not more than calls, also with one more
pub step_later : (b : Bool) (s : ℕ) → s < 2 ^ 64 → s ≤ next_step b s
step_later true s fits = omega arith
step_later false s fits = omega arith

pub ordered_next : (b : Bool) (s c : ℕ) → s ≤ c → c < 2 ^ 64 → next_step b s ≤ next_count c
ordered_next true s c le fits = omega arith
ordered_next false s c le fits = omega arith

-- a moment that names the call that has come is reached, and one that is reached was so before or names it
pub named_reached : (b : Bool) (s c : ℕ) (m : Moment) → names m b (next_step b s) (next_count c) ≡ true
    → is_reached (next_step b s) (next_count c) m ≡ true
named_reached true s c (Step n) is = grind (arith, nat_tests)
named_reached false s c (Step n) is = absurd cc
named_reached b s c (Call n) is = grind (arith, nat_tests)

up_to : (n k : ℕ) → (nat_le 1 n && nat_le n (next_count k)) ≡ true
    → ((nat_le 1 n && nat_le n k) ≡ true) ⊎ ((next_count k) == n ≡ true)
up_to n k is = decide (nat_le n k) refl
  where
    decide : (x : Bool) → nat_le n k ≡ x → ((nat_le 1 n && nat_le n k) ≡ true) ⊎ ((next_count k) == n ≡ true)
    decide true e = inl (grind (arith, nat_tests))
    decide false e = inr (grind (arith, nat_tests))

pub reached_now : (b : Bool) (s c : ℕ) (m : Moment) → is_reached (next_step b s) (next_count c) m ≡ true
    → (is_reached s c m ≡ true) ⊎ (names m b (next_step b s) (next_count c) ≡ true)
reached_now b s c (Call n) is = up_to n c is
reached_now false s c (Step n) is = inl is
reached_now true s c (Step n) is = up_to n s is

-- and not both, as long as calls are counted
pub one_each : (b : Bool) (s c : ℕ) → s ≤ c → c + 1 < 2 ^ 64 - 1 → (m : Moment)
    → one_if (is_reached s c) m + one_if (λ n. names n b (next_step b s) (next_count c)) m
    ≤ one_if (is_reached (next_step b s) (next_count c)) m
one_each true s c le fits (Step n) = grind (arith, nat_tests)
one_each false s c le fits (Step n) = grind (arith, nat_tests)
one_each b s c le fits (Call n) = grind (arith, nat_tests)

-- a call that comes behind the stop, and one that is the first behind it
stopped_may : (b : Bool) (stop : Option Moment) (s c : ℕ) → s < 2 ^ 64 → c < 2 ^ 64 → is_stopped stop s c ≡ true
    → may_stop stop (next_step b s) (next_count c) ≡ true
stopped_may b None s c fs fc is = is
stopped_may true (Some (Step n)) s c fs fc is = grind (arith, nat_tests)
stopped_may false (Some (Step n)) s c fs fc is = grind (arith, nat_tests)
stopped_may b (Some (Call n)) s c fs fc is = grind (arith, nat_tests)

passed_now : (b : Bool) (stop : Option Moment) (s c : ℕ) → must_stop stop (next_step b s) (next_count c) ≡ true
    → (must_stop stop s c ≡ true) ⊎ (is_stopped stop s c ≡ true)
passed_now b None s c is = inl is
passed_now true (Some (Step n)) s c is = inr (grind (arith, nat_tests))
passed_now false (Some (Step n)) s c is = inl is
passed_now b (Some (Call n)) s c is = inr (grind (arith, nat_tests))

-- one more call, which fails where it is refused
module _ (b : Bool) (p : CommandPlan) (s c last faults : ℕ) (ordered : s ≤ c) (fs : s < 2 ^ 64) (fc : c < 2 ^ 64) where
  abbrev s' : ℕ
  s' = next_step b s

  abbrev c' : ℕ
  c' = next_count c

  abbrev refused : Bool
  refused = is_refused b p s c

  abbrev naming : Moment → Bool
  naming m = names m b s' c'

  abbrev counted : Bool → ℕ
  counted r = if r then next_count faults else faults

  later : c ≤ c'
  later = omega (arith, fc)

  refused_may : refused ≡ true → may_fail p s' c' ≡ true
  refused_may = or_more (is_stopped p.stop s c) (list_any naming p.fails) (may_stop p.stop s' c')
      (list_any (is_reached s' c') p.fails) (stopped_may b p.stop s c fs fc)
      (any_more naming (is_reached s' c') (named_reached b s c) p.fails)

  may_later : may_fail p s c ≡ true → may_fail p s' c' ≡ true
  may_later = or_more (may_stop p.stop s c) (list_any (is_reached s c) p.fails) (may_stop p.stop s' c')
      (list_any (is_reached s' c') p.fails) (stopped_later p.stop s c s' c' (step_later b s fs) later)
      (any_more (is_reached s c) (is_reached s' c') (reached_later s c s' c' (step_later b s fs) later) p.fails)

  must_now : must_fail p s' c' ≡ true → (must_fail p s c ≡ true) ⊎ (refused ≡ true)
  must_now = or_split (must_stop p.stop s' c') (list_any (is_reached s' c') p.fails) (must_stop p.stop s c)
      (list_any (is_reached s c) p.fails) (is_stopped p.stop s c) (list_any naming p.fails) (passed_now b p.stop s c)
      (any_split (is_reached s' c') (is_reached s c) naming (reached_now b s c) p.fails)

  pub none_next : (may_fail p s c ≡ false → faults ≡ last) → may_fail p s' c' ≡ false → counted refused ≡ last
  none_next none may = ⊎_elim
      (λ is. no_true (may_fail p s' c') (refused_may is) may)
      (λ is. ap counted is ∙ none (not_before (may_fail p s c) (may_fail p s' c') may_later may))
      (cases_Bool refused)

  pub some_next : last ≤ faults → (must_fail p s c ≡ true → Rose last faults) → must_fail p s' c' ≡ true
      → Rose last (counted refused)
  some_next rose some must = ⊎_elim
      (λ is. subst (λ r. Rose last (counted r)) (sym is) (omega (arith, rose)))
      (λ is. subst (λ r. Rose last (counted r)) (sym is)
      (⊎_elim some (λ now. no_true refused now is) (must_now must)))
      (cases_Bool refused)

  pub most_next : (may_stop p.stop s c ≡ false → c < 2 ^ 64 - 1 → faults ≤ last + failures_reached p s c)
      → may_stop p.stop s' c' ≡ false → c' < 2 ^ 64 - 1 → counted refused ≤ last + failures_reached p s' c'
  most_next most may fits = ⊎_elim
      (λ is. subst (λ r. counted r ≤ last + failures_reached p s' c') (sym is)
      (omega (arith, before, both, named (or_cases (is_stopped p.stop s c) (list_any naming p.fails) is))))
      (λ is. subst (λ r. counted r ≤ last + failures_reached p s' c') (sym is) (omega (arith, before, both)))
      (cases_Bool refused)
    where
      room : c + 1 < 2 ^ 64 - 1
      room = omega (arith, fits)

      both : failures_reached p s c + count_by naming p.fails ≤ failures_reached p s' c'
      both = count_both (is_reached s c) naming (is_reached s' c') (one_each b s c ordered room) p.fails

      before : faults ≤ last + failures_reached p s c
      before = most (not_before (may_stop p.stop s c) (may_stop p.stop s' c')
          (stopped_later p.stop s c s' c' (step_later b s fs) later) may) (omega (arith, room))

      named : (is_stopped p.stop s c ≡ true) ⊎ (list_any naming p.fails ≡ true) → 1 ≤ count_by naming p.fails
      named (inl stopped) = no_true (may_stop p.stop s' c') (stopped_may b p.stop s c fs fc stopped) may
      named (inr any) = some_count naming p.fails any
