-- Along a run each planned foreign write is made whose moment is reached and whose cell is blank then.
use Rattle.std.proofs.Common.{◌≡◌, ◌≤◌, ◌<◌, ◌^◌, ◌==◌, ◌&&◌, ◌||◌, if◌then◌else◌, ⊎_elim, is_none, ℕ, Bool, true, false, List, [], ◌∷◌, ◌++◌, map, take, drop, length, Option, Some, None, refl, ap, sym, subst, ◌∙◌, arith}
use Rattle.std.specs.List.{list_all, list_any}
use Rattle.std.proofs.Math.Logic.{∥∥₁_elim}
use Rattle.std.proofs.Math.Seq.{drop-length, take-length}
use Rattle.std.proofs.Props.{props}
use Rattle.std.proofs.lemmas.Bool.{and_from, cases_Bool, cond-false, cond-true, cond_both, or_left, or_right}
use Rattle.std.proofs.lemmas.Bool.Decides.{nat_tests}
use Rattle.std.proofs.lemmas.List.{append-nil, append_assoc, drop-append-le, take-append-le}
use Rattle.std.proofs.lemmas.List.Folds.{list_any-append}
use Rattle.worm_device.specs.Counts.{next_count}
use Rattle.worm_memory.specs.Moments.{is_others_write, made_before, made_if_blank, stood_at}
use Rattle.worm_memory.specs.Plans.{CommandPlan, is_past, is_reached, is_refused, last_changes, names, next_step}
use Rattle.worm_memory.specs.Runs.{Course, OneCall, is_step_of, own_changes, call_in, counted_call, planned_into, planned_write, planned_writes, after_coming, called_so, after_call, after_calls, HasRun}
use Rattle.worm_memory.specs.Worlds.{kept_or, world}
use Rattle.worm_memory.specs.declared.change.Change.{Change}
use Rattle.worm_memory.specs.declared.change.Change.TheVariants.{Foreign}
use Rattle.worm_memory.specs.declared.mark.CallNumbers.{CallNumbers}
use Rattle.worm_memory.specs.declared.mark.Mark.{Mark}
use Rattle.worm_memory.specs.declared.moment.Moment.{Moment}
use Rattle.worm_memory.specs.declared.moment.Moment.TheVariants.{Step, Call}
use Rattle.worm_memory.specs.declared.moment.Timed.{Timed}
use Rattle.worm_memory.proofs.Accounts.{all_both, all_more, ordered_next, reached_none, reached_now, step_later}
use Rattle.worm_memory.proofs.Worlds.{image_is}

-- What others write as a call comes: the changes that it adds.
abbrev pub one_added : Bool → Option (List ℕ) → Timed → List Change
one_added false found t = []
one_added true (Some there) t = []
one_added true None t = Foreign t.at t.value ∷ []

abbrev pub added : Bool → List Timed → Course → List Change
added b [] x = []
added b (t ∷ rest) x =
    one_added (names t.before b x.steps x.calls) ((world x.changes).image t.at) t ++ added b rest (planned_write b t x)

-- changes were added, each in the call of these numbers, which are those of the course
pub record AddsIn (k : CallNumbers) (x y : Course) (more : List Change) : Type 0 where
  pub changes : y.changes ≡ x.changes ++ more
  pub made_in : y.made_in ≡ x.made_in ++ map (λ change. k) more
  pub numbers : call_in y ≡ call_in x

adds_none : (k : CallNumbers) (x : Course) → AddsIn k x x []
adds_none k x = record { changes = sym (append-nil x.changes); made_in = sym (append-nil x.made_in); numbers = refl }

map_both : (k : CallNumbers) (xs ys : List Change)
    → map (λ change. k) (xs ++ ys) ≡ map (λ change. k) xs ++ map (λ change. k) ys
map_both k [] ys = refl
map_both k (x ∷ xs) ys = ap (λ (l : List CallNumbers). k ∷ l) (map_both k xs ys)

adds_then : (k : CallNumbers) (x y z : Course) (first second : List Change) → AddsIn k x y first → AddsIn k y z second
    → AddsIn k x z (first ++ second)
adds_then k x y z first second p q = record {
  changes = q.changes ∙ ap (λ l. l ++ second) p.changes ∙ append_assoc x.changes first second;
  made_in = q.made_in ∙ ap (λ l. l ++ map (λ change. k) second) p.made_in
      ∙ append_assoc x.made_in (map (λ change. k) first) (map (λ change. k) second)
      ∙ ap (λ l. x.made_in ++ l) (sym (map_both k first second));
  numbers = q.numbers ∙ p.numbers;
}

pub one_adds : (k : CallNumbers) (named : Bool) (found : Option (List ℕ)) (t : Timed) (x : Course) → call_in x ≡ k
    → AddsIn k x (if named then planned_into found t x else x) (one_added named found t)
one_adds k false found t x is = adds_none k x
one_adds k true (Some there) t x is = adds_none k x
one_adds k true None t x is = record {
  changes = refl;
  made_in = ap (λ (n : CallNumbers). x.made_in ++ n ∷ []) is;
  numbers = refl;
}

pub writes_add : (k : CallNumbers) (b : Bool) (rest : List Timed) (x : Course) → call_in x ≡ k
    → AddsIn k x (planned_writes b rest x) (added b rest x)
writes_add k b [] x is = adds_none k x
writes_add k b (t ∷ rest) x is =
    let named = names t.before b x.steps x.calls in
    let found = (world x.changes).image t.at in
    let first = one_adds k named found t x is in
    adds_then k x (planned_write b t x) (planned_writes b rest (planned_write b t x)) (one_added named found t)
    (added b rest (planned_write b t x)) first (writes_add k b rest (planned_write b t x) (first.numbers ∙ is))

-- Of those that name the call each is made whose cell is blank.
abbrev named_made : Bool → Course → List Change → Timed → Bool
named_made b x more t =
    if names t.before b x.steps x.calls && is_none ((world x.changes).image t.at)
    then list_any (is_others_write t.at) more else true

self_same : (n : ℕ) → n == n ≡ true
self_same n = grind (arith, nat_tests)

head_made : (named : Bool) (found : Option (List ℕ)) (t : Timed) (rest : List Change)
    → (if named && is_none found then list_any (is_others_write t.at) (one_added named found t ++ rest) else true) ≡ true
head_made false found t rest = refl
head_made true (Some there) t rest = refl
head_made true None t rest = or_left (t.at == t.at) (list_any (is_others_write t.at) rest) (self_same t.at)

any_either : (named here : Bool) (old now : Option (List ℕ)) (rest : Bool) → (here ≡ false → now ≡ old)
    → (if named && is_none now then rest else true) ≡ true → (if named && is_none old then here || rest else true) ≡ true
any_either named true old now rest same so =
    cond_both (named && is_none old) true true (λ (x : Bool). x ≡ true) (λ a. refl) (λ a. refl)
any_either named false old now rest same so =
    ap (λ o. if named && is_none o then rest else true) (sym (same refl)) ∙ so

tail_made : (b named : Bool) (found : Option (List ℕ)) (x : Course) (h t : Timed) (more : List Change)
    → named_made b (if named then planned_into found h x else x) more t ≡ true
    → named_made b x (one_added named found h ++ more) t ≡ true
tail_made b false found x h t more so = so
tail_made b true (Some there) x h t more so = so
tail_made b true None x h t more so =
    let old = (world x.changes).image t.at in
    any_either (names t.before b x.steps x.calls) (t.at == h.at) old
    ((world (x.changes ++ Foreign h.at h.value ∷ [])).image t.at) (list_any (is_others_write t.at) more)
    (λ elsewhere. image_is x.changes (Foreign h.at h.value) t.at
    ∙ cond-false (t.at == h.at) (kept_or old h.value) old elsewhere) so

all_named : (b : Bool) (rest : List Timed) (x : Course) → list_all (named_made b x (added b rest x)) rest ≡ true
all_named b [] x = refl
all_named b (h ∷ rest) x =
    let named = names h.before b x.steps x.calls in
    let found = (world x.changes).image h.at in
    let next = planned_write b h x in
    and_from (named_made b x (added b (h ∷ rest) x) h) (list_all (named_made b x (added b (h ∷ rest) x)) rest)
    (head_made named found h (added b rest next))
    (all_more (named_made b next (added b rest next)) (named_made b x (added b (h ∷ rest) x))
    (λ t. tail_made b named found x h t (added b rest next)) rest (all_named b rest next))

-- Changes with the numbers of their calls, pair by pair.
abbrev pub Noted : Type 0
Noted = List (Change × CallNumbers)

abbrev pub changes_of : Noted → List Change
changes_of noted = map (λ (p : Change × CallNumbers). p.0) noted

abbrev pub numbers_of : Noted → List CallNumbers
numbers_of noted = map (λ (p : Change × CallNumbers). p.1) noted

abbrev pub with_more : CallNumbers → List Change → Noted → Noted
with_more k more noted = noted ++ map (λ change. (change, k)) more

pub changes_more : (k : CallNumbers) (more : List Change) (noted : Noted)
    → changes_of (with_more k more noted) ≡ changes_of noted ++ more
changes_more k [] [] = refl
changes_more k (c ∷ more) [] = ap (λ (l : List Change). c ∷ l) (changes_more k more [])
changes_more k more (p ∷ noted) = ap (λ (l : List Change). p.0 ∷ l) (changes_more k more noted)

pub numbers_more : (k : CallNumbers) (more : List Change) (noted : Noted)
    → numbers_of (with_more k more noted) ≡ numbers_of noted ++ map (λ change. k) more
numbers_more k [] [] = refl
numbers_more k (c ∷ more) [] = ap (λ (l : List CallNumbers). k ∷ l) (numbers_more k more [])
numbers_more k more (p ∷ noted) = ap (λ (l : List CallNumbers). p.1 ∷ l) (numbers_more k more noted)

abbrev pub before_in : Moment → Noted → List Change
before_in moment noted = made_before moment (changes_of noted) (numbers_of noted)

-- what is made once the moment has come was not made before
pub before_more : (moment : Moment) (k : CallNumbers) (more : List Change) (noted : Noted)
    → is_past moment k.steps k.calls ≡ true → before_in moment (with_more k more noted) ≡ before_in moment noted
before_more moment k [] [] past = refl
before_more moment k (c ∷ more) [] past =
    cond-true (is_past moment k.steps k.calls) [] (c ∷ before_in moment (with_more k more [])) past
before_more moment k more (p ∷ noted) past =
    ap (λ (l : List Change). if is_past moment p.1.steps p.1.calls then [] else p.0 ∷ l) (before_more moment k more noted past)

-- each was made in one of so many steps and calls
abbrev pub AreMade : ℕ → ℕ → Noted → Type 0
AreMade s c [] = Unit
AreMade s c (p ∷ noted) = (p.1.steps ≤ s) × (p.1.calls ≤ c) × AreMade s c noted

made_later : (s c s' c' : ℕ) → s ≤ s' → c ≤ c' → (noted : Noted) → AreMade s c noted → AreMade s' c' noted
made_later s c s' c' more calls [] are = tt
made_later s c s' c' more calls (p ∷ noted) are =
    (omega (arith, are.0, more), omega (arith, are.1, calls), made_later s c s' c' more calls noted are.2)

made_more : (k : CallNumbers) (more : List Change) (noted : Noted) → AreMade k.steps k.calls noted
    → AreMade k.steps k.calls (with_more k more noted)
made_more k [] [] are = tt
made_more k (c ∷ more) [] are = (omega arith, omega arith, made_more k more [] tt)
made_more k more (p ∷ noted) are = (are.0, are.1, made_more k more noted are.2)

-- all were made before a moment that had not come
not_past : (s c steps calls : ℕ) (m : Moment) (b : Bool) → steps ≤ s → calls ≤ c → is_reached s c m ≡ false
    → names m b (next_step b s) (next_count c) ≡ true → is_past m steps calls ≡ false
not_past s c steps calls (Step n) true few less not named = grind (arith, nat_tests)
not_past s c steps calls (Step n) false few less not named = absurd (let e : false ≡ true = named in cc)
not_past s c steps calls (Call n) b few less not named = grind (arith, nat_tests)

all_before : (s c : ℕ) (m : Moment) (b : Bool) → is_reached s c m ≡ false
    → names m b (next_step b s) (next_count c) ≡ true → (noted : Noted) → AreMade s c noted
    → before_in m noted ≡ changes_of noted
all_before s c m b not named [] are = refl
all_before s c m b not named (p ∷ noted) are =
    cond-false (is_past m p.1.steps p.1.calls) [] (p.0 ∷ before_in m noted)
    (not_past s c p.1.steps p.1.calls m b are.0 are.1 not named)
    ∙ ap (λ (l : List Change). p.0 ∷ l) (all_before s c m b not named noted are.2)

reached_past : (s c s' c' : ℕ) → s ≤ s' → c ≤ c' → (m : Moment) → is_reached s c m ≡ true → is_past m s' c' ≡ true
reached_past s c s' c' more calls (Step n) is = grind (arith, nat_tests)
reached_past s c s' c' more calls (Call n) is = grind (arith, nat_tests)

named_past : (b : Bool) (s c : ℕ) (m : Moment) → names m b s c ≡ true → is_past m s c ≡ true
named_past true s c (Step n) is = grind (arith, nat_tests)
named_past false s c (Step n) is = absurd (let e : false ≡ true = is in cc)
named_past b s c (Call n) is = grind (arith, nat_tests)

-- from one test to another
passes_too : (r r0 blank blank0 any any0 : Bool) → r0 ≡ true → blank ≡ blank0 → (any0 ≡ true → any ≡ true)
    → (if r0 && blank0 then any0 else true) ≡ true → (if r && blank then any else true) ≡ true
passes_too false r0 blank blank0 any any0 was same more so = refl
passes_too true r0 false blank0 any any0 was same more so = refl
passes_too true r0 true blank0 any any0 was same more so =
    more (sym (cond-true (r0 && blank0) any0 true (and_from r0 blank0 was (sym same))) ∙ so)

pub any_left : (f : Change → Bool) (xs ys : List Change) → list_any f xs ≡ true → list_any f (xs ++ ys) ≡ true
any_left f xs ys is = list_any-append f xs ys ∙ or_left (list_any f xs) (list_any f ys) is

pub any_right : (f : Change → Bool) (xs ys : List Change) → list_any f ys ≡ true → list_any f (xs ++ ys) ≡ true
any_right f [] ys is = is
any_right f (x ∷ xs) ys is =
    or_right (f x) (list_any f (xs ++ ys)) (any_right f xs ys is)

-- What a run tells of the planned foreign writes, from its beginning on.
pub record Tells (p : CommandPlan) (b x : Course) : Type 0 where
  pub noted : Noted
  pub changes : x.changes ≡ b.changes ++ changes_of noted
  pub made_in : x.made_in ≡ b.made_in ++ numbers_of noted
  pub are : AreMade x.steps x.calls noted
  pub ordered : x.steps ≤ x.calls
  pub fits : x.calls < 2 ^ 64
  pub made : list_all (made_if_blank x.steps x.calls b.changes (changes_of noted) (numbers_of noted)) p.foreign ≡ true

none_reached : (s c : ℕ) (begun : List Change) (planned : List Timed) → s ≤ c → c ≡ 0
    → list_all (made_if_blank s c begun [] []) planned ≡ true
none_reached s c begun [] le zero = refl
none_reached s c begun (t ∷ rest) le zero =
    and_from (made_if_blank s c begun [] [] t) (list_all (made_if_blank s c begun [] []) rest)
    (ap (λ (r : Bool). if r && is_none (stood_at t.before t.at begun [] []) then false else true)
    (reached_none s c le zero t.before))
    (none_reached s c begun rest le zero)

pub tells_first : (p : CommandPlan) (b : Course) → b.steps ≡ 0 → b.calls ≡ 0 → Tells p b b
tells_first p b steps calls = record {
  noted = [];
  changes = sym (append-nil b.changes);
  made_in = sym (append-nil b.made_in);
  are = tt;
  ordered = omega (arith, steps, calls);
  fits = omega (arith, calls);
  made = none_reached b.steps b.calls b.changes p.foreign (omega (arith, steps, calls)) calls;
}

pub noted_first : (p : CommandPlan) (b : Course) (steps : b.steps ≡ 0) (calls : b.calls ≡ 0)
    → (tells_first p b steps calls).noted ≡ []
unfolding tells_first
noted_first p b steps calls = refl

abbrev pub own_of : Bool → OneCall → List Change
own_of true call = []
own_of false call = own_changes call

so_adds : (k : CallNumbers) (refused : Bool) (call : OneCall) (came : Course) → call_in came ≡ k
    → AddsIn k came (called_so refused call came) (own_of refused call)
so_adds k true call came is = record {
  changes = sym (append-nil came.changes);
  made_in = sym (append-nil came.made_in);
  numbers = refl;
}
so_adds k false call came is = record {
  changes = refl;
  made_in = ap (λ (n : CallNumbers). came.made_in ++ map (λ change. n) (own_changes call)) is;
  numbers = refl;
}

-- One call more.
module _ (p : CommandPlan) (b x : Course) (call : OneCall) (so : Tells p b x) where
  abbrev pub step : Bool
  step = is_step_of call

  abbrev pub s' : ℕ
  s' = next_step step x.steps

  abbrev pub c' : ℕ
  c' = next_count x.calls

  abbrev pub begun_call : Course
  begun_call = counted_call step x

  abbrev pub k : CallNumbers
  k = call_in begun_call

  abbrev pub refused : Bool
  refused = is_refused step p x.steps x.calls

  abbrev pub theirs : List Change
  theirs = added step p.foreign begun_call

  abbrev pub extra : List Change
  extra = theirs ++ own_of refused call

  abbrev pub noted' : Noted
  noted' = with_more k extra so.noted

  pub adds : AddsIn k begun_call (after_call p call x) extra
  adds =
      let first = writes_add k step p.foreign begun_call refl in
      adds_then k begun_call (after_coming p step x) (after_call p call x) theirs (own_of refused call) first
      (so_adds k refused call (after_coming p step x) first.numbers)

  pub steps_are : (after_call p call x).steps ≡ s'
  steps_are = ap (λ (n : CallNumbers). n.steps) adds.numbers

  pub calls_are : (after_call p call x).calls ≡ c'
  calls_are = ap (λ (n : CallNumbers). n.calls) adds.numbers

  few_steps : x.steps < 2 ^ 64
  few_steps = omega (arith, so.ordered, so.fits)

  more_steps : x.steps ≤ s'
  more_steps = step_later step x.steps few_steps

  more_calls : x.calls ≤ c'
  more_calls = omega (arith, so.fits)

  -- a test of a planned write that was reached before
  was_before : (t : Timed) → is_reached x.steps x.calls t.before ≡ true
      → made_if_blank x.steps x.calls b.changes (changes_of so.noted) (numbers_of so.noted) t ≡ true
      → made_if_blank s' c' b.changes (changes_of noted') (numbers_of noted') t ≡ true
  was_before t was old =
      passes_too (is_reached s' c' t.before) (is_reached x.steps x.calls t.before)
      (is_none (stood_at t.before t.at b.changes (changes_of noted') (numbers_of noted')))
      (is_none (stood_at t.before t.at b.changes (changes_of so.noted) (numbers_of so.noted)))
      (list_any (is_others_write t.at) (changes_of noted')) (list_any (is_others_write t.at) (changes_of so.noted)) was
      (ap (λ (l : List Change). is_none ((world (b.changes ++ l)).image t.at))
      (before_more t.before k extra so.noted (reached_past x.steps x.calls s' c' more_steps more_calls t.before was)))
      (λ is. subst (λ (l : List Change). list_any (is_others_write t.at) l ≡ true) (sym (changes_more k extra so.noted))
      (any_left (is_others_write t.at) (changes_of so.noted) extra is)) old

  -- and of one that names this call
  is_now : (t : Timed) → is_reached x.steps x.calls t.before ≡ false → names t.before step s' c' ≡ true
      → named_made step begun_call theirs t ≡ true
      → made_if_blank s' c' b.changes (changes_of noted') (numbers_of noted') t ≡ true
  is_now t not named now =
      passes_too (is_reached s' c' t.before) (names t.before step s' c')
      (is_none (stood_at t.before t.at b.changes (changes_of noted') (numbers_of noted')))
      (is_none ((world x.changes).image t.at))
      (list_any (is_others_write t.at) (changes_of noted')) (list_any (is_others_write t.at) theirs) named
      (ap (λ (l : List Change). is_none ((world (b.changes ++ l)).image t.at))
      (before_more t.before k extra so.noted (named_past step s' c' t.before named)
      ∙ all_before x.steps x.calls t.before step not named so.noted so.are)
      ∙ ap (λ (l : List Change). is_none ((world l).image t.at)) (sym so.changes))
      (λ is. subst (λ (l : List Change). list_any (is_others_write t.at) l ≡ true) (sym (changes_more k extra so.noted))
      (any_right (is_others_write t.at) (changes_of so.noted) extra
      (any_left (is_others_write t.at) theirs (own_of refused call) is))) now

  each_made : (t : Timed)
      → made_if_blank x.steps x.calls b.changes (changes_of so.noted) (numbers_of so.noted) t ≡ true
      → named_made step begun_call theirs t ≡ true
      → made_if_blank s' c' b.changes (changes_of noted') (numbers_of noted') t ≡ true
  each_made t old now = ⊎_elim
      (λ was. was_before t was old)
      (λ not. ⊎_elim
      (λ reached. ⊎_elim (λ was. was_before t was old) (λ named. is_now t not named now)
      (reached_now step x.steps x.calls t.before reached))
      (λ none. ap (λ (r : Bool). if r && is_none (stood_at t.before t.at b.changes (changes_of noted') (numbers_of noted'))
      then list_any (is_others_write t.at) (changes_of noted') else true) none)
      (cases_Bool (is_reached s' c' t.before)))
      (cases_Bool (is_reached x.steps x.calls t.before))

  pub tells_call : Tells p b (after_call p call x)
  tells_call = record {
    noted = noted';
    changes = adds.changes ∙ ap (λ (l : List Change). l ++ extra) so.changes
        ∙ append_assoc b.changes (changes_of so.noted) extra
        ∙ ap (λ (l : List Change). b.changes ++ l) (sym (changes_more k extra so.noted));
    made_in = adds.made_in ∙ ap (λ (l : List CallNumbers). l ++ map (λ change. k) extra) so.made_in
        ∙ append_assoc b.made_in (numbers_of so.noted) (map (λ change. k) extra)
        ∙ ap (λ (l : List CallNumbers). b.made_in ++ l) (sym (numbers_more k extra so.noted));
    are = subst (λ n. AreMade n (after_call p call x).calls noted') (sym steps_are)
        (subst (λ n. AreMade s' n noted') (sym calls_are)
        (made_more k extra so.noted (made_later x.steps x.calls s' c' more_steps more_calls so.noted so.are)));
    ordered = omega (arith, steps_are, calls_are, ordered_next step x.steps x.calls so.ordered so.fits);
    fits = omega (arith, calls_are);
    made = ap (λ n. list_all (made_if_blank n (after_call p call x).calls b.changes (changes_of noted')
        (numbers_of noted')) p.foreign) steps_are
        ∙ ap (λ n. list_all (made_if_blank s' n b.changes (changes_of noted') (numbers_of noted')) p.foreign) calls_are
        ∙ all_both (made_if_blank x.steps x.calls b.changes (changes_of so.noted) (numbers_of so.noted))
        (named_made step begun_call theirs) (made_if_blank s' c' b.changes (changes_of noted') (numbers_of noted'))
        each_made p.foreign so.made (all_named step p.foreign begun_call);
  }

  -- the changes that are noted then
  pub noted_call : tells_call.noted ≡ noted'
  unfolding tells_call
  noted_call = refl

tells_calls : (p : CommandPlan) (b : Course) (calls : List OneCall) (x : Course) → Tells p b x
    → Tells p b (after_calls p calls x)
tells_calls p b [] x so = so
tells_calls p b (call ∷ calls) x so = tells_calls p b calls (after_call p call x) (tells_call p b x call so)

-- what a row holds behind its beginning
pub begun_taken : {A : Type 0} (n : ℕ) (all begun more : List A) → all ≡ begun ++ more → length begun ≡ n
    → take n all ≡ begun
begun_taken n all begun more is so_long =
    ap (take n) is ∙ take-append-le n begun more (omega (arith, so_long))
    ∙ ap (λ m. take m begun) (sym so_long) ∙ take-length begun

pub begun_dropped : {A : Type 0} (n : ℕ) (all begun more : List A) → all ≡ begun ++ more → length begun ≡ n
    → drop n all ≡ more
begun_dropped {A} n all begun more is so_long =
    ap (drop n) is ∙ drop-append-le n begun more (omega (arith, so_long))
    ∙ ap (λ (l : List A). l ++ more) (ap (λ m. drop m begun) (sym so_long) ∙ drop-length begun)

run_made : (p : CommandPlan) (marks : List Mark) (now : Course) → HasRun p marks now
    → list_all (made_if_blank now.steps now.calls (take (last_changes marks) now.changes)
    (drop (last_changes marks) now.changes) (drop (last_changes marks) now.made_in)) p.foreign ≡ true
run_made p marks now run =
    let n = last_changes marks in
    let b = run.begun in
    let so : Tells p b now = subst (Tells p b) (sym run.is)
    (tells_calls p b run.calls b (tells_first p b run.begins.no_steps run.begins.no_calls)) in
    let first = begun_taken n now.changes b.changes (changes_of so.noted) so.changes run.begins.changes in
    let since = begun_dropped n now.changes b.changes (changes_of so.noted) so.changes run.begins.changes in
    let in_calls = begun_dropped n now.made_in b.made_in (numbers_of so.noted) so.made_in run.begins.made_in in
    ap (λ (l : List Change). list_all (made_if_blank now.steps now.calls l (drop n now.changes) (drop n now.made_in))
    p.foreign) first
    ∙ ap (λ (l : List Change). list_all (made_if_blank now.steps now.calls b.changes l (drop n now.made_in)) p.foreign) since
    ∙ ap (λ (l : List CallNumbers). list_all (made_if_blank now.steps now.calls b.changes (changes_of so.noted) l)
    p.foreign) in_calls
    ∙ so.made

pub kept_made : (p : CommandPlan) (marks : List Mark) (now : Course) → ∥ HasRun p marks now ∥₁
    → list_all (made_if_blank now.steps now.calls (take (last_changes marks) now.changes)
    (drop (last_changes marks) now.changes) (drop (last_changes marks) now.made_in)) p.foreign ≡ true
kept_made p marks now ran = ∥∥₁_elim ran (Prim.hlevel props) (run_made p marks now)
