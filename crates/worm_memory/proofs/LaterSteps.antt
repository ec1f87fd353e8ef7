-- Each change that a command makes itself comes in a later step than the one before. So those behind some place of the
-- record, of which each came in a step past so many, are with these fewer than the number of a moment that comes behind.
use Rattle.std.proofs.Common.{◌≡◌, ◌≤◌, ◌<◌, ◌+◌, ◌-◌, ◌^◌, if◌then◌else◌, ⊎_elim, ℕ, zero, suc, false, List, [], ◌∷◌, ◌++◌, map, length, length-drop, drop, refl, ap, sym, subst, ◌∙◌, arith}
use Rattle.std.proofs.lemmas.Bool.{cases_lt, cond_both}
use Rattle.std.proofs.lemmas.Bool.Decides.{nat_tests}
use Rattle.std.proofs.lemmas.List.{append-nil}
use Rattle.worm_device.specs.Counts.{Rose}
use Rattle.worm_memory.specs.Memory.{change_step, change_steps}
use Rattle.worm_memory.specs.OwnChanges.{own_changes_in, IsBelowMoment, IsNumbered}
use Rattle.worm_memory.specs.Plans.{is_past}
use Rattle.worm_memory.specs.declared.change.Change.{Change}
use Rattle.worm_memory.specs.declared.change.Change.TheVariants.{Wrote, Foreign, Synced, Lost, Crashed}
use Rattle.worm_memory.specs.declared.mark.CallNumbers.{CallNumbers}
use Rattle.worm_memory.specs.declared.moment.Moment.{Moment}
use Rattle.worm_memory.specs.declared.moment.Moment.TheVariants.{Step, Call}
use Rattle.worm_memory.proofs.MadeThen.{Noted, before_in, changes_of, numbers_of, with_more}

-- the calls of the changes that the command made itself
abbrev own_in : Change → CallNumbers → List CallNumbers
own_in (Wrote at value) call = call ∷ []
own_in (Foreign at value) call = []
own_in Synced call = call ∷ []
own_in (Lost at) call = []
own_in Crashed call = []

abbrev pub own_calls : Noted → List CallNumbers
own_calls [] = []
own_calls (p ∷ noted) = own_in p.0 p.1 ++ own_calls noted

-- each of these calls is a later step than the one before, from past low up to high
abbrev pub Rises : ℕ → ℕ → List CallNumbers → Type 0
Rises low high [] = low ≤ high
Rises low high (call ∷ calls) = Rose low call.steps × (call.steps ≤ call.calls) × Rises call.steps high calls

pub rises_further : (low high further : ℕ) (calls : List CallNumbers) → high ≤ further → Rises low high calls
    → Rises low further calls
rises_further low high further [] more rises = omega (arith, more, rises)
rises_further low high further (call ∷ calls) more rises =
    (rises.0, rises.1, rises_further call.steps high further calls more rises.2)

-- one call more
pub rises_more : (low high : ℕ) (calls : List CallNumbers) (call : CallNumbers) → Rises low high calls
    → Rose high call.steps → call.steps ≤ call.calls → Rises low call.steps (calls ++ call ∷ [])
rises_more low high [] call rises rose ordered = (omega (arith, rises, rose), ordered, omega arith)
rises_more low high (next ∷ calls) call rises rose ordered =
    (rises.0, rises.1, rises_more next.steps high calls call rises.2 rose ordered)

-- as many came as there are steps for
pub rises_count : (low high : ℕ) (calls : List CallNumbers) → Rises low high calls → high < 2 ^ 64 - 1
    → low + length calls ≤ high
rises_count low high [] rises below = omega (arith, rises)
rises_count low high (call ∷ calls) rises below =
    omega (arith, rises.0, rises_count call.steps high calls rises.2 below, below)

own_both : (xs ys : Noted) → own_calls (xs ++ ys) ≡ own_calls xs ++ own_calls ys
own_both [] ys = refl
own_both (p ∷ xs) ys = head_own p.0 p.1 (own_calls xs) (own_calls ys) (own_calls (xs ++ ys)) (own_both xs ys)
  where
    head_own : (c : Change) (k : CallNumbers) (first second all : List CallNumbers) → all ≡ first ++ second
        → own_in c k ++ all ≡ (own_in c k ++ first) ++ second
    head_own (Wrote at value) k first second all is = ap (λ (l : List CallNumbers). k ∷ l) is
    head_own (Foreign at value) k first second all is = is
    head_own Synced k first second all is = ap (λ (l : List CallNumbers). k ∷ l) is
    head_own (Lost at) k first second all is = is
    head_own Crashed k first second all is = is

-- changes of one call that are somebody else's, or one of which is the command's own
none_own : (k : CallNumbers) (more : List Change) → own_changes_in more ≡ 0
    → own_calls (map (λ change. (change, k)) more) ≡ []
none_own k [] none = refl
none_own k (Wrote at value ∷ more) none = absurd (omega (arith, none))
none_own k (Foreign at value ∷ more) none = none_own k more none
none_own k (Synced ∷ more) none = absurd (omega (arith, none))
none_own k (Lost at ∷ more) none = none_own k more none
none_own k (Crashed ∷ more) none = none_own k more none

one_own : (k : CallNumbers) (more : List Change) → own_changes_in more ≡ 1
    → own_calls (map (λ change. (change, k)) more) ≡ k ∷ []
one_own k [] one = absurd (omega (arith, one))
one_own k (Wrote at value ∷ more) one =
    ap (λ (l : List CallNumbers). k ∷ l) (none_own k more (omega (arith, one)))
one_own k (Foreign at value ∷ more) one = one_own k more one
one_own k (Synced ∷ more) one = ap (λ (l : List CallNumbers). k ∷ l) (none_own k more (omega (arith, one)))
one_own k (Lost at ∷ more) one = one_own k more one
one_own k (Crashed ∷ more) one = one_own k more one

-- a call more, which changes something itself at most once, and then is a step
pub rises_call : (high : ℕ) (k : CallNumbers) (more : List Change) (noted : Noted) → Rises 0 high (own_calls noted)
    → high ≤ k.steps → k.steps ≤ k.calls → own_changes_in more ≤ 1
    → (own_changes_in more ≡ 1 → Rose high k.steps) → Rises 0 k.steps (own_calls (with_more k more noted))
rises_call high k more noted rises later ordered few rose = ⊎_elim
    (λ (none : own_changes_in more < 1).
    subst (Rises 0 k.steps)
    (sym (own_both noted (map (λ change. (change, k)) more)
    ∙ ap (λ l. own_calls noted ++ l) (none_own k more (omega (arith, none))) ∙ append-nil (own_calls noted)))
    (rises_further 0 high k.steps (own_calls noted) later rises))
    (λ (some : 1 ≤ own_changes_in more).
    let one : own_changes_in more ≡ 1 = omega (arith, some, few) in
    subst (Rises 0 k.steps)
    (sym (own_both noted (map (λ change. (change, k)) more) ∙ ap (λ l. own_calls noted ++ l) (one_own k more one)))
    (rises_more 0 high (own_calls noted) k rises (rose one) ordered))
    (cases_lt (own_changes_in more) 1)

-- those behind some place rise as well
rises_dropped : (j low high : ℕ) (noted : Noted) → Rises low high (own_calls noted)
    → (from : ℕ) × Rises from high (own_calls (drop j noted))
rises_dropped zero low high noted rises = (low, rises)
rises_dropped (suc j) low high [] rises = (low, rises)
rises_dropped (suc j) low high (p ∷ noted) rises =
    behind p.0 (λ start so. rises_dropped j start high noted so) rises
  where
    behind : (c : Change)
        → ((start : ℕ) → Rises start high (own_calls noted) → (from : ℕ) × Rises from high (own_calls (drop j noted)))
        → Rises low high (own_in c p.1 ++ own_calls noted) → (from : ℕ) × Rises from high (own_calls (drop j noted))
    behind (Wrote at value) again so = again p.1.steps so.2
    behind (Foreign at value) again so = again low so
    behind Synced again so = again p.1.steps so.2
    behind (Lost at) again so = again low so
    behind Crashed again so = again low so

-- each came in a step past so many
abbrev pub ArePast : ℕ → Noted → Type 0
ArePast steps [] = Unit
ArePast steps (p ∷ noted) = Rose steps (change_step p.0 p.1) × ArePast steps noted

-- so they rise from there
rises_past : (steps low high : ℕ) (noted : Noted) → steps ≤ high → ArePast steps noted
    → Rises low high (own_calls noted) → Rises steps high (own_calls noted)
rises_past steps low high [] less past rises = less
rises_past steps low high (p ∷ noted) less past rises =
    from p.0 (rises_past steps low high noted less past.1) past.0 rises
  where
    from : (c : Change) → (Rises low high (own_calls noted) → Rises steps high (own_calls noted))
        → Rose steps (change_step c p.1) → Rises low high (own_in c p.1 ++ own_calls noted)
        → Rises steps high (own_in c p.1 ++ own_calls noted)
    from (Wrote at value) again rose so = (rose, so.1, so.2)
    from (Foreign at value) again rose so = again so
    from Synced again rose so = (rose, so.1, so.2)
    from (Lost at) again rose so = again so
    from Crashed again rose so = again so

-- one change of a command's own, before a moment
one_below : (low : ℕ) (call : CallNumbers) (m : Moment) → IsNumbered m → Rose low call.steps → call.steps ≤ call.calls
    → is_past m call.steps call.calls ≡ false → IsBelowMoment (low + 1) m
one_below low call (Step n) numbered rose ordered not = omega (arith, less, rose, numbered.1)
  where
    less : call.steps < n
    less = grind (arith, nat_tests)
one_below low call (Call n) numbered rose ordered not = omega (arith, less, rose, ordered, numbered.1)
  where
    less : call.calls < n
    less = grind (arith, nat_tests)

-- and more behind it
more_below : (low own : ℕ) (call : CallNumbers) (m : Moment) → IsNumbered m → Rose low call.steps
    → call.steps ≤ call.calls → is_past m call.steps call.calls ≡ false → IsBelowMoment (call.steps + own) m
    → IsBelowMoment (low + (own + 1)) m
more_below low own call (Step n) numbered rose ordered not is = omega (arith, less, rose, numbered.1, is)
  where
    less : call.steps < n
    less = grind (arith, nat_tests)
more_below low own call (Call n) numbered rose ordered not is = omega (arith, less, rose, ordered, numbered.1, is)
  where
    less : call.calls < n
    less = grind (arith, nat_tests)

-- With the steps that they came past, those that were made before a moment are fewer than its number.
abbrev AreBelow : Moment → ℕ → Noted → Type 0
AreBelow m high noted = (low : ℕ) → Rises low high (own_calls noted) → 1 ≤ own_changes_in (before_in m noted)
    → IsBelowMoment (low + own_changes_in (before_in m noted)) m

below_before : (m : Moment) → IsNumbered m → (low high : ℕ) (noted : Noted) → Rises low high (own_calls noted)
    → 1 ≤ own_changes_in (before_in m noted) → IsBelowMoment (low + own_changes_in (before_in m noted)) m
below_before m numbered low high [] rises some = absurd (omega (arith, some))
below_before m numbered low high (p ∷ noted) rises some =
    cond_both (is_past m p.1.steps p.1.calls) [] (p.0 ∷ before_in m noted)
    (λ (l : List Change). 1 ≤ own_changes_in l → IsBelowMoment (low + own_changes_in l) m)
    (λ past one. absurd (omega (arith, one)))
    (λ not one. by_kind p.0 (λ start so more. below_before m numbered start high noted so more) not rises one)
    some
  where
    own : AreBelow m high noted → (rest : Rises p.1.steps high (own_calls noted)) → is_past m p.1.steps p.1.calls ≡ false
        → Rose low p.1.steps → p.1.steps ≤ p.1.calls
        → IsBelowMoment (low + (own_changes_in (before_in m noted) + 1)) m
    own again rest not rose ordered = ⊎_elim
        (λ (none : own_changes_in (before_in m noted) < 1).
        let zero_is : own_changes_in (before_in m noted) ≡ 0 = omega (arith, none) in
        subst (λ n. IsBelowMoment (low + (n + 1)) m) (sym zero_is)
        (one_below low p.1 m numbered rose ordered not))
        (λ (more : 1 ≤ own_changes_in (before_in m noted)).
        more_below low (own_changes_in (before_in m noted)) p.1 m numbered rose ordered not
        (again p.1.steps rest more))
        (cases_lt (own_changes_in (before_in m noted)) 1)

    by_kind : (c : Change) → AreBelow m high noted → is_past m p.1.steps p.1.calls ≡ false
        → Rises low high (own_in c p.1 ++ own_calls noted) → 1 ≤ own_changes_in (c ∷ before_in m noted)
        → IsBelowMoment (low + own_changes_in (c ∷ before_in m noted)) m
    by_kind (Wrote at value) again not so some = own again so.2 not so.0 so.1
    by_kind (Foreign at value) again not so some = again low so some
    by_kind Synced again not so some = own again so.2 not so.0 so.1
    by_kind (Lost at) again not so some = again low so some
    by_kind Crashed again not so some = again low so some

-- what was made before a moment, without the first so many
before_dropped : (m : Moment) (j : ℕ) (noted : Noted) → j ≤ length (before_in m noted)
    → drop j (before_in m noted) ≡ before_in m (drop j noted)
before_dropped m zero noted less = refl
before_dropped m (suc j) [] less = absurd (omega (arith, less))
before_dropped m (suc j) (p ∷ noted) less =
    cond_both (is_past m p.1.steps p.1.calls) [] (p.0 ∷ before_in m noted)
    (λ (l : List Change). suc j ≤ length l → drop (suc j) l ≡ before_in m (drop j noted))
    (λ past low. absurd (omega (arith, low)))
    (λ not low. before_dropped m j noted (omega (arith, low)))
    less

changes_dropped : (j : ℕ) (noted : Noted) → drop j (changes_of noted) ≡ changes_of (drop j noted)
changes_dropped zero noted = refl
changes_dropped (suc j) [] = refl
changes_dropped (suc j) (p ∷ noted) = changes_dropped j noted

own_length : (noted : Noted) → length (own_calls noted) ≡ own_changes_in (changes_of noted)
own_length [] = refl
own_length (p ∷ noted) = by_kind p.0 (own_length noted)
  where
    by_kind : (c : Change) → length (own_calls noted) ≡ own_changes_in (changes_of noted)
        → length (own_in c p.1 ++ own_calls noted) ≡ own_changes_in (c ∷ changes_of noted)
    by_kind (Wrote at value) rest = omega (arith, rest)
    by_kind (Foreign at value) rest = rest
    by_kind Synced rest = omega (arith, rest)
    by_kind (Lost at) rest = rest
    by_kind Crashed rest = rest

-- told of the places of two rows
past_from : (steps : ℕ) (noted : Noted)
    → ((i : ℕ) → i < length (changes_of noted) → Rose steps (change_steps (changes_of noted) (numbers_of noted) i))
    → ArePast steps noted
past_from steps [] each = tt
past_from steps (p ∷ noted) each =
    (each 0 (omega arith), past_from steps noted (λ i less. each (suc i) (omega (arith, less))))

past_dropped : (j steps : ℕ) (noted : Noted) → ((i : ℕ) → j ≤ i → i < length (changes_of noted)
    → Rose steps (change_steps (changes_of noted) (numbers_of noted) i)) → ArePast steps (drop j noted)
past_dropped zero steps noted each = past_from steps noted (λ i less. each i (omega arith) less)
past_dropped (suc j) steps [] each = tt
past_dropped (suc j) steps (p ∷ noted) each =
    past_dropped j steps noted (λ i from less. each (suc i) (omega (arith, from)) (omega (arith, less)))

-- from this place on each change came in a step past so many
abbrev pub ComeFrom : ℕ → ℕ → List Change → List CallNumbers → Type 0
ComeFrom steps j changes made_in =
    (i : ℕ) → j ≤ i → i < length changes → Rose steps (change_steps changes made_in i)

-- the same of a row that begins later
none_at : (changes : List Change) (i : ℕ) → change_steps changes [] i ≡ 0
none_at [] i = refl
none_at (c ∷ changes) i = refl

steps_dropped : (n i : ℕ) (changes : List Change) (made_in : List CallNumbers)
    → change_steps (drop n changes) (drop n made_in) i ≡ change_steps changes made_in (n + i)
steps_dropped zero i changes made_in = ap (change_steps changes made_in) (omega arith)
steps_dropped (suc n) i [] made_in = refl
steps_dropped (suc n) i (c ∷ changes) [] = none_at (drop n changes) i
steps_dropped (suc n) i (c ∷ changes) (k ∷ made_in) =
    let next : suc (n + i) ≡ suc n + i = omega arith in
    steps_dropped n i changes made_in ∙ ap (change_steps (c ∷ changes) (k ∷ made_in)) next

pub come_from : (n j steps : ℕ) (changes : List Change) (made_in : List CallNumbers)
    → n ≤ length changes → ComeFrom steps (n + j) changes made_in
    → ComeFrom steps j (drop n changes) (drop n made_in)
come_from n j steps changes made_in within each i from less =
    subst (Rose steps) (sym (steps_dropped n i changes made_in))
    (each (n + i) (omega (arith, from)) (omega (arith, less, within, length-drop n changes)))

-- What holds of a row of changes by these.
pub later_before : (m : Moment) → IsNumbered m → (j steps high : ℕ) (noted : Noted) → steps ≤ high
    → Rises 0 high (own_calls noted) → ComeFrom steps j (changes_of noted) (numbers_of noted)
    → j ≤ length (before_in m noted) → 1 ≤ own_changes_in (drop j (before_in m noted))
    → IsBelowMoment (steps + own_changes_in (drop j (before_in m noted))) m
later_before m numbered j steps high noted less rises each within some =
    let is = before_dropped m j noted within in
    let dropped = rises_dropped j 0 high noted rises in
    subst (λ (l : List Change). IsBelowMoment (steps + own_changes_in l) m) (sym is)
    (below_before m numbered steps high (drop j noted)
    (rises_past steps dropped.0 high (drop j noted) less (past_dropped j steps noted each) dropped.1)
    (subst (λ (l : List Change). 1 ≤ own_changes_in l) is some))

pub later_all : (j steps high : ℕ) (noted : Noted) → steps ≤ high → high < 2 ^ 64 - 1
    → Rises 0 high (own_calls noted) → ComeFrom steps j (changes_of noted) (numbers_of noted)
    → steps + own_changes_in (drop j (changes_of noted)) ≤ high
later_all j steps high noted less below rises each =
    let dropped = rises_dropped j 0 high noted rises in
    let count = rises_count steps high (own_calls (drop j noted))
    (rises_past steps dropped.0 high (drop j noted) less (past_dropped j steps noted each) dropped.1) below in
    omega (arith, count, own_length (drop j noted), ap own_changes_in (changes_dropped j noted))
