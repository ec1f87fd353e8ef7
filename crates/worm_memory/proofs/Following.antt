-- That a command goes on by its plan as a call comes: in what others write, and in which calls fail.
use Rattle.std.proofs.Common.{◌≡◌, ◌≤◌, ◌<◌, ◌+◌, ◌-◌, ◌^◌, ◌==◌, ◌&&◌, ◌||◌, if◌then◌else◌, ⊎_elim, ℕ, Bool, true, false, List, [], ◌∷◌, ◌++◌, drop, length, Option, Some, None, is_some, refl, ap, sym, subst, ◌∙◌, arith}
use Rattle.std.specs.List.{list_all, list_any}
use Rattle.std.specs.Str.{bytes_eq}
use Rattle.std.proofs.lemmas.Bool.{and_from, and_parts, cond-false, cond-true, cond_both, false≢true, or_left, or_right, true≢false}
use Rattle.std.proofs.Math.Logic.{∥∥₁_map}
use Rattle.std.proofs.lemmas.Bool.Decides.{nat_tests}
use Rattle.std.proofs.lemmas.List.{drop-append-le, length-append}
use Rattle.std.proofs.lemmas.List.Folds.{list_all-append, list_any-append}
use Rattle.std.proofs.lemmas.Slice.Eq.{bytes_eq-Decides}
use Rattle.cell_types.specs.Image.{Image, Extends}
use Rattle.worm_device.specs.Counts.{next_count}
use Rattle.worm_device.specs.State.{Instant}
use Rattle.worm_memory.specs.declared.change.Change.{Change}
use Rattle.worm_memory.specs.declared.change.Change.TheVariants.{Wrote, Foreign, Synced, Lost, Crashed}
use Rattle.worm_memory.specs.declared.mark.CallNumbers.{CallNumbers}
use Rattle.worm_memory.specs.declared.moment.Timed.{Timed}
use Rattle.worm_memory.specs.Memory.{KeepsPlan, Memory, call_of, course_of, device_of, with_call, with_fault, with_foreign}
use Rattle.worm_memory.specs.Outcomes.{Outcome, goes_on, fails, foreign_into, after_timed, after_others, others_done, arrived}
use Rattle.worm_memory.specs.Plans.{stands_if_reached, is_called_for, is_reached, is_refused, last_changes, last_faults, last_foreign_writes, names, next_step, calls_for}
use Rattle.worm_memory.specs.Worlds.{blank, world}
use Rattle.worm_memory.proofs.Accounts.{all_both, all_more, any_more, most_next, named_reached, no_true, none_next, reached_later, reached_none, reached_now, some_next, step_later}
use Rattle.worm_memory.proofs.Arriving.{Comes, HasCome, come_others, come_timed, comes_self}
use Rattle.worm_memory.proofs.Counted.{few_next, others_count, others_none, timed_numbers, unwritten_next}
use Rattle.worm_memory.proofs.Others.{ongoing_before}
use Rattle.worm_memory.specs.Runs.{HasRun}
use Rattle.worm_memory.proofs.MadeThen.{kept_made}
use Rattle.worm_memory.proofs.Running.{arrived_run}
use Rattle.worm_memory.proofs.Worlds.{Adds, after_append, image_grows, image_is, written_here}

-- one change more since the command began
pub called_append : (f : Change → Bool) (n : ℕ) (changes : List Change) (change : Change) → n ≤ length changes
    → list_all f (drop n changes) ≡ true → f change ≡ true → list_all f (drop n (changes ++ change ∷ [])) ≡ true
called_append f n changes change within all one =
    ap (list_all f) (drop-append-le n changes (change ∷ []) within)
    ∙ list_all-append f (drop n changes) (change ∷ [])
    ∙ and_from (list_all f (drop n changes)) (list_all f (change ∷ [])) all (and_from (f change) true one refl)

-- What others' writes make of a device: changes that are called for, and nothing else.
record HasOthers (s c : ℕ) (planned : List Timed) (m : Memory) (now : Outcome) : Type 0 where
  pub changes : List Change
  pub made_in : List CallNumbers
  pub writes : ℕ
  pub is : now.memory ≡ record m { changes = changes; made_in = made_in; foreign_writes = writes }
  pub longer : last_changes m.marks ≤ length changes
  pub named : list_all (is_called_for s c planned) (drop (last_changes m.marks) changes) ≡ true

same_value : (value : List ℕ) → bytes_eq value value ≡ true
same_value value = (bytes_eq-Decides value value).1 refl

-- what is planned for the call that has come is called for
called_now : (b : Bool) (s c : ℕ) (t : Timed) → names t.before b (next_step b s) (next_count c) ≡ true
    → calls_for (next_step b s) (next_count c) t.at t.value t ≡ true
called_now b s c t named =
    and_from (is_reached (next_step b s) (next_count c) t.before) ((t.at == t.at) && bytes_eq t.value t.value)
    (named_reached b s c t.before named)
    (and_from (t.at == t.at) (bytes_eq t.value t.value) (grind (arith, nat_tests)) (same_value t.value))

module _ (b : Bool) (planned : List Timed) (m : Memory) (s c : ℕ) (steps : m.steps ≡ next_step b s)
    (calls : m.calls ≡ next_count c) where
  abbrev Done : Outcome → Type 0
  Done o = o.failed ≡ false → HasOthers m.steps m.calls planned m o

  -- the rest of what is planned is planned
  abbrev AreOf : List Timed → Type 0
  AreOf rest = (f : Timed → Bool) → list_any f rest ≡ true → list_any f planned ≡ true

  first_of : (t : Timed) (rest : List Timed) → AreOf (t ∷ rest) → (f : Timed → Bool) → f t ≡ true
      → list_any f planned ≡ true
  first_of t rest of f is = of f (ap (λ x. x || list_any f rest) is)

  rest_of : (t : Timed) (rest : List Timed) → AreOf (t ∷ rest) → AreOf rest
  rest_of t rest of f is = of f (or_right (f t) (list_any f rest) is)

  names_now : (t : Timed) (now : Outcome) → HasOthers m.steps m.calls planned m now
      → names t.before b now.memory.steps now.memory.calls ≡ names t.before b (next_step b s) (next_count c)
  names_now t now has = ap (λ (x : Memory). names t.before b x.steps x.calls) has.is
      ∙ ap (λ n. names t.before b n m.calls) steps ∙ ap (λ n. names t.before b (next_step b s) n) calls

  wrote : (t : Timed) (now : Outcome) (room : ℕ) → list_any (calls_for m.steps m.calls t.at t.value) planned ≡ true
      → HasOthers m.steps m.calls planned m now
      → HasOthers m.steps m.calls planned m (goes_on (with_foreign now.memory t.at t.value) room)
  wrote t now room any has = record {
    changes = has.changes ++ Foreign t.at t.value ∷ [];
    made_in = has.made_in ++ call_of m ∷ [];
    writes = next_count has.writes;
    is = ap (λ (x : Memory). with_foreign x t.at t.value) has.is;
    longer = let l : length (has.changes ++ Foreign t.at t.value ∷ []) ≡ length has.changes + 1 = simp length-append in
        omega (arith, has.longer, l);
    named = called_append (is_called_for m.steps m.calls planned) (last_changes m.marks) has.changes
        (Foreign t.at t.value) has.longer has.named any;
  }

  went_on : (now : Outcome) → HasOthers m.steps m.calls planned m now
      → HasOthers m.steps m.calls planned m (goes_on now.memory now.room)
  went_on now has = record {
    changes = has.changes;
    made_in = has.made_in;
    writes = has.writes;
    is = has.is;
    longer = has.longer;
    named = has.named;
  }

  into : (found : Option (List ℕ)) (t : Timed) (now : Outcome)
      → list_any (calls_for m.steps m.calls t.at t.value) planned ≡ true
      → HasOthers m.steps m.calls planned m now → Done (foreign_into found t.at t.value now.memory now.room)
  into (Some found) t now any has = λ ongoing. went_on now has
  into None t now any has = cond_both (now.room == 0) _ _ Done
      (λ full ongoing. absurd (true≢false ongoing)) (λ room ongoing. wrote t now _ any has)

  one_timed : (t : Timed) (rest : List Timed) (now : Outcome) → AreOf (t ∷ rest)
      → HasOthers m.steps m.calls planned m now → Done (after_timed b t now.memory now.room)
  one_timed t rest now of has = cond_both (names t.before b now.memory.steps now.memory.calls) _ _ Done
      (λ named. into ((world now.memory.changes).image t.at) t now
      (first_of t rest of (calls_for m.steps m.calls t.at t.value)
      (ap (λ n. calls_for n m.calls t.at t.value t) steps ∙ ap (λ n. calls_for (next_step b s) n t.at t.value t) calls
      ∙ called_now b s c t (sym (names_now t now has) ∙ named))) has)
      (λ other ongoing. went_on now has)

  -- all others' writes of a call
  others_called : (rest : List Timed) (now : Outcome) → AreOf rest → Done now → Done (after_others b rest now)
  others_called [] now of has = has
  others_called (t ∷ rest) now of has = cond_both now.failed _ _ Done (λ failed ongoing. has ongoing)
      (λ ongoing. others_called rest (after_timed b t now.memory now.room) (rest_of t rest of)
      (one_timed t rest now of (has ongoing)))

-- what stands stays while others write
come_itself : (now : Outcome) → now.failed ≡ false → now.memory.faults < 2 ^ 64 → now.memory.foreign_writes < 2 ^ 64
    → length now.memory.made_in ≡ length now.memory.changes → HasCome now.memory.steps now.memory now
come_itself now ongoing faults writes one_each = record {
  comes = subst (λ f. Comes (device_of now.memory) (device_of now.memory) f) (sym ongoing)
      (comes_self (device_of now.memory));
  cells = refl;
  counted = refl;
  before = omega arith;
  one_each = one_each;
  faults = faults;
  foreign_writes = writes;
}

grows_to : (b : Bool) (rest : List Timed) (now : Outcome) → now.failed ≡ false → now.memory.faults < 2 ^ 64
    → now.memory.foreign_writes < 2 ^ 64 → length now.memory.made_in ≡ length now.memory.changes
    → Extends (world now.memory.changes).image (world (after_others b rest now).memory.changes).image
grows_to b rest now ongoing faults writes one_each =
    (come_others now.memory.steps b rest now.memory now (come_itself now ongoing faults writes one_each)).comes.called.image

some_still : (low high : Option (List ℕ)) → ((value : List ℕ) → low ≡ Some value → high ≡ Some value)
    → is_some low ≡ true → is_some high ≡ true
some_still None high keeps is = absurd (false≢true is)
some_still (Some value) high keeps is = ap is_some (keeps value refl)

-- a cell that somebody else wrote is written
into_stands : (found : Option (List ℕ)) (at : ℕ) (value : List ℕ) (m : Memory) (room : ℕ)
    → (world m.changes).image at ≡ found → (foreign_into found at value m room).failed ≡ false
    → is_some ((world (foreign_into found at value m room).memory.changes).image at) ≡ true
into_stands (Some there) at value m room is ongoing = ap is_some is
into_stands None at value m room is ongoing =
    cond_both (room == 0) (fails m room) (goes_on (with_foreign m at value) (room - 1))
    (λ (o : Outcome). o.failed ≡ false → is_some ((world o.memory.changes).image at) ≡ true)
    (λ full so. absurd (true≢false so))
    (λ some so. ap is_some (image_is m.changes (Foreign at value) at
    ∙ written_here (world m.changes).image at value is))
    ongoing

-- if what was planned names the call that has come, its cell is written
abbrev stands_if_named : Bool → ℕ → ℕ → Image → Timed → Bool
stands_if_named b s c image t = if names t.before b s c then is_some (image t.at) else true

timed_made : (b : Bool) (t : Timed) (m : Memory) (room : ℕ) → (after_timed b t m room).failed ≡ false
    → names t.before b m.steps m.calls ≡ true
    → is_some ((world (after_timed b t m room).memory.changes).image t.at) ≡ true
timed_made b t m room =
    cond_both (names t.before b m.steps m.calls) (foreign_into ((world m.changes).image t.at) t.at t.value m room)
    (goes_on m room)
    (λ (o : Outcome). o.failed ≡ false → names t.before b m.steps m.calls ≡ true
    → is_some ((world o.memory.changes).image t.at) ≡ true)
    (λ named ongoing again. into_stands ((world m.changes).image t.at) t.at t.value m room refl ongoing)
    (λ other ongoing named. no_true (names t.before b m.steps m.calls) named other)

-- Where others' writes of a call found room, the cell of each that was planned for the call is written.
all_made : (b : Bool) (s c : ℕ) (rest : List Timed) (m : Memory) (now : Outcome) → now.memory.steps ≡ s
    → now.memory.calls ≡ c → HasCome s m now → (after_others b rest now).failed ≡ false
    → list_all (stands_if_named b s c (world (after_others b rest now).memory.changes).image) rest ≡ true
all_made b s c [] m now steps calls come ongoing = refl
all_made b s c (t ∷ rest) m now steps calls come ongoing =
    let so : now.failed ≡ false = ongoing_before b (t ∷ rest) now ongoing in
    let one = after_timed b t now.memory now.room in
    let last = after_others b rest one in
    let goes : after_others b (t ∷ rest) now ≡ last = cond-false now.failed now last so in
    let still : last.failed ≡ false = ap (λ (o : Outcome). o.failed) (sym goes) ∙ ongoing in
    let first : one.failed ≡ false = ongoing_before b rest one still in
    let next : HasCome s m one = come_timed s b t m now so come in
    let same = timed_numbers b t now.memory now.room in
    let grows = grows_to b rest one first next.faults next.foreign_writes next.one_each in
    subst (λ (o : Outcome). list_all (stands_if_named b s c (world o.memory.changes).image) (t ∷ rest) ≡ true)
    (sym goes)
    (and_from (stands_if_named b s c (world last.memory.changes).image t)
    (list_all (stands_if_named b s c (world last.memory.changes).image) rest)
    (cond_both (names t.before b s c) (is_some ((world last.memory.changes).image t.at)) true (λ (x : Bool). x ≡ true)
    (λ named. some_still ((world one.memory.changes).image t.at) ((world last.memory.changes).image t.at)
    (grows.keeps t.at) (timed_made b t now.memory now.room first
    (ap (λ n. names t.before b n now.memory.calls) steps ∙ ap (λ n. names t.before b s n) calls ∙ named)))
    (λ other. refl))
    (all_made b s c rest m one (same.0 ∙ steps) (same.1 ∙ calls) next still))

calls_later : (s c s' c' at : ℕ) (value : List ℕ) → s ≤ s' → c ≤ c' → (t : Timed) → calls_for s c at value t ≡ true
    → calls_for s' c' at value t ≡ true
calls_later s c s' c' at value more calls t is =
    let both = and_parts (is_reached s c t.before) ((t.at == at) && bytes_eq t.value value) is in
    and_from (is_reached s' c' t.before) ((t.at == at) && bytes_eq t.value value)
    (reached_later s c s' c' more calls t.before both.0) both.1

called_later : (s c s' c' : ℕ) (planned : List Timed) → s ≤ s' → c ≤ c' → (change : Change)
    → is_called_for s c planned change ≡ true → is_called_for s' c' planned change ≡ true
called_later s c s' c' planned more calls (Foreign at value) is =
    any_more (calls_for s c at value) (calls_for s' c' at value) (calls_later s c s' c' at value more calls) planned is
called_later s c s' c' planned more calls (Wrote at value) is = refl
called_later s c s' c' planned more calls Synced is = refl
called_later s c s' c' planned more calls (Lost at) is = refl
called_later s c s' c' planned more calls Crashed is = refl

-- what had come before stands, and what comes now too
come_now : (b : Bool) (s c : ℕ) (old new : Image) → Extends old new → (t : Timed) → stands_if_reached s c old t ≡ true
    → stands_if_named b (next_step b s) (next_count c) new t ≡ true
    → stands_if_reached (next_step b s) (next_count c) new t ≡ true
come_now b s c old new grows t before now =
    cond_both (is_reached (next_step b s) (next_count c) t.before) (is_some (new t.at)) true (λ (x : Bool). x ≡ true)
    (λ reached. ⊎_elim
    (λ (was : is_reached s c t.before ≡ true). some_still (old t.at) (new t.at) (grows.keeps t.at)
    (sym (cond-true (is_reached s c t.before) (is_some (old t.at)) true was) ∙ before))
    (λ (named : names t.before b (next_step b s) (next_count c) ≡ true).
    sym (cond-true (names t.before b (next_step b s) (next_count c)) (is_some (new t.at)) true named) ∙ now)
    (reached_now b s c t.before reached))
    (λ not. refl)

-- the plan adds at most a fault
plan_adds : (r : Bool) (o : Outcome) (x : Memory) → o.memory ≡ x
    → (if r then fails o.memory o.room else o).memory
    ≡ record x { faults = if r then next_count x.faults else x.faults }
plan_adds true o x is = ap with_fault is
plan_adds false o x is = is

-- A call that came, where others' writes found room, leaves a command going by its plan.
pub arrived_keeps : (b : Bool) (m : Memory) (room : ℕ) (now : Outcome) → now ≡ arrived b m room
    → (others_done b m room).failed ≡ false
    → m.steps ≤ m.calls → m.steps < 2 ^ 64 → m.calls < 2 ^ 64 → m.faults < 2 ^ 64 → m.foreign_writes < 2 ^ 64
    → last_faults m.marks ≤ m.faults → last_changes m.marks ≤ length m.changes → length m.made_in ≡ length m.changes
    → KeepsPlan m → KeepsPlan now.memory
arrived_keeps b m room now is ongoing ordered fs fc ff fw later longer one_each keeps =
    let s = m.steps in
    let c = m.calls in
    let planned = m.plan.foreign in
    let begun = with_call b m in
    let start = goes_on begun room in
    let o = others_done b m room in
    let r = is_refused b m.plan s c in
    let call_later : c ≤ next_count c = omega (arith, fc) in
    let has : HasOthers (next_step b s) (next_count c) planned begun o =
    others_called b planned begun s c refl refl planned start (λ f any. any) (λ so. record {
      changes = m.changes;
      made_in = m.made_in;
      writes = m.foreign_writes;
      is = refl;
      longer = longer;
      named = all_more (is_called_for s c planned) (is_called_for (next_step b s) (next_count c) planned)
          (called_later s c (next_step b s) (next_count c) planned (step_later b s fs) call_later)
          (drop (last_changes m.marks) m.changes) keeps.named;
    }) ongoing in
    let made : list_all (stands_if_reached (next_step b s) (next_count c) (world o.memory.changes).image) planned
    ≡ true =
    all_both (stands_if_reached s c (world m.changes).image)
    (stands_if_named b (next_step b s) (next_count c) (world o.memory.changes).image)
    (stands_if_reached (next_step b s) (next_count c) (world o.memory.changes).image)
    (come_now b s c (world m.changes).image (world o.memory.changes).image (grows_to b planned start refl ff fw one_each))
    planned keeps.stands
    (all_made b (next_step b s) (next_count c) planned begun start refl refl (come_itself start refl ff fw one_each) ongoing) in
    let wrote : has.writes ≡ o.memory.foreign_writes = ap (λ (x : Memory). x.foreign_writes) (sym has.is) in
    let last : now.memory ≡ record begun {
      changes = has.changes;
      made_in = has.made_in;
      foreign_writes = has.writes;
      faults = if r then next_count m.faults else m.faults;
    } =
    ap (λ (x : Outcome). x.memory) (is ∙ cond-false o.failed o (if r then fails o.memory o.room else o) ongoing)
    ∙ plan_adds r o (record begun { changes = has.changes; made_in = has.made_in; foreign_writes = has.writes }) has.is in
    let arrived_as : Memory = record begun {
      changes = has.changes;
      made_in = has.made_in;
      foreign_writes = has.writes;
      faults = if r then next_count m.faults else m.faults;
    } in
    let ran : ∥ HasRun m.plan m.marks (course_of arrived_as) ∥₁ = ∥∥₁_map keeps.run
    (λ run. subst (HasRun m.plan m.marks) (ap course_of last) (arrived_run b m room now is ongoing run)) in
    subst KeepsPlan (sym last) (record {
      run = ran;
      none = none_next b m.plan s c (last_faults m.marks) m.faults ordered fs fc keeps.none;
      most = most_next b m.plan s c (last_faults m.marks) m.faults ordered fs fc keeps.most;
      some = some_next b m.plan s c (last_faults m.marks) m.faults ordered fs fc later keeps.some;
      unwritten = unwritten_next b s c (last_foreign_writes m.marks) m.foreign_writes has.writes planned ordered fs fc
          keeps.unwritten (λ none. wrote
          ∙ others_none b (next_step b s) (next_count c) planned start refl refl none);
      few = few_next b s c (last_foreign_writes m.marks) m.foreign_writes has.writes planned ordered fs fc keeps.few
          (omega (arith, wrote, others_count b (next_step b s) (next_count c) planned start refl refl));
      named = has.named;
      made = kept_made m.plan m.marks (course_of arrived_as) ran;
      stands = ap (λ (x : Memory). list_all (stands_if_reached (next_step b s) (next_count c) (world x.changes).image)
          planned) (sym has.is) ∙ made;
    })

-- what stands where it was called for stands on
stands_on : (s c : ℕ) (old new : Image) → Extends old new → (t : Timed) → stands_if_reached s c old t ≡ true
    → stands_if_reached s c new t ≡ true
stands_on s c old new grows t =
    cond_both (is_reached s c t.before) (is_some (old t.at)) true
    (λ (x : Bool). x ≡ true → stands_if_reached s c new t ≡ true)
    (λ reached stands. cond-true (is_reached s c t.before) (is_some (new t.at)) true reached
    ∙ some_still (old t.at) (new t.at) (grows.keeps t.at) stands)
    (λ not so. cond-false (is_reached s c t.before) (is_some (new t.at)) true not)

-- also with one change more that only adds
pub made_append : (s c : ℕ) (planned : List Timed) (changes : List Change) (change : Change) → Adds change
    → list_all (stands_if_reached s c (world changes).image) planned ≡ true
    → list_all (stands_if_reached s c (world (changes ++ change ∷ [])).image) planned ≡ true
made_append s c planned changes change adds =
    all_more (stands_if_reached s c (world changes).image)
    (stands_if_reached s c (world (changes ++ change ∷ [])).image)
    (stands_on s c (world changes).image (world (changes ++ change ∷ [])).image
    (subst (λ (now : Instant). Extends (world changes).image now.image) (sym (after_append blank changes change))
    (image_grows (world changes) change adds))) planned

-- what is planned before the first call has not come
pub none_come : (s c : ℕ) (image : Image) (planned : List Timed) → s ≤ c → c ≡ 0
    → list_all (stands_if_reached s c image) planned ≡ true
none_come s c image [] le zero = refl
none_come s c image (t ∷ rest) le zero =
    and_from (stands_if_reached s c image t) (list_all (stands_if_reached s c image) rest)
    (cond-false (is_reached s c t.before) (is_some (image t.at)) true (reached_none s c le zero t.before))
    (none_come s c image rest le zero)

-- and more may be planned
called_longer : (s c : ℕ) (planned more : List Timed) (change : Change) → is_called_for s c planned change ≡ true
    → is_called_for s c (planned ++ more) change ≡ true
called_longer s c planned more (Foreign at value) is =
    list_any-append (calls_for s c at value) planned more
    ∙ or_left (list_any (calls_for s c at value) planned) (list_any (calls_for s c at value) more) is
called_longer s c planned more (Wrote at value) is = refl
called_longer s c planned more Synced is = refl
called_longer s c planned more (Lost at) is = refl
called_longer s c planned more Crashed is = refl

pub named_longer : (s c : ℕ) (planned more : List Timed) (changes : List Change)
    → list_all (is_called_for s c planned) changes ≡ true
    → list_all (is_called_for s c (planned ++ more)) changes ≡ true
named_longer s c planned more changes =
    all_more (is_called_for s c planned) (is_called_for s c (planned ++ more)) (called_longer s c planned more) changes
