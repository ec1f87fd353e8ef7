-- What is planned for a command, one by one: the command goes by its plan all the while, since no call is made.
use Rattle.std.proofs.Common.{◌≡◌, ◌<◌, ◌+◌, ◌==◌, ◌&&◌, ℕ, suc, Bool, true, false, if◌then◌else◌, List, [], ◌∷◌, ◌++◌, take, length, map, get_or, refl, sym, ap, ◌∙◌, arith}
use Rattle.std.proofs.Math.Seq.{take-suc}
use Rattle.std.proofs.lemmas.List.{append-nil, append_assoc}
use Rattle.worm_memory.specs.Memory.{Memory, is_early, with_failure, with_planned}
use Rattle.worm_memory.specs.declared.moment.Moment.{Moment}
use Rattle.worm_memory.specs.declared.moment.Timed as planned
use Rattle.script_events.specs.declared.event.Timed.{Timed}
use Rattle.script_replies.specs.Beginnings.{planned_of, with_failures, with_foreign_planned}

abbrev pub WithFailures : List Moment → Memory → Memory → Type 0
WithFailures fails old new = new ≡ with_failures fails old

abbrev pub WithForeign : List Timed → Memory → Memory → Type 0
WithForeign foreign old new = new ≡ with_foreign_planned foreign old

pub no_failures : (m : Memory) (fails : List Moment) → WithFailures (take 0 fails) m m
no_failures m fails = ap (λ (l : List Moment). record m { plan = record m.plan { fails = l } }) (sym (append-nil m.plan.fails))

pub no_foreign : (m : Memory) (foreign : List Timed) → WithForeign (take 0 foreign) m m
no_foreign m foreign =
    ap (λ (l : List planned.Timed). record m { plan = record m.plan { foreign = l } }) (sym (append-nil m.plan.foreign))

one_longer : {A : Type 0} (xs : List A) (i : ℕ) (x : A) → i < length xs → x ≡ get_or xs i x
    → take (i + 1) xs ≡ take i xs ++ x ∷ []
one_longer xs i x within is =
    let one : i + 1 ≡ suc i = omega arith in
    ap (λ n. take n xs) one ∙ take-suc xs i x within ∙ ap (λ y. take i xs ++ y ∷ []) (sym is)

-- what is early goes by its plan
early : (b c : Bool) → b && c ≡ true → b ≡ true
early true c is = refl
early false c is = is

pub next_failure : (old mid new : Memory) (fails : List Moment) (i : ℕ) (moment : Moment) (b : Bool) → is_early old ≡ true
    → i < length fails → moment ≡ get_or fails i moment → b ≡ true
    → WithFailures (take i fails) old mid → new ≡ (if b then with_failure mid moment else mid)
    → WithFailures (take (i + 1) fails) old new
next_failure old mid new fails i moment true is_so within is ok before done =
    let goes : is_early old ≡ old.by_plan = is_so ∙ sym (early old.by_plan (old.calls == 0) is_so) in
    done ∙ ap (λ (m : Memory). with_failure m moment) before
    ∙ ap (λ (b : Bool). record (with_failure (with_failures (take i fails) old) moment) { by_plan = b }) goes
    ∙ ap (λ (l : List Moment). record old { plan = record old.plan { fails = l } })
    (append_assoc old.plan.fails (take i fails) (moment ∷ [])
    ∙ ap (λ (l : List Moment). old.plan.fails ++ l) (sym (one_longer fails i moment within is)))
next_failure old mid new fails i moment false is_so within is ok before done = absurd cc

map_append : (xs ys : List Timed) → map planned_of (xs ++ ys) ≡ map planned_of xs ++ map planned_of ys
map_append [] ys = refl
map_append (x ∷ xs) ys = ap (λ (l : List planned.Timed). planned_of x ∷ l) (map_append xs ys)

pub next_foreign : (old mid new : Memory) (foreign : List Timed) (i : ℕ) (t : Timed) (b : Bool) → is_early old ≡ true
    → i < length foreign → t ≡ get_or foreign i t → b ≡ true
    → WithForeign (take i foreign) old mid → new ≡ (if b then with_planned mid (planned_of t) else mid)
    → WithForeign (take (i + 1) foreign) old new
next_foreign old mid new foreign i t true is_so within is ok before done =
    let goes : is_early old ≡ old.by_plan = is_so ∙ sym (early old.by_plan (old.calls == 0) is_so) in
    done ∙ ap (λ (m : Memory). with_planned m (planned_of t)) before
    ∙ ap (λ (b : Bool). record (with_planned (with_foreign_planned (take i foreign) old) (planned_of t)) { by_plan = b }) goes
    ∙ ap (λ (l : List planned.Timed). record old { plan = record old.plan { foreign = l } })
    (append_assoc old.plan.foreign (map planned_of (take i foreign)) (planned_of t ∷ [])
    ∙ ap (λ (l : List planned.Timed). old.plan.foreign ++ l)
    (sym (map_append (take i foreign) (t ∷ []))
    ∙ ap (λ (l : List Timed). map planned_of l) (sym (one_longer foreign i t within is))))
next_foreign old mid new foreign i t false is_so within is ok before done = absurd cc
