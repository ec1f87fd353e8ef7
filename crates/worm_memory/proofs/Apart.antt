-- A call comes the same whether the command goes by its plan or not.
use Rattle.std.proofs.Common.{◌≡◌, ◌-◌, ◌==◌, if◌then◌else◌, ℕ, Bool, true, false, List, [], ◌∷◌, Option, Some, None, refl, ap, ◌∙◌}
use Rattle.worm_memory.specs.declared.moment.Timed.{Timed}
use Rattle.worm_memory.specs.Memory.{Memory, with_call, with_foreign}
use Rattle.worm_memory.specs.Outcomes.{Outcome, goes_on, fails, foreign_into, after_timed, after_others, after_plan, others_done, arrived}
use Rattle.worm_memory.specs.Plans.{is_refused, names}
use Rattle.worm_memory.specs.Worlds.{world}

-- what an outcome is where the command goes by its plan or not
abbrev pub with_by : Bool → Outcome → Outcome
with_by p o = record o { memory = record o.memory { by_plan = p } }

cond_out : {A B : Type 0} (f : A → B) (b : Bool) (x y : A) → f (if b then x else y) ≡ (if b then f x else f y)
cond_out f true x y = refl
cond_out f false x y = refl

into_with : (p : Bool) (found : Option (List ℕ)) (at : ℕ) (value : List ℕ) (m : Memory) (room : ℕ)
    → with_by p (foreign_into found at value m room) ≡ foreign_into found at value (record m { by_plan = p }) room
into_with p (Some found) at value m room = refl
into_with p None at value m room =
    cond_out (with_by p) (room == 0) (fails m room) (goes_on (with_foreign m at value) (room - 1))

timed_with : (p b : Bool) (t : Timed) (m : Memory) (room : ℕ)
    → with_by p (after_timed b t m room) ≡ after_timed b t (record m { by_plan = p }) room
timed_with p b t m room =
    cond_out (with_by p) (names t.before b m.steps m.calls)
    (foreign_into ((world m.changes).image t.at) t.at t.value m room) (goes_on m room)
    ∙ ap (λ o. if names t.before b m.steps m.calls then o else goes_on (record m { by_plan = p }) room)
    (into_with p ((world m.changes).image t.at) t.at t.value m room)

others_with : (p b : Bool) (planned : List Timed) (o : Outcome)
    → with_by p (after_others b planned o) ≡ after_others b planned (with_by p o)
others_with p b [] o = refl
others_with p b (t ∷ rest) o =
    cond_out (with_by p) o.failed o (after_others b rest (after_timed b t o.memory o.room))
    ∙ ap (λ x. if o.failed then with_by p o else x)
    (others_with p b rest (after_timed b t o.memory o.room)
    ∙ ap (after_others b rest) (timed_with p b t o.memory o.room))

plan_with : (p r : Bool) (o : Outcome) → with_by p (after_plan r o) ≡ after_plan r (with_by p o)
plan_with p r o =
    cond_out (with_by p) o.failed o (if r then fails o.memory o.room else o)
    ∙ ap (λ x. if o.failed then with_by p o else x) (cond_out (with_by p) r (fails o.memory o.room) o)

-- a call comes the same whether the command goes by its plan or not
pub arrived_with : (p b : Bool) (m : Memory) (room : ℕ)
    → with_by p (arrived b m room) ≡ arrived b (record m { by_plan = p }) room
arrived_with p b m room =
    plan_with p (is_refused b m.plan m.steps m.calls) (others_done b m room)
    ∙ ap (after_plan (is_refused b m.plan m.steps m.calls))
    (others_with p b m.plan.foreign (goes_on (with_call b m) room))
