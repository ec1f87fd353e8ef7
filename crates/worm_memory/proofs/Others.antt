-- The foreign writes that are planned, one after another.
use Rattle.std.proofs.Common.{◌≡◌, ◌<◌, ◌+◌, ◌++◌, if◌then◌else◌, ℕ, zero, suc, Bool, true, false, List, [], ◌∷◌, drop, Some, None, refl, ap, sym, subst, ◌∙◌, add-one}
use Rattle.std.specs.List.{slice_get}
use Rattle.std.proofs.lemmas.Bool.{cond-true, false_from_ne_true, true≢false}
use Rattle.std.proofs.lemmas.Option.{none-some, same_Some}
use Rattle.worm_memory.specs.Memory.{Memory}
use Rattle.worm_memory.specs.Outcomes.{Outcome, goes_on, after_others, after_timed}
use Rattle.worm_memory.specs.Plans.{AreWritesInside}
use Rattle.worm_memory.specs.declared.moment.Timed.{Timed}

-- the next one
next : (is_step : Bool) (planned : List Timed) (place : ℕ) (timed : Timed) (m : Memory) (room : ℕ)
    → slice_get planned place ≡ Some timed
    → after_others is_step (drop place planned) (goes_on m room)
    ≡ after_others is_step (drop (suc place) planned) (after_timed is_step timed m room)
next is_step [] place timed m room here = absurd (none-some timed here)
next is_step (first ∷ rest) zero timed m room here =
    ap (λ (t : Timed). after_others is_step rest (after_timed is_step t m room)) (same_Some first timed here)
next is_step (first ∷ rest) (suc place) timed m room here = next is_step rest place timed m room here

pub next_others : (is_step : Bool) (planned : List Timed) (place : ℕ) (timed : Timed) (m : Memory) (room : ℕ)
    → slice_get planned place ≡ Some timed
    → after_others is_step (drop place planned) (goes_on m room)
    ≡ after_others is_step (drop (place + 1) planned) (after_timed is_step timed m room)
next_others is_step planned place timed m room here =
    next is_step planned place timed m room here
    ∙ ap (λ n. after_others is_step (drop n planned) (after_timed is_step timed m room)) (sym (add-one place))

-- after a failure there is none
pub no_others : (is_step : Bool) (planned : List Timed) (now : Outcome) → now.failed ≡ true
    → after_others is_step planned now ≡ now
no_others is_step [] now failed = refl
no_others is_step (timed ∷ rest) now failed = cond-true now.failed _ _ failed

-- of what failed before nothing comes
pub ongoing_before : (b : Bool) (rest : List Timed) (now : Outcome) → (after_others b rest now).failed ≡ false
    → now.failed ≡ false
ongoing_before b rest now ongoing = false_from_ne_true now.failed
    (λ failed. true≢false (sym failed ∙ sym (ap (λ (o : Outcome). o.failed) (no_others b rest now failed)) ∙ ongoing))

-- and past the last one neither
nothing_left : (planned : List Timed) (place : ℕ) → slice_get planned place ≡ None → drop place planned ≡ []
nothing_left [] zero here = refl
nothing_left [] (suc place) here = refl
nothing_left (first ∷ rest) zero here = absurd (none-some first (sym here))
nothing_left (first ∷ rest) (suc place) here = nothing_left rest place here

nothing_next : (planned : List Timed) (place : ℕ) → slice_get planned place ≡ None → drop (suc place) planned ≡ []
nothing_next [] place here = refl
nothing_next (first ∷ rest) zero here = absurd (none-some first (sym here))
nothing_next (first ∷ rest) (suc place) here = nothing_next rest place here

pub past_others : (is_step : Bool) (planned : List Timed) (place : ℕ) (now : Outcome) → slice_get planned place ≡ None
    → after_others is_step (drop (place + 1) planned) now ≡ after_others is_step (drop place planned) now
past_others is_step planned place now here =
    ap (λ (l : List Timed). after_others is_step l now)
    (ap (λ n. drop n planned) (add-one place) ∙ nothing_next planned place here ∙ sym (nothing_left planned place here))

-- what is planned lies inside the device, and so does one more
pub inside_append : (cells : ℕ) (planned : List Timed) (timed : Timed) → AreWritesInside cells planned → timed.at < cells
    → AreWritesInside cells (planned ++ timed ∷ [])
inside_append cells [] timed inside within zero found here =
    subst (λ (t : Timed). t.at < cells) (same_Some timed found here) within
inside_append cells [] timed inside within (suc place) found here = absurd (none-some found here)
inside_append cells (first ∷ rest) timed inside within zero found here = inside zero found here
inside_append cells (first ∷ rest) timed inside within (suc place) found here =
    inside_append cells rest timed (λ p t is. inside (suc p) t is) within place found here

pub inside_pushed : (cells : ℕ) (planned : List Timed) (timed : Timed) (b : Bool) → AreWritesInside cells planned
    → timed.at < cells
    → AreWritesInside cells (if b then planned ++ timed ∷ [] else planned)
inside_pushed cells planned timed true inside within = inside_append cells planned timed inside within
inside_pushed cells planned timed false inside within = inside
