-- What others have written is counted: over the record, and by the plan as a call comes.
use Rattle.std.proofs.Common.{◌≡◌, ◌≤◌, ◌<◌, ◌+◌, ◌-◌, ◌^◌, ◌==◌, cond, ℕ, Bool, false, List, [], ◌∷◌, ◌++◌, length, Option, Some, None, refl, ap, sym, subst, ◌∙◌, arith}
use Rattle.std.specs.List.{count_by, list_any}
use Rattle.std.proofs.lemmas.Bool.{cond_both, or_left, or_right}
use Rattle.std.proofs.lemmas.List.Sums.{sum_by-cons}
use Rattle.worm_device.specs.Counts.{next_count}
use Rattle.worm_memory.specs.Losses.{crash_changes}
use Rattle.worm_memory.specs.Memory.{Memory, counted_with, with_foreign}
use Rattle.worm_memory.specs.Outcomes.{Outcome, goes_on, fails, foreign_into, after_timed, after_others}
use Rattle.worm_memory.specs.Plans.{is_due, names, next_step}
use Rattle.worm_memory.specs.Unsure.{is_among}
use Rattle.worm_memory.specs.Worlds.{foreign_writes_in, world}
use Rattle.worm_memory.specs.declared.change.Change.{Change}
use Rattle.worm_memory.specs.declared.change.Change.TheVariants.{Wrote, Foreign, Synced, Lost, Crashed}
use Rattle.worm_memory.specs.declared.moment.Timed.{Timed}
use Rattle.worm_memory.proofs.Accounts.{any_more, count_both, named_reached, no_true, not_before, one_each, one_if, reached_later, step_later}

-- not more changes are somebody else's than there are
pub not_more : (changes : List Change) → foreign_writes_in changes ≤ length changes
not_more [] = omega arith
not_more (Wrote at value ∷ changes) = omega (arith, not_more changes)
not_more (Foreign at value ∷ changes) = omega (arith, not_more changes)
not_more (Synced ∷ changes) = omega (arith, not_more changes)
not_more (Lost at ∷ changes) = omega (arith, not_more changes)
not_more (Crashed ∷ changes) = omega (arith, not_more changes)

-- one row after another
pub in_both : (changes more : List Change)
    → foreign_writes_in (changes ++ more) ≡ foreign_writes_in changes + foreign_writes_in more
in_both [] more = omega arith
in_both (Wrote at value ∷ changes) more = in_both changes more
in_both (Foreign at value ∷ changes) more = omega (arith, in_both changes more)
in_both (Synced ∷ changes) more = in_both changes more
in_both (Lost at ∷ changes) more = in_both changes more
in_both (Crashed ∷ changes) more = in_both changes more

-- a change more is counted if it is somebody else's, as long as counts go on
one_counts : (change : Change) (count : ℕ) → count + 1 < 2 ^ 64
    → counted_with change count ≡ count + foreign_writes_in (change ∷ [])
one_counts (Wrote at value) count fits = omega arith
one_counts (Foreign at value) count fits = omega (arith, fits)
one_counts Synced count fits = omega arith
one_counts (Lost at) count fits = omega arith
one_counts Crashed count fits = omega arith

pub one_counted : (changes : List Change) (change : Change) → length changes + 1 < 2 ^ 64
    → counted_with change (foreign_writes_in changes) ≡ foreign_writes_in (changes ++ change ∷ [])
one_counted changes change fits =
    one_counts change (foreign_writes_in changes) (omega (arith, fits, not_more changes))
    ∙ sym (in_both changes (change ∷ []))

-- a crash is nobody's write
none_crashed : (keep unsure : List ℕ) → foreign_writes_in (crash_changes keep unsure) ≡ 0
none_crashed keep [] = refl
none_crashed keep (at ∷ unsure) =
    cond_both (is_among at keep) (crash_changes keep unsure) (Lost at ∷ crash_changes keep unsure)
    (λ changes. foreign_writes_in changes ≡ 0) (λ kept. none_crashed keep unsure) (λ lost. none_crashed keep unsure)

pub crash_counted : (keep unsure : List ℕ) (changes : List Change)
    → foreign_writes_in (changes ++ crash_changes keep unsure) ≡ foreign_writes_in changes
crash_counted keep unsure changes =
    omega (arith, in_both changes (crash_changes keep unsure), none_crashed keep unsure)

-- the numbers of the call that has come stay
into_numbers : (found : Option (List ℕ)) (at : ℕ) (value : List ℕ) (m : Memory) (room : ℕ)
    → ((foreign_into found at value m room).memory.steps ≡ m.steps)
    × ((foreign_into found at value m room).memory.calls ≡ m.calls)
into_numbers (Some there) at value m room = (refl, refl)
into_numbers None at value m room =
    cond_both (room == 0) (fails m room) (goes_on (with_foreign m at value) (room - 1))
    (λ (o : Outcome). (o.memory.steps ≡ m.steps) × (o.memory.calls ≡ m.calls))
    (λ full. (refl, refl)) (λ some. (refl, refl))

pub timed_numbers : (b : Bool) (t : Timed) (m : Memory) (room : ℕ)
    → ((after_timed b t m room).memory.steps ≡ m.steps) × ((after_timed b t m room).memory.calls ≡ m.calls)
timed_numbers b t m room =
    cond_both (names t.before b m.steps m.calls) (foreign_into ((world m.changes).image t.at) t.at t.value m room)
    (goes_on m room) (λ (o : Outcome). (o.memory.steps ≡ m.steps) × (o.memory.calls ≡ m.calls))
    (λ named. into_numbers ((world m.changes).image t.at) t.at t.value m room) (λ other. (refl, refl))

-- What others write before one call: at most what was planned for it.
abbrev naming : Bool → ℕ → ℕ → Timed → Bool
naming b s c timed = names timed.before b s c

into_count : (found : Option (List ℕ)) (at : ℕ) (value : List ℕ) (m : Memory) (room : ℕ)
    → (foreign_into found at value m room).memory.foreign_writes ≤ m.foreign_writes + 1
into_count (Some there) at value m room = omega arith
into_count None at value m room =
    cond_both (room == 0) (fails m room) (goes_on (with_foreign m at value) (room - 1))
    (λ (o : Outcome). o.memory.foreign_writes ≤ m.foreign_writes + 1) (λ full. omega arith) (λ some. omega arith)

timed_count : (b : Bool) (t : Timed) (m : Memory) (room : ℕ)
    → (after_timed b t m room).memory.foreign_writes ≤ m.foreign_writes + one_if (naming b m.steps m.calls) t
timed_count b t m room =
    cond_both (names t.before b m.steps m.calls) (foreign_into ((world m.changes).image t.at) t.at t.value m room)
    (goes_on m room)
    (λ (o : Outcome). o.memory.foreign_writes ≤ m.foreign_writes + one_if (naming b m.steps m.calls) t)
    (λ named. subst (λ n. (foreign_into ((world m.changes).image t.at) t.at t.value m room).memory.foreign_writes
    ≤ m.foreign_writes + n) (sym (ap (λ (x : Bool). cond x 1 0) named))
    (into_count ((world m.changes).image t.at) t.at t.value m room))
    (λ other. omega arith)

pub others_count : (b : Bool) (s c : ℕ) (rest : List Timed) (now : Outcome) → now.memory.steps ≡ s
    → now.memory.calls ≡ c
    → (after_others b rest now).memory.foreign_writes ≤ now.memory.foreign_writes + count_by (naming b s c) rest
others_count b s c [] now steps calls = omega arith
others_count b s c (t ∷ rest) now steps calls =
    let one = after_timed b t now.memory now.room in
    let same = timed_numbers b t now.memory now.room in
    let first : one.memory.foreign_writes ≤ now.memory.foreign_writes + one_if (naming b s c) t =
    subst (λ n. one.memory.foreign_writes ≤ now.memory.foreign_writes + one_if (naming b s n) t) calls
    (subst (λ n. one.memory.foreign_writes ≤ now.memory.foreign_writes + one_if (naming b n now.memory.calls) t) steps
    (timed_count b t now.memory now.room)) in
    let all : count_by (naming b s c) (t ∷ rest) ≡ one_if (naming b s c) t + count_by (naming b s c) rest =
    sum_by-cons (one_if (naming b s c)) t rest in
    cond_both now.failed now (after_others b rest one)
    (λ (o : Outcome). o.memory.foreign_writes ≤ now.memory.foreign_writes + count_by (naming b s c) (t ∷ rest))
    (λ failed. omega arith)
    (λ ongoing. let more = others_count b s c rest one (same.0 ∙ steps) (same.1 ∙ calls) in omega (arith, first, all, more))

-- none where none of them is planned for it
timed_none : (b : Bool) (t : Timed) (m : Memory) (room : ℕ) → names t.before b m.steps m.calls ≡ false
    → (after_timed b t m room).memory.foreign_writes ≡ m.foreign_writes
timed_none b t m room none =
    cond_both (names t.before b m.steps m.calls) (foreign_into ((world m.changes).image t.at) t.at t.value m room)
    (goes_on m room) (λ (o : Outcome). o.memory.foreign_writes ≡ m.foreign_writes)
    (λ named. no_true (names t.before b m.steps m.calls) named none) (λ other. refl)

pub others_none : (b : Bool) (s c : ℕ) (rest : List Timed) (now : Outcome) → now.memory.steps ≡ s
    → now.memory.calls ≡ c → list_any (naming b s c) rest ≡ false
    → (after_others b rest now).memory.foreign_writes ≡ now.memory.foreign_writes
others_none b s c [] now steps calls none = refl
others_none b s c (t ∷ rest) now steps calls none =
    let one = after_timed b t now.memory now.room in
    let same = timed_numbers b t now.memory now.room in
    let here : names t.before b s c ≡ false =
    not_before (naming b s c t) (list_any (naming b s c) (t ∷ rest))
    (λ is. or_left (naming b s c t) (list_any (naming b s c) rest) is) none in
    let after : list_any (naming b s c) rest ≡ false =
    not_before (list_any (naming b s c) rest) (list_any (naming b s c) (t ∷ rest))
    (λ is. or_right (naming b s c t) (list_any (naming b s c) rest) is) none in
    cond_both now.failed now (after_others b rest one)
    (λ (o : Outcome). o.memory.foreign_writes ≡ now.memory.foreign_writes)
    (λ failed. refl)
    (λ ongoing. others_none b s c rest one (same.0 ∙ steps) (same.1 ∙ calls) after
    ∙ timed_none b t now.memory now.room
    (ap (λ n. names t.before b n now.memory.calls) steps ∙ ap (λ n. names t.before b s n) calls ∙ here))

-- one call more, in which others wrote at most what was planned for it
module _ (b : Bool) (s c last before after : ℕ) (planned : List Timed) (ordered : s ≤ c) (fs : s < 2 ^ 64)
    (fc : c < 2 ^ 64) where
  abbrev s' : ℕ
  s' = next_step b s

  abbrev c' : ℕ
  c' = next_count c

  later : c ≤ c'
  later = omega (arith, fc)

  pub unwritten_next : (list_any (is_due s c) planned ≡ false → before ≡ last)
      → (list_any (naming b s' c') planned ≡ false → after ≡ before)
      → list_any (is_due s' c') planned ≡ false → after ≡ last
  unwritten_next so still none =
      still (not_before (list_any (naming b s' c') planned) (list_any (is_due s' c') planned)
      (any_more (naming b s' c') (is_due s' c') (λ t. named_reached b s c t.before) planned) none)
      ∙ so (not_before (list_any (is_due s c) planned) (list_any (is_due s' c') planned)
      (any_more (is_due s c) (is_due s' c') (λ t. reached_later s c s' c' (step_later b s fs) later t.before) planned)
      none)

  pub few_next : (c < 2 ^ 64 - 1 → before ≤ last + count_by (is_due s c) planned)
      → after ≤ before + count_by (naming b s' c') planned
      → c' < 2 ^ 64 - 1 → after ≤ last + count_by (is_due s' c') planned
  few_next so more fits = omega (arith, so (omega (arith, room)), more, both)
    where
      room : c + 1 < 2 ^ 64 - 1
      room = omega (arith, fits)

      both : count_by (is_due s c) planned + count_by (naming b s' c') planned ≤ count_by (is_due s' c') planned
      both = count_both (is_due s c) (naming b s' c') (is_due s' c') (λ t. one_each b s c ordered room t.before) planned
