-- Time that goes on at a device in memory: what a crash could have left, over a call.
use Rattle.std.proofs.Common.{◌≡◌, ◌≤◌, ◌<◌, ◌+◌, ⊎_elim, inl, inr, ℕ, zero, suc, List, [], ◌∷◌, ◌++◌, length, take, refl, ap, sym, subst, ◌∙◌, arith}
use Rattle.std.proofs.Math.Seq.{take-length}
use Rattle.std.proofs.lemmas.Bool.{cases_lt}
use Rattle.std.proofs.lemmas.List.{take-append-le, length-append}
use Rattle.cell_types.specs.Image.{Image, Extends, Between}
use Rattle.worm_device.specs.State.{Instant, LeftSince}
use Rattle.worm_device.specs.Calls.{Elapses, Remembers}
use Rattle.worm_device.specs.Counts.{Rose}
use Rattle.worm_device.proofs.Images.{extends_self, between_wider}
use Rattle.worm_memory.specs.declared.change.Change.{Change}
use Rattle.worm_memory.specs.declared.mark.CallNumbers.{CallNumbers}
use Rattle.worm_memory.specs.Worlds.{blank, world}
use Rattle.worm_memory.specs.Memory.{Memory, at_step, call_of, change_step, change_steps, device_of, with_change}
use Rattle.worm_memory.specs.Proper.{sure_stands, blank_stands}
use Rattle.worm_memory.proofs.Worlds.{after_append, Adds, image_grows, sure_grows}

-- counts rise, and the record stays: what a crash could have left stays too
pub elapses_counted : (m : Memory) (from to faults reads foreign_writes : ℕ)
    → Elapses (at_step from (device_of m))
    (at_step to (device_of (record m { faults = faults; reads = reads; foreign_writes = foreign_writes })))
elapses_counted m from to faults reads foreign_writes = record {
  later = omega arith;
  image = extends_self (world m.changes).image;
  sure = extends_self (world m.changes).sure;
  keeps = λ since image le left. left;
  adds = λ since image le left. inl left;
}

-- a crash could have left this image at some instant
abbrev Left : Image → Instant → Type 0
Left image now = Between now.sure now.image image

-- what stood at each earlier moment is the same in a longer record
past_stays : (changes : List Change) (change : Change) (moment : ℕ) → moment ≤ length changes
    → world (take moment (changes ++ change ∷ [])) ≡ world (take moment changes)
past_stays changes change moment within = ap world (take-append-le moment changes (change ∷ []) within)

-- and the last of these moments is the one before the change
past_now : (changes : List Change) (change : Change) (moment : ℕ) → moment ≡ length changes
    → world (take moment (changes ++ change ∷ [])) ≡ world changes
past_now changes change moment here =
    past_stays changes change moment (omega arith) ∙ ap world (ap (λ n. take n changes) here ∙ take-length changes)

one_longer : (changes : List Change) (change : Change) → length (changes ++ change ∷ []) ≡ length changes + 1
one_longer changes change = simp length-append

-- one more change keeps what stands, and what is sure
pub image_after : (m : Memory) (change : Change) → Adds change
    → Extends (device_of m).image (device_of (with_change m change)).image
image_after m change adds =
    subst (λ (now : Instant). Extends (world m.changes).image now.image) (sym (after_append blank m.changes change))
    (image_grows (world m.changes) change adds)

pub sure_after : (m : Memory) (change : Change) → Extends (device_of m).sure (device_of (with_change m change)).sure
sure_after m change =
    subst (λ (now : Instant). Extends (world m.changes).sure now.sure) (sym (after_append blank m.changes change))
    (sure_grows (world m.changes) change (sure_stands blank m.changes blank_stands))

-- what could be left before it can still be left: the present has become the last moment of the past
pub left_still : (m : Memory) (change : Change) (since : ℕ) (image : Image) → since ≤ length m.changes
    → LeftSince (device_of m) since image → LeftSince (device_of (with_change m change)) since image
left_still m change since image le left =
    let longer : length (m.changes ++ change ∷ []) ≡ length m.changes + 1 = one_longer m.changes change in
    ⊎_elim
    (λ now. inr (
      length m.changes,
      le,
      omega arith,
      subst (Left image)
          (sym (past_now m.changes change (length m.changes) refl)) now,
    ))
    (λ before. inr (
      before.0,
      before.1,
      omega arith,
      subst (Left image)
          (sym (past_stays m.changes change before.0 (omega arith))) before.3,
    ))
    left

-- what could be left at a moment of the longer past could be left before
left_before : (m : Memory) (change : Change) (since : ℕ) (image : Image) (moment : ℕ) → since ≤ moment
    → moment < length (m.changes ++ change ∷ []) → Left image (world (take moment (m.changes ++ change ∷ [])))
    → LeftSince (device_of m) since image
left_before m change since image moment le within left =
    let longer : length (m.changes ++ change ∷ []) ≡ length m.changes + 1 = one_longer m.changes change in
    ⊎_elim
    (λ earlier. inr (moment, le, earlier, subst (Left image) (past_stays m.changes change moment (omega arith)) left))
    (λ last. inl (subst (Left image) (past_now m.changes change moment (omega arith)) left))
    (cases_lt moment (length m.changes))

-- one more change
pub elapses_changed : (m : Memory) (from to : ℕ) (change : Change) → Adds change
    → Elapses (at_step from (device_of m)) (at_step to (device_of (with_change m change)))
elapses_changed m from to change adds =
    let longer : length (m.changes ++ change ∷ []) ≡ length m.changes + 1 = one_longer m.changes change in
    record {
      later = omega arith;
      image = image_after m change adds;
      sure = sure_after m change;
      keeps = λ since image le left. left_still m change since image le left;
      adds = λ since image le left.
          ⊎_elim
          (λ now. inr (between_wider (sure_after m change) (extends_self (world (m.changes ++ change ∷ [])).image) now))
          (λ before. inl (left_before m change since image before.0 before.1 before.2 before.3))
          left;
    }

-- what is told of the past stays told
pub remembers_counted : (m : Memory) (from to faults reads foreign_writes : ℕ) → from ≤ to
    → Remembers (at_step from (device_of m))
    (at_step to (device_of (record m { faults = faults; reads = reads; foreign_writes = foreign_writes })))
remembers_counted m from to faults reads foreign_writes less = record {
  later = omega arith;
  past = λ moment before. refl;
  last = λ later. absurd (omega (arith, later));
  still = λ same. refl;
  steps = less;
  steps_past = λ moment before. refl;
  steps_since = λ moment since before. absurd (omega (arith, since, before));
}

-- which step made a change is told of each by its own numbers
steps_stay : (changes : List Change) (made_in : List CallNumbers) (change : Change) (call : CallNumbers) (place : ℕ)
    → length made_in ≡ length changes → place < length changes
    → change_steps (changes ++ change ∷ []) (made_in ++ call ∷ []) place ≡ change_steps changes made_in place
steps_stay [] made_in change call place same before = absurd (omega (arith, before))
steps_stay (c ∷ changes) [] change call place same before = absurd (omega (arith, same))
steps_stay (c ∷ changes) (n ∷ made_in) change call zero same before = refl
steps_stay (c ∷ changes) (n ∷ made_in) change call (suc place) same before =
    steps_stay changes made_in change call place (omega (arith, same)) (omega (arith, before))

steps_last : (changes : List Change) (made_in : List CallNumbers) (change : Change) (call : CallNumbers) (place : ℕ)
    → length made_in ≡ length changes → place ≡ length changes
    → change_steps (changes ++ change ∷ []) (made_in ++ call ∷ []) place ≡ change_step change call
steps_last [] [] change call zero same last = refl
steps_last [] [] change call (suc place) same last = absurd (omega (arith, last))
steps_last [] (n ∷ made_in) change call place same last = absurd (omega (arith, same))
steps_last (c ∷ changes) [] change call place same last = absurd (omega (arith, same))
steps_last (c ∷ changes) (n ∷ made_in) change call zero same last = absurd (omega (arith, last))
steps_last (c ∷ changes) (n ∷ made_in) change call (suc place) same last =
    steps_last changes made_in change call place (omega (arith, same)) (omega (arith, last))

pub remembers_changed : (m : Memory) (from to : ℕ) (change : Change) → length m.made_in ≡ length m.changes
    → from ≤ to → Rose from (change_step change (call_of m))
    → Remembers (at_step from (device_of m)) (at_step to (device_of (with_change m change)))
remembers_changed m from to change one_each less rose =
    let longer : length (m.changes ++ change ∷ []) ≡ length m.changes + 1 = one_longer m.changes change in
    record {
      later = omega arith;
      past = λ moment before. past_stays m.changes change moment (omega (arith, before));
      last = λ later. past_now m.changes change (length m.changes) refl;
      still = λ same. absurd (omega (arith, longer, same));
      steps = less;
      steps_past = λ moment before.
          steps_stay m.changes m.made_in change (call_of m) moment one_each before;
      steps_since = λ moment since before. subst (λ n. Rose from n)
          (sym (steps_last m.changes m.made_in change (call_of m) moment one_each (omega (arith, longer, since, before))))
          rose;
    }
