-- A row of cells, read one after another.
use Rattle.std.proofs.Common.{◌≡◌, ◌≢◌, ◌<◌, ◌≤◌, ◌+◌, ◌⊎◌, ℕ, List, length, slice_get, Option, Some, None, Ok, refl, sym, ap, ◌∙◌, ⊎_elim, subst, arith}
use Rattle.std.specs.Prelude.{IsTrue}
use Rattle.std.proofs.Math.ListN.{set}
use Rattle.std.proofs.lemmas.List.{length-set, get_or-set_same, get_or-set_other}
use Rattle.std.proofs.lemmas.Option.{slice_get_within, slice_get-get_or, get_or_from_slice_get}
use Rattle.cell_types.specs.Image.{Image, Extends, IsUnchanged}
use Rattle.worm_device.specs.Calls.{Called, Reads}
use Rattle.worm_device.specs.Counts.{IsStill}
use Rattle.worm_device.specs.ReadRows.{IsFoundBetween, AreFoundBetween}
use Rattle.worm_device.specs.State.{DeviceState}
use Rattle.worm_device.specs.Views.{ViewState, Viewed, ViewReads}
use Rattle.worm_device.proofs.Counting.{still_first, still_second}
use Rattle.worm_device.proofs.Elapsing.{called_then}
use Rattle.worm_device.proofs.Images.{extends_then, unchanged_then}
use Rattle.worm_device.proofs.Resting.{viewed_then}

-- the first so many cells of a row are read
pub record HasRead (count at : ℕ) (room found : List (Option (List ℕ))) (old now : DeviceState) : Type 0 where
  pub called : Called old now
  pub only : IsStill old.foreign_writes now.foreign_writes → IsUnchanged old.image now.image
  pub size : length found ≡ length room
  pub holds : IsTrue old.tells → AreFoundBetween count at found old.image now.image
  pub faults : now.faults ≡ old.faults
  pub reads : now.reads ≤ old.reads + count

-- the same of a view
pub record HasViewed (count at : ℕ) (room found : List (Option (List ℕ))) (old now : ViewState) : Type 0 where
  pub viewed : Viewed old now
  pub size : length found ≡ length room
  pub holds : IsTrue old.base.tells → AreFoundBetween count at found old.image now.image
  pub faults : now.base.faults ≡ old.base.faults
  pub reads : now.base.reads ≤ old.base.reads + count

by_found : (R : Type 0) (found : Option (List ℕ)) → (found ≡ None → R) → ((v : List ℕ) → found ≡ Some v → R) → R
by_found R None none some = none refl
by_found R (Some v) none some = some v refl

none_some : (a : List ℕ) → Some a ≡ None → ⊥
none_some a e = cc

-- what is blank in a later image was blank in an earlier one
pub blank_before : (a b : Image) (cell : ℕ) → Extends a b → b cell ≡ None → a cell ≡ None
blank_before a b cell grows blank = by_found (a cell ≡ None) (a cell) (λ none. none)
    (λ v stood. absurd (none_some v (sym (grows.keeps cell v stood) ∙ blank)))

-- what was found stays found while images grow
found_longer : (cell : ℕ) (held : Option (List ℕ)) (a b c : Image) → Extends b c → IsFoundBetween a b cell held
    → IsFoundBetween a c cell held
found_longer cell None a b c goes h = h
found_longer cell (Some v) a b c goes h = goes.keeps cell v h

-- what stands now is found
found_now : (cell : ℕ) (held : Option (List ℕ)) (a c : Image) → Extends a c → held ≡ c cell
    → IsFoundBetween a c cell held
found_now cell None a c grows is = blank_before a c cell grows (sym is)
found_now cell (Some v) a c grows is = sym is

get_set_other : (found : List (Option (List ℕ))) (n place : ℕ) (held put : Option (List ℕ)) → place < n
    → slice_get (set found n put) place ≡ Some held → slice_get found place ≡ Some held
get_set_other found n place held put less is =
    let far : place ≢ n = λ e. omega (arith, e, less) in
    let within : place < length (set found n put) = slice_get_within (set found n put) place held is in
    let size : length (set found n put) ≡ length found = length-set found n put in
    slice_get-get_or found place put (omega (arith, within, size))
    ∙ ap (λ (v : Option (List ℕ)). Some v) (sym (get_or-set_other found n place put put far)
    ∙ get_or_from_slice_get (set found n put) place held put is)

get_set_same : (found : List (Option (List ℕ))) (n : ℕ) (held put : Option (List ℕ)) → n < length found
    → slice_get (set found n put) n ≡ Some held → held ≡ put
get_set_same found n held put within is = sym (get_or_from_slice_get (set found n put) n held put is)
    ∙ get_or-set_same found n put put within

below_or_at : (k n : ℕ) → k < n + 1 → (k < n) ⊎ (k ≡ n)
below_or_at k n h = grind arith

-- one cell more is found
pub found_more : (at n : ℕ) (found : List (Option (List ℕ))) (put : Option (List ℕ)) (a b c : Image) → Extends a b
    → Extends b c → n < length found → AreFoundBetween n at found a b → put ≡ c (at + n)
    → AreFoundBetween (n + 1) at (set found n put) a c
found_more at n found put a b c grows goes within holds is place held below there = ⊎_elim
    (λ (less : place < n). found_longer (at + place) held a b c goes
    (holds place held less (get_set_other found n place held put less there)))
    (λ (here : place ≡ n).
    let same : held ≡ put = get_set_same found n held put within
    (subst (λ (k : ℕ). slice_get (set found n put) k ≡ Some held) here there) in
    found_now (at + place) held a c (extends_then grows goes)
    (same ∙ is ∙ ap (λ (k : ℕ). c (at + k)) (sym here)))
    (below_or_at place n below)

-- one cell more is read
pub row_read_more : (at n : ℕ) (room found : List (Option (List ℕ))) (put : Option (List ℕ)) (old mid new : DeviceState)
    → n < length found → HasRead n at room found old mid → Reads (at + n) mid new (Ok put)
    → HasRead (n + 1) at room (set found n put) old new
row_read_more at n room found put old mid new within first reads = record {
  called = called_then first.called reads.called;
  only = λ still. unchanged_then (first.only (still_first first.called.foreign_writes reads.called.foreign_writes still))
      (reads.only (still_second first.called.foreign_writes reads.called.foreign_writes still));
  size = length-set found n put ∙ first.size;
  holds = λ tells. found_more at n found put old.image mid.image new.image first.called.image reads.called.image within
      (first.holds tells) (reads.answer (subst IsTrue (sym first.called.tells) tells));
  faults = reads.cause ∙ first.faults;
  reads = omega (arith, first.reads, reads.count);
}

-- one cell more is read through a view
pub row_viewed_more : (at n : ℕ) (room found : List (Option (List ℕ))) (put : Option (List ℕ)) (old mid new : ViewState)
    → n < length found → HasViewed n at room found old mid → ViewReads (at + n) mid new (Ok put)
    → HasViewed (n + 1) at room (set found n put) old new
row_viewed_more at n room found put old mid new within first reads = record {
  viewed = viewed_then first.viewed reads.viewed;
  size = length-set found n put ∙ first.size;
  holds = λ tells. found_more at n found put old.image mid.image new.image first.viewed.image reads.viewed.image within
      (first.holds tells) (reads.answer (subst IsTrue (sym first.viewed.called.tells) tells));
  faults = reads.cause ∙ first.faults;
  reads = omega (arith, first.reads, reads.count);
}
