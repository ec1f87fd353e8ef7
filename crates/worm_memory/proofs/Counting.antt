-- How many changes it takes that cells are written, and that they are sure.
use Rattle.std.proofs.Common.{◌≡◌, ◌≤◌, ◌<◌, ◌+◌, ◌==◌, ◌&&◌, ◌⊎◌, if◌then◌else◌, ⊎_elim, inl, inr, ℕ, zero, suc, Bool, true, false, List, [], ◌∷◌, ◌++◌, length, take, Option, Some, None, refl, ap, sym, subst, ◌∙◌, arith}
use Rattle.std.specs.List.{list_all}
use Rattle.std.proofs.lemmas.Bool.{and_parts, cases_Bool, cases_lt, cond-false, cond_both, eqb-true}
use Rattle.std.proofs.lemmas.Bool.Decides.{nat_tests}
use Rattle.cell_types.specs.Image.{Image}
use Rattle.worm_device.specs.State.{Instant}
use Rattle.worm_memory.specs.OwnChanges.{is_of_call, own_changes_in}
use Rattle.worm_memory.specs.Worlds.{after_change, after_changes, foreign_writes_in, kept_or, written}
use Rattle.worm_memory.specs.declared.change.Change.{Change}
use Rattle.worm_memory.specs.declared.change.Change.TheVariants.{Wrote, Foreign, Synced, Lost, Crashed}

abbrev pub writes_in : List Change → ℕ
writes_in [] = 0
writes_in (Wrote at value ∷ changes) = writes_in changes + 1
writes_in (Foreign at value ∷ changes) = writes_in changes
writes_in (Synced ∷ changes) = writes_in changes
writes_in (Lost at ∷ changes) = writes_in changes
writes_in (Crashed ∷ changes) = writes_in changes

abbrev pub syncs_in : List Change → ℕ
syncs_in [] = 0
syncs_in (Wrote at value ∷ changes) = syncs_in changes
syncs_in (Foreign at value ∷ changes) = syncs_in changes
syncs_in (Synced ∷ changes) = syncs_in changes + 1
syncs_in (Lost at ∷ changes) = syncs_in changes
syncs_in (Crashed ∷ changes) = syncs_in changes

pub own_is : (changes : List Change) → own_changes_in changes ≡ writes_in changes + syncs_in changes
own_is [] = refl
own_is (Wrote at value ∷ changes) = omega (arith, own_is changes)
own_is (Foreign at value ∷ changes) = own_is changes
own_is (Synced ∷ changes) = omega (arith, own_is changes)
own_is (Lost at ∷ changes) = own_is changes
own_is (Crashed ∷ changes) = own_is changes

false_true : false ≡ true → ⊥
false_true e = cc

abbrev one_of : Option (List ℕ) → ℕ
one_of None = 0
one_of (Some value) = 1

-- how many of so many cells are written, from this one on
abbrev pub standing : Image → ℕ → ℕ → ℕ
standing image from zero = 0
standing image from (suc k) = one_of (image (from + k)) + standing image from k

pub standing_none : (image : Image) (from k : ℕ) → ((cell : ℕ) → from ≤ cell → cell < from + k → image cell ≡ None)
    → standing image from k ≡ 0
standing_none image from zero blank = refl
standing_none image from (suc k) blank =
    omega (
      arith,
      ap one_of (blank (from + k) (omega arith) (omega arith)),
      standing_none image from k (λ cell low high. blank cell low (omega (arith, high))),
    )

one_some : (found : Option (List ℕ)) (value : List ℕ) → found ≡ Some value → one_of found ≡ 1
one_some found value is = ap one_of is

pub standing_all : (image : Image) (from k : ℕ)
    → ((i : ℕ) → i < k → (value : List ℕ) × (image (from + i) ≡ Some value)) → standing image from k ≡ k
standing_all image from zero stand = refl
standing_all image from (suc k) stand =
    let here = stand k (omega arith) in
    omega (
      arith,
      one_some (image (from + k)) here.0 here.1,
      standing_all image from k (λ i below. stand i (omega (arith, below))),
    )

one_most : (found : Option (List ℕ)) → one_of found ≤ 1
one_most None = omega arith
one_most (Some value) = omega arith

elsewhere : (image : Image) (at cell : ℕ) (value : List ℕ) → (cell == at) ≡ false → written image at value cell ≡ image cell
elsewhere image at cell value other = cond-false (cell == at) (kept_or (image cell) value) (image cell) other

not_same : (a b : ℕ) → (a < b) ⊎ (b < a) → (a == b) ≡ false
not_same a b (inl less) = grind (arith, nat_tests)
not_same a b (inr less) = grind (arith, nat_tests)

-- a write elsewhere leaves them
standing_left : (image : Image) (at : ℕ) (value : List ℕ) (from k : ℕ) → (at < from) ⊎ (from + k ≤ at)
    → standing (written image at value) from k ≡ standing image from k
standing_left image at value from zero out = refl
standing_left image at value from (suc k) out =
    let apart : (from + k < at) ⊎ (at < from + k) = ⊎_elim (λ (low : at < from). inr (omega (arith, low)))
    (λ (high : from + suc k ≤ at). inl (omega (arith, high))) out in
    omega (
      arith,
      ap one_of (elsewhere image at (from + k) value (not_same (from + k) at apart)),
      standing_left image at value from k (⊎_elim inl (λ (high : from + suc k ≤ at). inr (omega (arith, high))) out),
    )

-- a write adds one at most
standing_more : (image : Image) (at : ℕ) (value : List ℕ) (from k : ℕ)
    → standing (written image at value) from k ≤ standing image from k + 1
standing_more image at value from zero = omega arith
standing_more image at value from (suc k) = ⊎_elim
    (λ (here : (from + k == at) ≡ true).
    omega (
      arith,
      one_most (written image at value (from + k)),
      standing_left image at value from k (inr (omega (arith, eqb-true (from + k) at here))),
    ))
    (λ (other : (from + k == at) ≡ false).
    omega (arith, ap one_of (elsewhere image at (from + k) value other), standing_more image at value from k))
    (cases_Bool (from + k == at))

-- Two rows of cells, one behind the other.
module _ (first k second l : ℕ) (apart : first + k ≤ second) where
  abbrev pub both : Image → ℕ
  both image = standing image first k + standing image second l

  both_more : (image : Image) (at : ℕ) (value : List ℕ) → both (written image at value) ≤ both image + 1
  both_more image at value = ⊎_elim
      (λ (low : at < second).
      omega (arith, standing_more image at value first k, standing_left image at value second l (inl low)))
      (λ (high : second ≤ at).
      omega (
        arith,
        standing_more image at value second l,
        standing_left image at value first k (inr (omega (arith, high, apart))),
      ))
      (cases_lt at second)

  -- as many more of them are written as the command writes, where nobody else does
  pub both_risen : (now : Instant) (changes : List Change) → list_all is_of_call changes ≡ true
      → foreign_writes_in changes ≡ 0 → both (after_changes now changes).image ≤ both now.image + writes_in changes
  both_risen now [] calls none = omega arith
  both_risen now (Wrote at value ∷ changes) calls none =
      omega (arith, both_more now.image at value, both_risen (after_change now (Wrote at value)) changes calls none)
  both_risen now (Foreign at value ∷ changes) calls none = absurd (omega (arith, none))
  both_risen now (Synced ∷ changes) calls none = both_risen (after_change now Synced) changes calls none
  both_risen now (Lost at ∷ changes) calls none = absurd (false_true calls)
  both_risen now (Crashed ∷ changes) calls none = absurd (false_true calls)

-- what is sure stays the same where nothing is made sure
pub none_synced : (now : Instant) (changes : List Change) → list_all is_of_call changes ≡ true → syncs_in changes ≡ 0
    → (after_changes now changes).sure ≡ now.sure
none_synced now [] calls none = refl
none_synced now (Wrote at value ∷ changes) calls none = none_synced (after_change now (Wrote at value)) changes calls none
none_synced now (Foreign at value ∷ changes) calls none =
    none_synced (after_change now (Foreign at value)) changes calls none
none_synced now (Synced ∷ changes) calls none = absurd (omega (arith, none))
none_synced now (Lost at ∷ changes) calls none = absurd (false_true calls)
none_synced now (Crashed ∷ changes) calls none = absurd (false_true calls)

-- The one change of a row that makes something sure: before it what is sure is the same, and behind it what stood then is.
pub record IsOneSync (now : Instant) (changes : List Change) : Type 0 where
  pub before : ℕ
  pub within : before ≤ length changes
  pub same : (after_changes now (take before changes)).sure ≡ now.sure
  pub sure : (after_changes now changes).sure ≡ (after_changes now (take before changes)).image

one_later : (now : Instant) (c : Change) (changes : List Change) → (after_change now c).sure ≡ now.sure
    → IsOneSync (after_change now c) changes → IsOneSync now (c ∷ changes)
one_later now c changes is one = record {
  before = suc one.before;
  within = omega (arith, one.within);
  same = one.same ∙ is;
  sure = one.sure;
}

pub one_synced : (now : Instant) (changes : List Change) → list_all is_of_call changes ≡ true → syncs_in changes ≡ 1
    → IsOneSync now changes
one_synced now [] calls one = absurd (omega (arith, one))
one_synced now (Wrote at value ∷ changes) calls one =
    one_later now (Wrote at value) changes refl (one_synced (after_change now (Wrote at value)) changes calls one)
one_synced now (Foreign at value ∷ changes) calls one =
    one_later now (Foreign at value) changes refl (one_synced (after_change now (Foreign at value)) changes calls one)
one_synced now (Synced ∷ changes) calls one = record {
  before = 0;
  within = omega arith;
  same = refl;
  sure = none_synced (after_change now Synced) changes calls (omega (arith, one));
}
one_synced now (Lost at ∷ changes) calls one = absurd (false_true calls)
one_synced now (Crashed ∷ changes) calls one = absurd (false_true calls)
