-- The cells that journals name, slot after slot and place after place.
use Rattle.std.proofs.Common.{◌≡◌, ◌<◌, ◌≤◌, ◌+◌, ◌++◌, ◌^◌, ⊎_elim, inl, inr, ℕ, List, [], ◌∷◌, sym, ◌∙◌, subst, arith}
use Rattle.std.specs.Prelude.{Contains}
use Rattle.std.specs.List.Sorted.{IsNonDecreasing, IsPermutation}
use Rattle.std.proofs.lemmas.List.Sorted.{Contains-permutation, IsPermutation-sym}
use Rattle.std.proofs.lemmas.List.Elements.{Contains-append_left, Contains-push, Contains-push_cases}
use Rattle.cell_types.specs.Image.{Image}
use Rattle.cell_types.specs.Layout.{Layout}
use Rattle.volume_meaning.specs.Slots.{Stores}
use Rattle.tamper_rules.specs.Journals.{journal_at, IsNamed}
use Rattle.log_audit.specs.Stored.{IsStored}
use Rattle.log_audit.specs.declared.stored.StoredSlot.{StoredSlot}
use Rattle.log_audit.proofs.Storing.{one_row}
use Rattle.log_audit.proofs.Orders.{below_or_at}
use Rattle.slot_audit.specs.Copying.{HasTarget}
use Rattle.slot_audit.proofs.Ordering.{copies, has_target}
use Rattle.slot_audit.specs.Strays.{AreNamed, NamesInJournal}
use Rattle.slot_audit.specs.Targets.{NamesWithin, AddsTargets}
use Rattle.slot_audit.specs.declared.named.NamedCells.{NamedCells}

module _ (image : Image) (s : StoredSlot) where
  -- no place yet
  pub none_added : (old : List ℕ) → AddsTargets image s 0 old old
  none_added old = record {
    keeps = λ cell among. among;
    adds = λ cell w. absurd (omega (arith, w.within));
    only = λ cell among. inl among;
  }

  later : {places cell : ℕ} → NamesWithin image s places cell → NamesWithin image s (places + 1) cell
  later w = record { place = w.place; within = omega (arith, w.within); small = w.small; target = w.target }

  -- a place that names none
  pub none_more : {places : ℕ} {old now : List ℕ} → AddsTargets image s places old now
      → ((cell : ℕ) → HasTarget image (journal_at s.start s.length s.journal + places) cell → ⊥)
      → AddsTargets image s (places + 1) old now
  none_more {places} {old} {now} so_far none = record {
    keeps = so_far.keeps;
    adds = λ cell w. ⊎_elim
        (λ (earlier : w.place < places). so_far.adds cell (record { place = w.place; within = earlier; small = w.small; target = w.target }))
        (λ (same : w.place ≡ places). absurd (none cell
        (subst (λ (k : ℕ). HasTarget image (journal_at s.start s.length s.journal + k) cell) same w.target)))
        (below_or_at w.place places w.within);
    only = λ cell among. ⊎_elim (λ o. inl o) (λ w. inr (later w)) (so_far.only cell among);
  }

  -- and one that names a cell
  pub one_more : {places target : ℕ} {old now : List ℕ} → AddsTargets image s places old now
      → target < 2 ^ 32 → HasTarget image (journal_at s.start s.length s.journal + places) target
      → ((cell : ℕ) → HasTarget image (journal_at s.start s.length s.journal + places) cell → cell ≡ target)
      → AddsTargets image s (places + 1) old (now ++ target ∷ [])
  one_more {places} {target} {old} {now} so_far small has one = record {
    keeps = λ cell among. Contains-append_left now (target ∷ []) cell (so_far.keeps cell among);
    adds = λ cell w. ⊎_elim
        (λ (earlier : w.place < places). Contains-append_left now (target ∷ []) cell
        (so_far.adds cell (record { place = w.place; within = earlier; small = w.small; target = w.target })))
        (λ (same : w.place ≡ places).
        let e : cell ≡ target = one cell (subst (λ (k : ℕ). HasTarget image (journal_at s.start s.length s.journal + k) cell) same w.target) in
        subst (Contains (now ++ target ∷ [])) (sym e) (Contains-push now target))
        (below_or_at w.place places w.within);
    only = λ cell among. ⊎_elim
        (λ before. ⊎_elim (λ o. inl o) (λ w. inr (later w)) (so_far.only cell before))
        (λ same. inr (record {
          place = places;
          within = omega arith;
          small = subst (λ (t : ℕ). t < 2 ^ 32) same small;
          target = subst (HasTarget image (journal_at s.start s.length s.journal + places)) same has;
        }))
        (Contains-push_cases now target cell among);
  }

-- what the slots below n name, and no more, is there
pub record NamedBelow (g : Layout) (image : Image) (n : ℕ) (cells : List ℕ) : Type 0 where
  pub only : (cell : ℕ) → Contains cells cell → IsNamed g image cell
  pub all : (m cell : ℕ) → m < n → NamesInJournal g image m cell → Contains cells cell

pub none_named : (g : Layout) (image : Image) (cells : List ℕ) → cells ≡ [] → NamedBelow g image 0 cells
none_named g image cells none = record {
  only = λ cell among. absurd (nothing cell (subst (λ (xs : List ℕ). Contains xs cell) none among));
  all = λ m cell less names. absurd (omega (arith, less));
}
  where
    nothing : (cell : ℕ) → Contains [] cell → ⊥
    nothing cell w = omega (arith, w.1)

module _ {g : Layout} {image : Image} {n : ℕ} where
  -- a slot that holds no document names none
  pub none_named_more : {cells : List ℕ} → NamedBelow g image n cells
      → ((a b c d : ℕ) → Stores g image n a b c d → ⊥) → NamedBelow g image (n + 1) cells
  none_named_more {cells} so_far none = record {
    only = so_far.only;
    all = λ m cell less names. ⊎_elim
        (λ (earlier : m < n). so_far.all m cell earlier names)
        (λ (same : m ≡ n). absurd (none names.start names.length names.bytes names.journal
        (subst (λ (k : ℕ). Stores g image k names.start names.length names.bytes names.journal) same
        (record { commits = names.done.commits; done = inr names.done.done }))))
        (below_or_at m n less);
  }

  -- and one that does, the targets of its journal
  pub slot_named : {s : StoredSlot} {old new : List ℕ} → NamedBelow g image n old → IsStored g image s → s.slot ≡ n
      → AddsTargets image s s.journal old new → NamedBelow g image (n + 1) new
  slot_named {s} {old} {new} so_far stored here adds = record {
    only = λ cell among. ⊎_elim
        (λ before. so_far.only cell before)
        (λ w. record {
          m = s.slot;
          start = s.start;
          length = s.length;
          bytes = s.bytes;
          journal = s.journal;
          done = stored.done;
          place = w.place;
          copied = w.target.copy.held;
          copies = copies w.within w.small w.target;
        })
        (adds.only cell among);
    all = λ m cell less names. ⊎_elim
        (λ (earlier : m < n). adds.keeps cell (so_far.all m cell earlier names))
        (λ (same : m ≡ n).
        let row = one_row stored (sym (same ∙ sym here)) (record { commits = names.done.commits; done = inr names.done.done }) in
        adds.adds cell (record {
          place = names.place;
          within = omega (arith, names.copies.below, row.3);
          small = names.copies.address;
          target = subst (λ (k : ℕ). HasTarget image (k + names.place) cell)
              (let a = row.0 in let b = row.1 in let d = row.3 in cc) (has_target names.copies);
        }))
        (below_or_at m n less);
  }

-- what all slots name is there, also once it is sorted
pub all_named : {g : Layout} {image : Image} {n : ℕ} {cells : List ℕ} → NamedBelow g image n cells → g.slots ≤ n → (named : NamedCells)
    → IsPermutation cells named.cells.items → IsNonDecreasing named.cells.items → AreNamed g image named
all_named {g} {image} {n} {cells} so_far most named permutation sorted = record {
  ordered = sorted;
  only = λ cell among. so_far.only cell (Contains-permutation named.cells.items cells cell (IsPermutation-sym cells named.cells.items permutation) among);
  all = λ cell is. Contains-permutation cells named.cells.items cell permutation (so_far.all is.m cell
      (omega (arith, is.done.commits.reserves.slot, most)) (record {
        start = is.start;
        length = is.length;
        bytes = is.bytes;
        journal = is.journal;
        done = is.done;
        place = is.place;
        copied = is.copied;
        copies = is.copies;
      }));
}
