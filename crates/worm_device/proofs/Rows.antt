-- A row of cells, written one after another.
use Rattle.std.proofs.Common.{◌≡◌, ◌≢◌, ◌<◌, ◌+◌, ◌⊎◌, ℕ, List, length, slice_get, Option, Some, None, Ok, Err, refl, sym, ap, ◌∙◌, inl, inr, ⊎_elim, subst, arith}
use Rattle.std.specs.Prelude.{IsTrue}
use Rattle.std.proofs.lemmas.Option.{slice_get_within}
use Rattle.cell_types.specs.Image.{Image, Extends, ChangesOnly}
use Rattle.worm_device.specs.Calls.{Called, Writes}
use Rattle.worm_device.specs.Counts.{IsStill}
use Rattle.worm_device.specs.Rows.{IsNewInRow, ChangesInRow, HoldFirst, WritesRow}
use Rattle.worm_device.specs.State.{DeviceState}
use Rattle.worm_device.specs.declared.device.Failed.{Failed}
use Rattle.worm_device.specs.declared.device.RowWritten.TheVariants.{Whole, Other}
use Rattle.worm_device.specs.declared.device.Written.{Written}
use Rattle.worm_device.specs.declared.device.Written.TheVariants.{Taken}
use Rattle.worm_device.proofs.Counting.{still_first, still_second}
use Rattle.worm_device.proofs.Elapsing.{called_self, called_then}

none_some : (a : List ℕ) → Some a ≡ None → ⊥
none_some a e = cc

some_is : (a b : List ℕ) → Some a ≡ Some b → a ≡ b
some_is a b e = cc

below_or_at : (k n : ℕ) → k < n + 1 → (k < n) ⊎ (k ≡ n)
below_or_at k n h = grind arith

by_cell : (R : Type 0) (found : Option (List ℕ)) → (found ≡ None → R) → ((v : List ℕ) → found ≡ Some v → R) → R
by_cell R None none some = none refl
by_cell R (Some v) none some = some v refl

-- the first so many cells of a row are written
pub record HasWritten (count at : ℕ) (values : List (List ℕ)) (old now : DeviceState) : Type 0 where
  pub called : Called old now
  pub only : IsStill old.foreign_writes now.foreign_writes → ChangesInRow at values old.image now.image
  pub holds : IsTrue old.tells → HoldFirst count at values now.image
  pub faults : now.faults ≡ old.faults
  pub reads : now.reads ≡ old.reads

pub row_none : (at : ℕ) (values : List (List ℕ)) (s : DeviceState) → HasWritten 0 at values s s
row_none at values s = record {
  called = called_self s;
  only = λ still cell. inl refl;
  holds = λ tells place value below is. absurd (omega (arith, below));
  faults = refl;
  reads = refl;
}

-- one cell more
pub changes_more : (at : ℕ) (values : List (List ℕ)) (n : ℕ) (value : List ℕ) → slice_get values n ≡ Some value
    → (a b c : Image) → Extends a b → Extends b c → ChangesInRow at values a b → ChangesOnly (at + n) value b c
    → ChangesInRow at values a c
changes_more at values n value is a b c grows goes p q cell = ⊎_elim
    (λ (same : c cell ≡ b cell). ⊎_elim
    (λ (was : b cell ≡ a cell). inl (same ∙ was))
    (λ (new : IsNewInRow at values a b cell). inr (record {
      place = new.place;
      here = new.here;
      value = new.value;
      is = new.is;
      blank = new.blank;
      now = same ∙ new.now;
    }))
    (p cell))
    (λ (put : (cell ≡ at + n) × (b cell ≡ None) × (c cell ≡ Some value)). inr (record {
      place = n;
      here = put.0;
      value = value;
      is = is;
      blank = by_cell (a cell ≡ None) (a cell) (λ none. none)
          (λ v stood. absurd (none_some v (sym (grows.keeps cell v stood) ∙ put.1)));
      now = put.2;
    }))
    (q cell)

module _ (at : ℕ) (values : List (List ℕ)) (n : ℕ) (value : List ℕ) (is : slice_get values n ≡ Some value)
    {old mid : DeviceState} (first : HasWritten n at values old mid) where
  tells_mid : IsTrue old.tells → IsTrue mid.tells
  tells_mid tells = subst IsTrue (sym first.called.tells) tells

  stood_before : (found : List ℕ) → found ≢ value → mid.image (at + n) ≡ Some found
      → ChangesInRow at values old.image mid.image → old.image (at + n) ≡ Some found
  stood_before found differs stands changes = ⊎_elim
      (λ (same : mid.image (at + n) ≡ old.image (at + n)). sym same ∙ stands)
      (λ (put : IsNewInRow at values old.image mid.image (at + n)). absurd (differs
      (some_is found value (sym stands ∙ put.now ∙ sym put.is
      ∙ ap (slice_get values) (let same : put.place ≡ n = omega (arith, put.here) in same) ∙ is))))
      (changes (at + n))

  module _ {new : DeviceState} where
    only_more : Called mid new
        → (IsStill mid.foreign_writes new.foreign_writes → ChangesOnly (at + n) value mid.image new.image)
        → IsStill old.foreign_writes new.foreign_writes → ChangesInRow at values old.image new.image
    only_more called only still = changes_more at values n value is old.image mid.image new.image first.called.image
        called.image (first.only (still_first first.called.foreign_writes called.foreign_writes still))
        (only (still_second first.called.foreign_writes called.foreign_writes still))

    -- the next cell holds its value
    pub row_more : (written : Written) → Writes (at + n) value mid new (Ok written)
        → (IsTrue mid.tells → new.image (at + n) ≡ Some value) → HasWritten (n + 1) at values old new
    row_more written writes stands = record {
      called = called_then first.called writes.called;
      only = only_more writes.called writes.only;
      holds = λ tells place v below there. ⊎_elim
          (λ (less : place < n). writes.called.image.keeps (at + place) v (first.holds tells place v less there))
          (λ (here : place ≡ n). subst (λ (k : ℕ). new.image (at + k) ≡ Some v) (sym here)
          (stands (tells_mid tells) ∙ sym is ∙ ap (slice_get values) (sym here) ∙ there))
          (below_or_at place n below);
      faults = writes.cause ∙ first.faults;
      reads = writes.count ∙ first.reads;
    }

    -- or another one
    pub row_other : (found : List ℕ) → found ≢ value → Writes (at + n) value mid new (Ok (Taken found))
        → WritesRow at values old new (Ok (Other (at + n) found))
    row_other found differs writes = record {
      called = called_then first.called writes.called;
      only = only_more writes.called writes.only;
      answer = λ tells.
          let answer = writes.answer (tells_mid tells) in
          record {
            place = n;
            here = refl;
            before = λ place v less there.
                writes.called.image.keeps (at + place) v (first.holds tells place v less there);
            value = value;
            is = is;
            differs = differs;
            stands = answer.0;
            stood = λ still. stood_before found differs
                (answer.1 (still_second first.called.foreign_writes writes.called.foreign_writes still))
                (first.only (still_first first.called.foreign_writes writes.called.foreign_writes still));
          };
      cause = writes.cause ∙ first.faults;
      count = writes.count ∙ first.reads;
    }

    -- or its write failed
    pub row_failed : (failed : Failed) → Writes (at + n) value mid new (Err failed)
        → WritesRow at values old new (Err failed)
    row_failed failed writes = record {
      called = called_then first.called writes.called;
      only = only_more writes.called writes.only;
      answer = λ tells. tt;
      cause = omega (arith, writes.cause, first.faults);
      count = writes.count ∙ first.reads;
    }

-- all of them
pub row_whole : (at : ℕ) (values : List (List ℕ)) (n : ℕ) → n ≡ length values → (old now : DeviceState)
    → HasWritten n at values old now → WritesRow at values old now (Ok Whole)
row_whole at values n all old now h = record {
  called = h.called;
  only = h.only;
  answer = λ tells place value is. h.holds tells place value
      (omega (arith, all, slice_get_within values place value is)) is;
  cause = h.faults;
  count = h.reads;
}
