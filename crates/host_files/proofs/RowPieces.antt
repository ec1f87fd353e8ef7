-- Pieces of a row that are written one after another: two rows side by side are one.
use Rattle.std.specs.Prelude.{◌≡◌, ◌≢◌, ◌<◌, ◌≤◌, ◌+◌, ◌-◌, ℕ, List, length, take, drop, get_or, slice_get, Option, Some, None, Ok, Err, IsTrue}
use Rattle.std.proofs.Common.{refl, ◌∙◌, ap, sym, subst, arith, inl, inr, ⊎_elim}
use Rattle.std.proofs.lemmas.Bool.{cases_lt}
use Rattle.std.proofs.lemmas.List.{get_or-take, get_or-drop, length-take, length-drop}
use Rattle.std.proofs.lemmas.Option.{none-some, same_Some, slice_get-get_or, slice_get_within, get_or_from_slice_get}
use Rattle.cell_types.specs.Image.{Image, Extends}
use Rattle.worm_device.specs.Counts.{IsStill}
use Rattle.worm_device.specs.Rows.{ChangesInRow, HoldFirst, IsNewInRow, WritesRow}
use Rattle.worm_device.specs.State.{DeviceState}
use Rattle.worm_device.specs.declared.device.Failed.{Failed}
use Rattle.worm_device.specs.declared.device.RowWritten.{RowWritten}
use Rattle.worm_device.specs.declared.device.RowWritten.TheVariants.{Whole, Other}
use Rattle.worm_device.proofs.Counting.{still_first, still_second}
use Rattle.worm_device.proofs.Elapsing.{called_then}
use Rattle.worm_device.proofs.Rows.{HasWritten}

-- so many values of the row, from this place on
pub record IsPiece (n more : ℕ) (values piece : List (List ℕ)) : Type 0 where
  pub long : length piece ≡ more
  pub up : (k : ℕ) (value : List ℕ) → slice_get piece k ≡ Some value → slice_get values (n + k) ≡ Some value
  pub down : (k : ℕ) (value : List ℕ) → k < more → slice_get values (n + k) ≡ Some value
      → slice_get piece k ≡ Some value

-- as a slice of it
pub piece_is : (n more : ℕ) (values : List (List ℕ)) → n + more ≤ length values
    → IsPiece n more values (take more (drop n values))
piece_is n more values inside = record {
  long = long;
  up = λ k value is.
      let within : k < more = omega (arith, slice_get_within (take more (drop n values)) k value is, long) in
      slice_get-get_or values (n + k) value (omega (arith, within, inside))
      ∙ ap (λ (v : List ℕ). Some v) (sym (same k value within)
      ∙ get_or_from_slice_get (take more (drop n values)) k value value is);
  down = λ k value within is. slice_get-get_or (take more (drop n values)) k value (omega (arith, within, long))
      ∙ ap (λ (v : List ℕ). Some v) (same k value within ∙ get_or_from_slice_get values (n + k) value value is);
}
  where
    long : length (take more (drop n values)) ≡ more
    long = omega (arith, length-take more (drop n values), length-drop n values, inside)

    same : (k : ℕ) (d : List ℕ) → k < more → get_or (take more (drop n values)) k d ≡ get_or values (n + k) d
    same k d within = get_or-take more (drop n values) k d within ∙ get_or-drop n values k d

-- what changes in a row, and then in a piece of it
changes_then : (at n more : ℕ) (values piece : List (List ℕ)) → IsPiece n more values piece → (a b c : Image)
    → Extends a b → ChangesInRow at values a b → ChangesInRow (at + n) piece b c → ChangesInRow at values a c
changes_then at n more values piece part a b c grows p q cell = ⊎_elim
    (λ (same : c cell ≡ b cell). ⊎_elim
    (λ (was : b cell ≡ a cell). inl (same ∙ was))
    (λ (new : IsNewInRow at values a b cell). inr (record {
      place = new.place;
      here = new.here;
      value = new.value;
      is = new.is;
      blank = new.blank;
      now = same ∙ new.now;
    }))
    (p cell))
    (λ (put : IsNewInRow (at + n) piece b c cell). inr (record {
      place = n + put.place;
      here = omega (arith, put.here);
      value = put.value;
      is = part.up put.place put.value put.is;
      blank = blank_before (a cell) put.blank (λ v stood. grows.keeps cell v stood);
      now = put.now;
    }))
    (q cell)
  where
    blank_before : {found : Option (List ℕ)} (stood : Option (List ℕ)) → found ≡ None
        → ((v : List ℕ) → stood ≡ Some v → found ≡ Some v) → stood ≡ None
    blank_before None none keeps = refl
    blank_before (Some v) none keeps = absurd (none-some v (sym none ∙ keeps v refl))

module _ (at n more : ℕ) (values piece : List (List ℕ)) (part : IsPiece n more values piece)
    {old mid : DeviceState} (first : HasWritten n at values old mid) where
  tells_mid : IsTrue old.tells → IsTrue mid.tells
  tells_mid tells = subst IsTrue (sym first.called.tells) tells

  -- the cells of the piece hold their values, as far as this place of it
  holds_more : (new : DeviceState) (k : ℕ) → k ≤ more → Extends mid.image new.image → HoldFirst k (at + n) piece new.image
      → IsTrue old.tells → HoldFirst (n + k) at values new.image
  holds_more new k most grows holds tells place value below is = ⊎_elim
      (λ (before : place < n). grows.keeps (at + place) value (first.holds tells place value before is))
      (λ (from : n ≤ place).
      let same : n + (place - n) ≡ place = omega (arith, from) in
      let here : at + n + (place - n) ≡ at + place = omega (arith, from) in
      sym (ap new.image here)
      ∙ holds (place - n) value (omega (arith, below, from))
      (part.down (place - n) value (omega (arith, below, from, most)) (ap (slice_get values) same ∙ is)))
      (cases_lt place n)

  only_more : (new : DeviceState) → Extends mid.image new.image → mid.foreign_writes ≤ new.foreign_writes
      → (IsStill mid.foreign_writes new.foreign_writes → ChangesInRow (at + n) piece mid.image new.image)
      → IsStill old.foreign_writes new.foreign_writes → ChangesInRow at values old.image new.image
  only_more new grows later only still = changes_then at n more values piece part old.image mid.image new.image
      first.called.image (first.only (still_first first.called.foreign_writes later still))
      (only (still_second first.called.foreign_writes later still))

  module _ {new : DeviceState} where
    -- the piece is written
    pub piece_more : WritesRow (at + n) piece mid new (Ok Whole) → HasWritten (n + more) at values old new
    piece_more w = record {
      called = called_then first.called w.called;
      only = only_more new w.called.image w.called.foreign_writes w.only;
      holds = λ tells. holds_more new more (omega arith) w.called.image
          (λ place value below is. w.answer (tells_mid tells) place value is) tells;
      faults = w.cause ∙ first.faults;
      reads = w.count ∙ first.reads;
    }

    -- a cell of it holds something else
    pub piece_other : (cell : ℕ) (found : List ℕ) → WritesRow (at + n) piece mid new (Ok (Other cell found))
        → WritesRow at values old new (Ok (Other cell found))
    piece_other cell found w = record {
      called = called_then first.called w.called;
      only = only_more new w.called.image w.called.foreign_writes w.only;
      answer = λ tells.
          let other = w.answer (tells_mid tells) in
          let is : slice_get values (n + other.place) ≡ Some other.value = part.up other.place other.value other.is in
          record {
            place = n + other.place;
            here = omega (arith, other.here);
            before = holds_more new other.place
                (omega (arith, slice_get_within piece other.place other.value other.is, part.long)) w.called.image
                other.before tells;
            value = other.value;
            is = is;
            differs = other.differs;
            stands = other.stands;
            stood = λ still. stood cell found other.value (n + other.place) (omega (arith, other.here)) is other.differs
                (other.stood (still_second first.called.foreign_writes w.called.foreign_writes still))
                (first.only (still_first first.called.foreign_writes w.called.foreign_writes still));
          };
      cause = w.cause ∙ first.faults;
      count = w.count ∙ first.reads;
    }
      where
        stood : (cell : ℕ) (found value : List ℕ) (place : ℕ) → cell ≡ at + place → slice_get values place ≡ Some value
            → found ≢ value → mid.image cell ≡ Some found → ChangesInRow at values old.image mid.image
            → old.image cell ≡ Some found
        stood cell found value place here is differs stands changes = ⊎_elim
            (λ (same : mid.image cell ≡ old.image cell). sym same ∙ stands)
            (λ (put : IsNewInRow at values old.image mid.image cell).
            let same : put.place ≡ place = omega (arith, put.here, here) in
            absurd (differs (same_Some found value
            (sym stands ∙ put.now ∙ sym put.is ∙ ap (slice_get values) same ∙ is))))
            (changes cell)

    -- or its call failed
    pub piece_failed : (failed : Failed) → WritesRow (at + n) piece mid new (Err failed)
        → WritesRow at values old new (Err failed)
    piece_failed failed w = record {
      called = called_then first.called w.called;
      only = only_more new w.called.image w.called.foreign_writes w.only;
      answer = λ tells. tt;
      cause = omega (arith, w.cause, first.faults);
      count = w.count ∙ first.reads;
    }

    pub piece_ends : (written : RowWritten) → (written ≡ Whole → ⊥) → WritesRow (at + n) piece mid new (Ok written)
        → WritesRow at values old new (Ok written)
    piece_ends Whole other w = absurd (other refl)
    piece_ends (Other cell found) other w = piece_other cell found w
