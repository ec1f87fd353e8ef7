-- What a row of neighbouring cells that one call wrote has put.
use Rattle.std.proofs.Common.{◌≡◌, ◌+◌, ℕ, List, Ok, Err, refl, sym, ap, ◌∙◌, inl, inr, ⊎_elim}
use Rattle.std.proofs.lemmas.Option.{same_Some}
use Rattle.cell_types.specs.Image.{Image}
use Rattle.cell_types.specs.declared.refusal.Fault.TheVariants.{Tampered}
use Rattle.cell_types.specs.declared.refusal.Fault.TheVariants as faults
use Rattle.worm_device.specs.Rows.{IsNewInRow, ChangesInRow, WritesRow}
use Rattle.worm_device.specs.State.{DeviceState}
use Rattle.worm_device.specs.declared.device.Failed.{Failed}
use Rattle.worm_device.specs.declared.device.RowWritten.TheVariants.{Whole, Other}
use Rattle.recovery_engine.specs.declared.put.Blame.TheVariants.{Rule}
use Rattle.recovery_engine.specs.declared.put.Put.{Put}
use Rattle.recovery_engine.specs.Putting.{ChangesBy, IsInRow, Puts}
use Rattle.recovery_engine.proofs.Phasing.{false_true}

module _ (from : ℕ) (cells : List (List ℕ)) (rule : ℕ) where
  abbrev put_at : ℕ → List ℕ → Put
  put_at place value = record { at = from + place; value = value; blame = Rule rule }

  row_changes : (old new : Image) → ChangesInRow from cells old new → ChangesBy (IsInRow from cells rule) old new
  row_changes old new changes at value h = ⊎_elim
      (λ (same : new at ≡ old at). inl (sym same ∙ h))
      (λ (put : IsNewInRow from cells old new at). inr (record {
        blank = put.blank;
        put = put_at put.place put.value;
        planned = record { place = put.place; at = refl; value = put.is; blame = refl };
        here = sym put.here;
        is = same_Some put.value value (sym put.now ∙ h);
      }))
      (changes at)

  module _ {old new : DeviceState} where
    pub row_put : WritesRow from cells old new (Ok Whole) → Puts (IsInRow from cells rule) old new (Ok tt)
    row_put writes = record {
      called = writes.called;
      unfailed = λ ok. writes.cause;
      only = λ tells still. row_changes old.image new.image (writes.only still);
      ends = λ tells put h. ap new.image h.at ∙ writes.answer tells h.place put.value h.value;
    }

    pub row_taken : (cell : ℕ) (found : List ℕ) → WritesRow from cells old new (Ok (Other cell found))
        → Puts (IsInRow from cells rule) old new
        (Err (Tampered (record { rule = rule; cell = cell; found = found })))
    row_taken cell found writes = record {
      called = writes.called;
      unfailed = λ ok. absurd (false_true ok);
      only = λ tells still. row_changes old.image new.image (writes.only still);
      ends = λ tells.
          let other = writes.answer tells in
          record {
            put = put_at other.place other.value;
            planned = record { place = other.place; at = refl; value = other.is; blame = refl };
            found = found;
            differs = other.differs;
            is = ap (λ (n : ℕ). record { rule = rule; cell = n; found = found }) other.here;
            stands = ap new.image (sym other.here) ∙ other.stands;
            stood = λ still. inl (ap old.image (sym other.here) ∙ other.stood still);
          };
    }

    pub row_unput : (failed : Failed) → WritesRow from cells old new (Err failed)
        → Puts (IsInRow from cells rule) old new (Err faults.Failed)
    row_unput failed writes = record {
      called = writes.called;
      unfailed = λ ok. absurd (false_true ok);
      only = λ tells still. row_changes old.image new.image (writes.only still);
      ends = writes.cause;
    }
