-- What a look along cells has seen, row after row.
use Rattle.std.proofs.Common.{◌≡◌, ◌<◌, ◌≤◌, ◌+◌, ◌-◌, ◌⊎◌, ℕ, List, length, slice_get, slice_index_or, Option, Some, None, Result, Ok, Err, refl, sym, ap, ◌∙◌, inl, inr, ⊎_elim, subst, arith}
use Rattle.std.proofs.lemmas.Bool.{cases_lt}
use Rattle.std.proofs.lemmas.Option.{slice_get-get_or, slice_get_within}
use Rattle.std.specs.Prelude.{IsTrue}
use Rattle.cell_types.specs.Image.{IsUnchanged}
use Rattle.cell_types.specs.declared.refusal.Fault.{Fault}
use Rattle.cell_types.specs.declared.refusal.Fault.TheVariants.{Tampered, Failed}
use Rattle.commit_record.specs.declared.reservation.Reservation.{Reservation}
use Rattle.volume_meaning.proofs.Extending.{blank_before}
use Rattle.worm_device.specs.Calls.{Called}
use Rattle.worm_device.specs.Counts.{IsStill}
use Rattle.worm_device.specs.ReadRows.{ReadsRow}
use Rattle.worm_device.specs.State.{DeviceState}
use Rattle.worm_device.proofs.Counting.{still_first, still_second}
use Rattle.worm_device.proofs.Elapsing.{called_self, called_then}
use Rattle.worm_device.proofs.Images.{unchanged_then}
use Rattle.plan_writer.specs.Blank.{AlongEnds, IsOfCells, LooksAlong, NothingFound, RowLookEnds}

-- nothing was found in one place more
pub nothing_more : (row : List (Option (List ℕ))) (n : ℕ) (d : Option (List ℕ)) → NothingFound n row → n < length row
    → slice_index_or row n d ≡ None → NothingFound (n + 1) row
nothing_more row n d none within is place below = ⊎_elim
    (λ (less : place < n). none place less)
    (λ (here : place ≡ n). subst (λ (k : ℕ). slice_get row k ≡ Some None) (sym here)
    (slice_get-get_or row n d within ∙ ap (λ (v : Option (List ℕ)). Some v) is))
    (below_or_at place n below)
  where
    below_or_at : (k n : ℕ) → k < n + 1 → (k < n) ⊎ (k ≡ n)
    below_or_at k n h = grind arith

-- A row that was read and looked at.
module _ (cells : Reservation) (old new : DeviceState) {room found : List (Option (List ℕ))}
    (size : length room ≡ cells.length) (reads : ReadsRow cells.start room found old new (Ok tt)) where
  place_of : (cell : ℕ) → IsOfCells cells cell → (place : ℕ) × (place < cells.length) × (cell ≡ cells.start + place)
  place_of cell is = (cell - cells.start, omega (arith, is.from, is.below), omega (arith, is.from))

  -- where nothing was found in a place, the cell was blank
  was_blank : (count : ℕ) → count ≤ length found → NothingFound count found → IsTrue old.tells → (cell : ℕ)
      → IsOfCells cells cell → cell < cells.start + count → old.image cell ≡ None
  was_blank count most none tells cell is below =
      let p = place_of cell is in
      subst (λ (k : ℕ). old.image k ≡ None) (sym p.2)
      (reads.answer tells p.0 None (omega (arith, p.2, below, most)) (none p.0 (omega (arith, p.2, below))))

  ends : (result : Result Unit Fault) → RowLookEnds cells.start found result → AlongEnds cells old new result
  ends (Ok u) none = (
    reads.cause,
    λ tells cell is. was_blank (length found) (omega arith) none tells cell is
        (omega (arith, is.below, size, reads.size)),
  )
  ends (Err Failed) none = absurd none
  ends (Err (Tampered e)) first =
      let within : first.place < length found = slice_get_within found first.place (Some e.found) first.is in (
        first.rule,
        record {
          from = omega (arith, first.cell);
          below = omega (arith, first.cell, within, size, reads.size);
        },
        λ tells. (
          subst (λ (k : ℕ). new.image k ≡ Some e.found) (sym first.cell)
              (reads.answer tells first.place (Some e.found) within first.is),
          λ cell is below. was_blank first.place (omega (arith, within)) first.before tells cell is
              (omega (arith, below, first.cell)),
        ),
      )

  pub row_looked : (result : Result Unit Fault) → RowLookEnds cells.start found result → LooksAlong cells old new result
  row_looked result row = record { called = reads.called; quiet = reads.only; ends = ends result row }

-- those below this one were blank, and no look failed
pub record BlankSoFar (cells : Reservation) (at : ℕ) (old now : DeviceState) : Type 0 where
  pub called : Called old now
  pub quiet : IsStill old.foreign_writes now.foreign_writes → IsUnchanged old.image now.image
  pub faults : now.faults ≡ old.faults
  pub blank : IsTrue old.tells → (cell : ℕ) → IsOfCells cells cell → cell < at → old.image cell ≡ None
  pub from : cells.start ≤ at
  pub to : at ≤ cells.start + cells.length

pub blank_none : (cells : Reservation) (old : DeviceState) → BlankSoFar cells cells.start old old
blank_none cells old = record {
  called = called_self old;
  quiet = λ still cell. refl;
  faults = refl;
  blank = λ tells cell is below. absurd (omega (arith, is.from, below));
  from = omega arith;
  to = omega arith;
}

-- a row more was looked at
module _ (cells row : Reservation) (old now new : DeviceState) (so_far : BlankSoFar cells row.start old now)
    (inside : row.start + row.length ≤ cells.start + cells.length) where
  called_on : Called now new → Called old new
  called_on called = called_then so_far.called called

  quiet_on : Called now new → (IsStill now.foreign_writes new.foreign_writes → IsUnchanged now.image new.image)
      → IsStill old.foreign_writes new.foreign_writes → IsUnchanged old.image new.image
  quiet_on called quiet still = unchanged_then
      (so_far.quiet (still_first so_far.called.foreign_writes called.foreign_writes still))
      (quiet (still_second so_far.called.foreign_writes called.foreign_writes still))

  tells_now : IsTrue old.tells → IsTrue now.tells
  tells_now tells = subst IsTrue (sym so_far.called.tells) tells

  -- what was blank in the row, and each cell before the row
  blank_on : (end : ℕ) → ((cell : ℕ) → IsOfCells row cell → cell < end → now.image cell ≡ None)
      → end ≤ row.start + row.length → IsTrue old.tells → (cell : ℕ) → IsOfCells cells cell → cell < end
      → old.image cell ≡ None
  blank_on end blank most tells cell is below = elim (cases_lt cell row.start) [
    | inl before ↦ so_far.blank tells cell is before
    | inr behind ↦ blank_before so_far.called.image
        (blank cell (record { from = behind; below = omega (arith, below, most) }) below)
  ]

  pub blank_more : LooksAlong row now new (Ok tt) → BlankSoFar cells (row.start + row.length) old new
  blank_more looks = record {
    called = called_on looks.called;
    quiet = quiet_on looks.called looks.quiet;
    faults = looks.ends.0 ∙ so_far.faults;
    blank = λ tells. blank_on (row.start + row.length)
        (λ cell is below. looks.ends.1 (tells_now tells) cell is) (omega arith) tells;
    from = omega (arith, so_far.from);
    to = inside;
  }

  -- it ends the look
  ended : (fault : Fault) → AlongEnds row now new (Err fault) → AlongEnds cells old new (Err fault)
  ended Failed rose = omega (arith, so_far.faults, rose)
  ended (Tampered e) ends = (
    ends.0,
    record { from = omega (arith, so_far.from, ends.1.from); below = omega (arith, ends.1.below, inside) },
    λ tells.
        let there = ends.2 (tells_now tells) in (
          there.0,
          blank_on e.cell there.1 (omega (arith, ends.1.below)) tells,
        ),
  )

  pub blank_ended : (fault : Fault) → LooksAlong row now new (Err fault) → LooksAlong cells old new (Err fault)
  blank_ended fault looks = record {
    called = called_on looks.called;
    quiet = quiet_on looks.called looks.quiet;
    ends = ended fault looks.ends;
  }

-- all of them were
pub blank_whole : (cells : Reservation) (at : ℕ) (old new : DeviceState) → BlankSoFar cells at old new
    → cells.start + cells.length ≤ at → LooksAlong cells old new (Ok tt)
blank_whole cells at old new so_far all = record {
  called = so_far.called;
  quiet = so_far.quiet;
  ends = (so_far.faults, λ tells cell is. so_far.blank tells cell is (omega (arith, is.below, all)));
}
