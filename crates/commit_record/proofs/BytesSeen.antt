-- What the bytes of a slot's cells tell that were read in one row, as what was found in the cells.
use Rattle.std.proofs.Common.{◌≡◌, ◌<◌, ◌≤◌, ◌+◌, ◌*◌, ◌⊎◌, ⊎_elim, ◌∙◌, ℕ, zero, suc, List, [], ◌∷◌, Option, None, Some, Ok, ap, arith, drop, length, length-drop, refl, replicate, subst, sym, take}
use Rattle.std.specs.Prelude.{◌/◌, slice_get, slice_index}
use Rattle.std.proofs.lemmas.Bool.{cases_eq}
use Rattle.std.proofs.lemmas.List.{drop-drop}
use Rattle.std.proofs.lemmas.Option.{none-some}
use Rattle.cell_types.specs.Image.{Image}
use Rattle.cell_types.specs.Layout.{Layout, TakesStamps, reserve_at}
use Rattle.cell_types.specs.declared.geometry.TheConstants.{STAMPED_VERSION}
use Rattle.cell_types.specs.declared.record_cell.RecordCell.TheVariants as records
use Rattle.worm_device.specs.ReadBytes.{IsReadBetween, cell_bytes}
use Rattle.worm_device.specs.ReadRows.{IsFoundBetween}
use Rattle.worm_device.specs.Views.{IsView, ViewState}
use Rattle.worm_device.specs.declared.looks.Found.TheVariants.{Record}
use Rattle.commit_record.specs.SlotBytes.{IsDoneByBytes, IsHeldIn, IsRowOf, ReadsSlotBytes}
use Rattle.commit_record.specs.SlotCells.{IsStampedByRow, ReadsSlots, SlotOfRow, StampOfRow}
use Rattle.commit_record.specs.declared.slot.SlotState.TheVariants.{Done}
use Rattle.commit_record.proofs.DoneRow.{done_row}

-- what a cell holds whose bytes were read between two images was found in it between them
held_between : (before : Image) (new : ViewState) (cell : ℕ) (bytes : List ℕ) → IsView new
    → IsReadBetween before new.image cell bytes → (held : Option (List ℕ)) → IsHeldIn held bytes
    → IsFoundBetween before new.image cell held
held_between before new cell bytes view read None zeros =
    ⊎_elim
    (λ (stands : new.image cell ≡ Some bytes). absurd ((view.inside cell bytes stands).1.written zeros))
    (λ (was : (before cell ≡ None) × (bytes ≡ replicate 16 0)). was.0) read
held_between before new cell bytes view read (Some value) held =
    ⊎_elim
    (λ (stands : new.image cell ≡ Some bytes). stands ∙ ap Some (sym held.0))
    (λ (was : (before cell ≡ None) × (bytes ≡ replicate 16 0)). absurd (held.1 was.1)) read

-- the cells of a slot and those behind it, of which the bytes were read, as a row that was
pub row_of_bytes : (n : ℕ) (bytes : List ℕ) (row : List (Option (List ℕ))) {old new : ViewState} → IsRowOf bytes row
    → ReadsSlotBytes n bytes old new → ReadsSlots n row old new
row_of_bytes n bytes row {old} {new} is reads = record {
  viewed = reads.viewed;
  view = reads.view;
  faults = reads.faults;
  found = λ tells place held less there.
      held_between old.image new (reserve_at n + place) (cell_bytes bytes place) reads.view
      (reads.read tells place (omega (arith, less, is.inside))) held (is.each place held there);
}

-- the cells of a slot and those behind it, of a row that begins with an earlier one's
pub bytes_from : (first place : ℕ) (bytes : List ℕ) {old new : ViewState} → 64 * place ≤ length bytes
    → ReadsSlotBytes first bytes old new → ReadsSlotBytes (first + place) (drop (64 * place) bytes) old new
bytes_from first place bytes {old} {new} inside reads = record {
  viewed = reads.viewed;
  view = reads.view;
  faults = reads.faults;
  read = λ tells at less.
      let within : 4 * place + at < length bytes / 16 = omega (arith, less, length-drop (64 * place) bytes, inside) in
      let rest : List ℕ = drop (64 * place) bytes in
      let same : cell_bytes bytes (4 * place + at) ≡ cell_bytes rest at =
      ap (λ (k : ℕ). take 16 (drop k bytes)) (omega arith)
      ∙ ap (take 16) (sym (drop-drop (16 * at) (64 * place) bytes)) in
      subst (λ (cell : ℕ). IsReadBetween old.image new.image cell (cell_bytes rest at)) (omega arith)
      (subst (λ (b : List ℕ). IsReadBetween old.image new.image (reserve_at first + (4 * place + at)) b) same
      (reads.read tells (4 * place + at) within));
}

inside : (a held : Option (List ℕ)) → ◌≡◌ {A = Option (Option (List ℕ))} (Some a) (Some held) → a ≡ held
inside a held is = cc

-- four cells are the first four of a row
four_cells : (bytes : List ℕ) (a b c d : Option (List ℕ)) → IsHeldIn a (cell_bytes bytes 0)
    → IsHeldIn b (cell_bytes bytes 1) → IsHeldIn c (cell_bytes bytes 2) → IsHeldIn d (cell_bytes bytes 3)
    → (place : ℕ) (held : Option (List ℕ))
    → slice_get (a ∷ b ∷ c ∷ d ∷ []) place ≡ Some held → IsHeldIn held (cell_bytes bytes place)
four_cells bytes a b c d of_a of_b of_c of_d zero held is =
    subst (λ (o : Option (List ℕ)). IsHeldIn o (cell_bytes bytes 0)) (inside a held is) of_a
four_cells bytes a b c d of_a of_b of_c of_d (suc zero) held is =
    subst (λ (o : Option (List ℕ)). IsHeldIn o (cell_bytes bytes 1)) (inside b held is) of_b
four_cells bytes a b c d of_a of_b of_c of_d (suc (suc zero)) held is =
    subst (λ (o : Option (List ℕ)). IsHeldIn o (cell_bytes bytes 2)) (inside c held is) of_c
four_cells bytes a b c d of_a of_b of_c of_d (suc (suc (suc zero))) held is =
    subst (λ (o : Option (List ℕ)). IsHeldIn o (cell_bytes bytes 3)) (inside d held is) of_d
four_cells bytes a b c d of_a of_b of_c of_d (suc (suc (suc (suc place)))) held is = absurd (none-some held is)

-- the row of a slot that is done by its bytes
module _ (g : Layout) (n : ℕ) (bytes : List ℕ) (seconds : ℕ) (done : IsDoneByBytes g n bytes seconds)
    (whole : 64 ≤ length bytes) where
  abbrev pub done_cells : List (Option (List ℕ))
  done_cells =
      Some (cell_bytes bytes 0) ∷ Some (cell_bytes bytes 1) ∷ Some (cell_bytes bytes 2) ∷ Some (cell_bytes bytes 3) ∷ []

  written : (cell : List ℕ) (kind : ℕ) (rest : List ℕ) → 1 ≤ kind → cell ≡ kind ∷ rest → IsHeldIn (Some cell) cell
  written cell kind rest some is = (
    refl,
    λ zeros.
        let none : kind ≡ 0 = ap (λ (l : List ℕ). slice_index l 0) (sym is ∙ zeros) in
        omega (arith, some, none),
  )

  pub done_row_of : IsRowOf bytes done_cells
  done_row_of = record {
    inside = omega (arith, whole);
    each = four_cells bytes (Some (cell_bytes bytes 0)) (Some (cell_bytes bytes 1)) (Some (cell_bytes bytes 2))
        (Some (cell_bytes bytes 3)) (written (cell_bytes bytes 0) 2 _ (omega arith) done.reserve.same)
        (written (cell_bytes bytes 1) 3 _ (omega arith) done.outcome.same)
        (written (cell_bytes bytes 2) 5 _ (omega arith) done.done.same)
        (written (cell_bytes bytes 3) 10 _ (omega arith) done.stamp.same);
  }

  stamped : TakesStamps g ⊎ (TakesStamps g → ⊥) → IsStampedByRow g n done_cells
  stamped cases =
      ⊎_elim
      (λ (is : TakesStamps g). record {
        stamp = Some (Record (cell_bytes bytes 3) (records.Stamp seconds));
        spare = (is, done.stamp, refl);
        there = (seconds, refl);
      })
      (λ (other : TakesStamps g → ⊥). record { stamp = None; spare = other; there = tt })
      cases

  pub done_state : n < g.slots → SlotOfRow g n done_cells (Ok (Done done.start done.length done.size done.journal))
  done_state less =
      done_row g n done_cells done.start done.length done.size done.journal (cell_bytes bytes 0) (cell_bytes bytes 1)
      (cell_bytes bytes 2) less refl refl refl done.reserve done.outcome done.done done.pool.1 done.pool.2 done.pool.3
      done.fits.3 (stamped (cases_eq g.version STAMPED_VERSION))

  pub done_has_stamp : StampOfRow n done_cells (Some seconds)
  done_has_stamp = record {
    spare = Record (cell_bytes bytes 3) (records.Stamp seconds);
    of = done.stamp;
    is = refl;
    told = refl;
  }
