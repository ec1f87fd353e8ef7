-- The new image has the cells of the plan's five phases, and no other that the old one lacked.
use Rattle.std.proofs.Common.{◌≡◌, ◌<◌, ◌≤◌, ◌+◌, ◌-◌, ◌^◌, ◌⊎◌, ⊎_elim, inl, inr, ℕ, List, length, length-append, Option, Some, None, refl, ap, sym, ◌∙◌, subst, arith}
use Rattle.std.proofs.lemmas.Option.{none-some, slice_get_within, slice_get-get_or}
use Rattle.cell_types.specs.Image.{Image, Extends}
use Rattle.cell_types.specs.Layout.{Layout, reserve_at, outcome_at, done_at, spare_at, lists_at}
use Rattle.cell_types.specs.Records.{IsRecordCell, record_bytes}
use Rattle.cell_types.specs.declared.record_cell.RecordCell.TheVariants.{Reserve, Commit, Done, Stamp}
use Rattle.cell_types.proofs.OneRecord.{one_record}
use Rattle.volume_meaning.specs.Documents.{content_at}
use Rattle.volume_meaning.specs.Slots.{cells_for}
use Rattle.volume_meaning.proofs.Extending.{blank_before}
use Rattle.volume_meaning.specs.Postings.{ListedPosting}
use Rattle.tamper_rules.specs.Settling.{IsWith}
use Rattle.tamper_rules.proofs.Images.{look}
use Rattle.ingest_laws.specs.Ingesting.{Plan, Reserving, Storing, Committing, Applying, Finishing, stored_of, StoredRow, AppliedRow, AnyRow}
use Rattle.hash_tree.specs.declared.level.Level.{Level}
use Rattle.hash_tree.specs.declared.path.Open.{Open}
use Rattle.plan_laws.specs.Laws.{IsPlannedIndex}
use Rattle.plan_laws.specs.Standing.{seconds_of}
use Rattle.plan_laws.proofs.Behind.{more, planned_low, some_planned, to_inside}
use Rattle.plan_laws.proofs.Laying.{blank_with, held_is, held_there, one_is, one_there, row_is, row_there, with_same}
use Rattle.plan_laws.proofs.NewImage.{IsStored, OfCommit, OfDocument, OfDone, OfJournal, OfReserve, OfStamp, Planned, bytes, document, document_cells, is_all, journal, journal_cells, new_image, stamp_cell, stamp_is}

module _ {g : Layout} {old laid : Image} {p : Plan} {rows : List ListedPosting} {level : Level} {place : Open} {to : ℕ}
    {planned : Image} (h : IsPlannedIndex g old laid p rows level place to planned) where
  -- a planned cell is copied in the journal
  pub of_planned : (cell : ℕ) (value : List ℕ) → planned cell ≡ Some value → AppliedRow p cell value
  of_planned cell value is =
      let found = h.journal.all cell value is in
      let index = h.index cell value is in
      record {
        place = found.0;
        entry = found.2;
        copied = index.held;
        index = index.index;
        address = omega (arith, planned_low h is, to_inside h, h.takes.layout.cells);
        is = index.is;
      }

  -- and what the journal copies is planned
  pub to_planned : {cell : ℕ} {value : List ℕ} → AppliedRow p cell value → planned cell ≡ Some value
  to_planned {cell} {value} row =
      let below = slice_get_within p.journal row.place value row.entry in
      let number = slice_get-get_or h.journal.numbers row.place 0 (omega (arith, below, h.journal.long)) in
      let stands = h.journal.each row.place _ value number row.entry in
      let index = h.index _ value stands in
      let one = one_record row.copied index.held cell _ value row.address
      (omega (arith, planned_low h stands, to_inside h, h.takes.layout.cells)) row.is index.is in
      subst (λ (at : ℕ). planned at ≡ Some value) (sym one.1) stands

  pub some_journal : 1 ≤ length p.journal
  some_journal =
      let found = some_planned h in
      let row = of_planned found.0 found.1 found.2 in
      omega (arith, slice_get_within p.journal row.place found.1 row.entry)

  -- the slot's cells are well-formed
  pub reserve_cell : IsRecordCell (Reserve p.start p.reserved) (reserve_at p.slot)
      (record_bytes (Reserve p.start p.reserved) (reserve_at p.slot))
  reserve_cell = record {
    fits = (omega (arith, h.takes.inside, h.takes.layout.cells), omega (arith, h.takes.inside, h.takes.layout.cells));
    well_formed = omega (arith, h.takes.room, more h, some_journal);
    same = refl;
  }

  pub commit_cell : IsRecordCell (Commit (bytes h) (length p.journal)) (outcome_at p.slot)
      (record_bytes (Commit (bytes h) (length p.journal)) (outcome_at p.slot))
  commit_cell =
      let long : length (stored_of p) ≡ 1 + length p.id + length p.body = omega (arith, length-append p.id p.body) in
      let some = h.takes.identifier.some in
      let most = h.takes.identifier.most in
      let body = h.takes.body.most in
      record {
        fits = (
          omega (arith, long, most, body),
          omega (arith, h.takes.room, h.takes.inside, h.takes.layout.cells, more h),
        );
        well_formed = (omega (arith, long, some), omega (arith, long, most, body), some_journal);
        same = refl;
      }

  pub done_cell : IsRecordCell (Done p.slot) (done_at p.slot) (record_bytes (Done p.slot) (done_at p.slot))
  done_cell = record {
    fits = omega (arith, h.takes.slot, h.takes.layout.slots);
    well_formed = omega (arith, h.takes.slot, h.takes.layout.slots);
    same = refl;
  }

  pub stamp_well : (stamp : Option ℕ) (seconds : ℕ) → stamp ≡ Some seconds → seconds_of stamp < 2 ^ 32
      → IsRecordCell (Stamp seconds) (spare_at p.slot) (record_bytes (Stamp seconds) (spare_at p.slot))
  stamp_well stamp seconds given below = record {
    fits = omega (arith, below, ap seconds_of given);
    well_formed = tt;
    same = refl;
  }

  abbrev AllOf : ℕ → List ℕ → Type 0
  AllOf cell value = ((IsStored h cell value ⊎ OfDone h cell value) ⊎ OfCommit h cell value) ⊎ OfReserve h cell value

  to_row : (cell : ℕ) (value : List ℕ) → AllOf cell value → AnyRow p cell value
  to_row cell value (inl (inl (inl (inl (inl (inl row)))))) = (Applying, of_planned cell value row.is)
  to_row cell value (inl (inl (inl (inl (inl (inr row)))))) =
      let k = row_is (journal h) (journal_cells h) row.is in
      (Storing, inl (inr (record { place = k.0; entry = k.2; at = k.1 })))
  to_row cell value (inl (inl (inl (inl (inr row))))) =
      let k = row_is (document h) (document_cells h) row.is in
      let left = held_is (cells_for (bytes h) - k.0) (content_at (stored_of p) k.0) value k.2 in
      (Storing, inl (inl (record { place = k.0; below = omega (arith, left.0); at = k.1; is = left.1 })))
  to_row cell value (inl (inl (inl (inr row)))) =
      let one = stamp_is p.slot p.stamp row.is in (
        Storing,
        inr (record {
          seconds = one.0;
          given = one.1;
          row = record {
            at = one.2;
            is = subst (λ (v : List ℕ). IsRecordCell (Stamp one.0) (spare_at p.slot) v) (sym one.3)
                (stamp_well p.stamp one.0 one.1 h.takes.seconds);
          };
        }),
      )
  to_row cell value (inl (inl (inr row))) =
      let one = one_is row.is in (
        Finishing,
        record {
          at = one.0;
          is = subst (λ (v : List ℕ). IsRecordCell (Done p.slot) (done_at p.slot) v) (sym one.1) done_cell;
        },
      )
  to_row cell value (inl (inr row)) =
      let one = one_is row.is in (
        Committing,
        record {
          at = one.0;
          is = subst (λ (v : List ℕ). IsRecordCell (Commit (bytes h) (length p.journal)) (outcome_at p.slot) v)
              (sym one.1)
              commit_cell;
        },
      )
  to_row cell value (inr row) =
      let one = one_is row.is in (
        Reserving,
        record {
          at = one.0;
          is = subst (λ (v : List ℕ). IsRecordCell (Reserve p.start p.reserved) (reserve_at p.slot) v) (sym one.1)
              reserve_cell;
        },
      )

  stored : (cell : ℕ) (value : List ℕ) → StoredRow p cell value → AllOf cell value
  stored cell value (inl row) =
      inl (inl (inl (inl (inr (record {
        is = row_there (document h) (document_cells h) row.place row.at
            (subst (λ (v : List ℕ). document_cells h row.place ≡ Some v) (sym row.is)
            (held_there (cells_for (bytes h) - row.place) (content_at (stored_of p) row.place)
            (omega (arith, row.below))));
      })))))
  stored cell value (inr row) =
      inl (inl (inl (inl (inl (inr (record {
        is = row_there (journal h)
            (journal_cells h) row.place row.at row.entry;
      }))))))

  stamped : (cell : ℕ) (value : List ℕ) (seconds : ℕ) → p.stamp ≡ Some seconds → cell ≡ spare_at p.slot
      → value ≡ record_bytes (Stamp seconds) (spare_at p.slot) → stamp_cell p.slot p.stamp cell ≡ Some value
  stamped cell value seconds given at is =
      subst (λ (s : Option ℕ). stamp_cell p.slot s cell ≡ Some value) (sym given) (one_there at is)

  from_row : (cell : ℕ) (value : List ℕ) → AnyRow p cell value → AllOf cell value
  from_row cell value (Reserving, row) = inr (record { is = one_there row.at row.is.same })
  from_row cell value (Storing, inl row) = stored cell value row
  from_row cell value (Storing, inr row) =
      inl (inl (inl (inr (record { is = stamped cell value row.seconds row.given row.row.at row.row.is.same }))))
  from_row cell value (Committing, row) = inl (inr (record { is = one_there row.at row.is.same }))
  from_row cell value (Applying, row) = inl (inl (inl (inl (inl (inl (record { is = to_planned row }))))))
  from_row cell value (Finishing, row) = inl (inl (inr (record { is = one_there row.at row.is.same })))

  pub all_rows : IsWith (AnyRow p) old (new_image h)
  all_rows = with_same to_row from_row (is_all h)

  -- the new image has what is laid
  pub extends_new : Extends laid (new_image h)
  extends_new = record {
    keeps = λ cell value is. ⊎_elim
        (λ was. all_rows.keeps.keeps cell value was)
        (λ row. all_rows.adds cell value (Applying, of_planned cell value row))
        (h.laid_is.only cell value is);
  }

  -- and nothing else in the lists, the root and the new blocks
  pub same_new : (cell : ℕ) → lists_at g ≤ cell → cell < to → new_image h cell ≡ laid cell
  same_new cell from below = ⊎_elim
      (λ none. blank_with all_rows (blank_before h.laid_is.keeps none) (λ found row. far found none row) ∙ sym none)
      (λ found. extends_new.keeps cell found.0 found.1 ∙ sym found.1)
      (look laid cell)
    where
      far : (found : List ℕ) → laid cell ≡ None → AnyRow p cell found → ⊥
      far found none (Reserving, row) = omega (arith, row.at, from, h.takes.slot)
      far found none (Storing, inl (inl row)) = omega (arith, row.at, h.takes.room, below)
      far found none (Storing, inr row) = omega (arith, row.row.at, from, h.takes.slot)
      far found none (Storing, inl (inr row)) =
          omega (arith, row.at, h.takes.room, below, slice_get_within p.journal row.place found row.entry)
      far found none (Committing, row) = omega (arith, row.at, from, h.takes.slot)
      far found none (Applying, row) = none-some _ (sym none ∙ h.laid_is.adds cell found (to_planned row))
      far found none (Finishing, row) = omega (arith, row.at, from, h.takes.slot)
