-- What the cells of a slot make, and why a cell among them is out of place.
use Rattle.std.proofs.Common.{◌≡◌, ◌<◌, ◌≤◌, ◌+◌, inl, inr, ℕ, List, Option, Some, None, Result, Ok, Err, refl, sym, ◌∙◌, ap, subst}
use Rattle.cell_types.specs.Image.{Image}
use Rattle.cell_types.specs.Layout.{Layout, TakesStamps, reserve_at, outcome_at, done_at, spare_at, pool_at}
use Rattle.cell_types.specs.declared.record_cell.RecordCell.{RecordCell}
use Rattle.cell_types.specs.declared.record_cell.RecordCell.TheVariants as records
use Rattle.cell_types.specs.declared.refusal.Evidence.{Evidence}
use Rattle.volume_meaning.specs.Slots.{IsStamped, cells_for}
use Rattle.volume_meaning.specs.Volumes.{Holds}
use Rattle.tamper_rules.specs.Rules.{IsPlaceOf, ReserveCells, OutcomeCells, DoneCells}
use Rattle.tamper_rules.specs.declared.numbers.TheConstants.{RESERVE_CELL, OUTCOME_CELL, DONE_CELL}
use Rattle.commit_record.specs.SlotCells.{CellsEnd, IsStampMissing, IsStampThere, SeenCells, SeenCommitted, SeenReserved, SeenStamp, SeenUnreserved, found_cell}
use Rattle.commit_record.specs.States.{LacksStamp, reserves_none, ends_unreserved, ends_wrongly, ends_unstamped, done_unreserved, done_unended, done_abandoned, done_wrongly}
use Rattle.worm_device.specs.declared.looks.Found.{Found}
use Rattle.worm_device.specs.declared.looks.Found.TheVariants.{Blank, Record, Stray}
use Rattle.commit_record.specs.declared.slot.SlotState.{SlotState}
use Rattle.commit_record.proofs.CellsSeen.{stands, was_blank, record_stands, record_held, record_one, stray_stands, stray_none}

-- what cells make that were seen in one way, they make where they were seen in a way that says as much
pub narrower : (Wide Narrow : Image → Image → Type 0) (g : Layout) (n : ℕ) (result : Result SlotState Evidence)
    → ((before after : Image) → Narrow before after → Wide before after) → CellsEnd Wide g n result → CellsEnd Narrow
    g n result
narrower Wide Narrow g n (Ok state) says ends = (
  ends.0,
  λ before after seen. ends.1 before after
      (says before after seen),
)
narrower Wide Narrow g n (Err e) says ends = (
  ends.0,
  λ before after seen. ends.1 before after
      (says before after seen),
)

-- evidence of a rule at a cell
abbrev pub evidence : ℕ → ℕ → List ℕ → Evidence
evidence rule cell found = record { rule = rule; cell = cell; found = found }

-- a done cell that stands where none should
pub record IsLateDone (n : ℕ) (done : Found) (e : Evidence) : Type 0 where
  pub rule : e.rule ≡ DONE_CELL
  pub cell : e.cell ≡ done_at n
  pub found : found_cell done ≡ Some e.found

-- where a stamp was found in its cell, the slot has it
stamp_there : (g : Layout) (n : ℕ) (stamp : Option Found) (before after : Image) → IsStampThere stamp
    → SeenStamp g n stamp before after → TakesStamps g → IsStamped after n
stamp_there g n None before after there seen stamped = absurd (seen stamped)
stamp_there g n (Some Blank) before after there seen stamped = absurd there
stamp_there g n (Some (Stray cell)) before after there seen stamped = absurd there
stamp_there g n (Some (Record cell held)) before after there seen stamped = record {
  seconds = there.0;
  stamp = subst (Holds after (spare_at n)) there.1 (record { cell = cell; stands = seen.1.0; is = seen.1.1 });
}

-- where none was found, the slot lacks it
stamp_missing : (g : Layout) (n : ℕ) (stamp : Option Found) (before after : Image) → IsStampMissing stamp
    → SeenStamp g n stamp before after → TakesStamps g × LacksStamp before after n
stamp_missing g n None before after missing seen = absurd missing
stamp_missing g n (Some Blank) before after missing seen = (seen.0, inl seen.1)
stamp_missing g n (Some (Stray cell)) before after missing seen =
    (seen.0, inr (λ seconds. stray_none before after (spare_at n) (Stray cell) cell seen.1 refl _))
stamp_missing g n (Some (Record cell held)) before after missing seen = (
  seen.0,
  inr (λ seconds has. missing seconds
      (sym (record_one before after (spare_at n) (Record cell held) cell seen.1 held _ refl has))),
)

module _ (g : Layout) (n : ℕ) (less : n < g.slots) (reserve outcome done : Found) (stamp : Option Found) where
  reserve_place : (at : ℕ) → at ≡ reserve_at n → IsPlaceOf g RESERVE_CELL at
  reserve_place at e = (ReserveCells, refl, (n, less, e))

  outcome_place : (at : ℕ) → at ≡ outcome_at n → IsPlaceOf g OUTCOME_CELL at
  outcome_place at e = (OutcomeCells, refl, (n, less, e))

  done_place : (rule at : ℕ) → rule ≡ DONE_CELL → at ≡ done_at n → IsPlaceOf g rule at
  done_place rule at r e = (DoneCells, r, (n, less, e))

  -- the reserve cell holds no record
  pub reserve_stray : (at : ℕ) (found : List ℕ) → at ≡ reserve_at n → reserve ≡ Stray found
      → CellsEnd (SeenCells g n reserve outcome done stamp) g n (Err (evidence RESERVE_CELL at found))
  reserve_stray at found e is = (
    reserve_place at e,
    λ before after seen. (
      ap after e ∙ stray_stands before after (reserve_at n) reserve found seen.0 is,
      reserves_none refl e (λ start length r. stray_none before after (reserve_at n) reserve found seen.0 is _
          r.reserve),
    ),
  )

  -- or one that reserves no cells of the pool
  pub reserve_wrong : (at : ℕ) (found : List ℕ) (held : RecordCell) → at ≡ reserve_at n → reserve ≡ Record found held
      → ((start length : ℕ) → held ≡ records.Reserve start length → pool_at g ≤ start → start + length ≤ g.cells → ⊥)
      → CellsEnd (SeenCells g n reserve outcome done stamp) g n (Err (evidence RESERVE_CELL at found))
  reserve_wrong at found held e is none = (
    reserve_place at e,
    λ before after seen. (
      ap after e ∙ record_stands before after (reserve_at n) reserve found seen.0 held is,
      reserves_none refl e (λ start length r.
          none start length (sym (record_one before after (reserve_at n) reserve found seen.0 held _ is r.reserve))
          r.from r.to),
    ),
  )

  -- an outcome cell stands, and nothing is reserved
  pub outcome_unreserved : (at : ℕ) (found : List ℕ) → at ≡ outcome_at n → found_cell outcome ≡ Some found
      → CellsEnd (SeenUnreserved n outcome done) g n (Err (evidence OUTCOME_CELL at found))
  outcome_unreserved at found e is = (
    outcome_place at e,
    λ before after seen. (
      ap after e ∙ stands before after (outcome_at n) outcome found seen.1 is,
      ends_unreserved
          refl e seen.0,
    ),
  )

  -- a done cell stands, and nothing is reserved
  pub done_without_reserve : (e : Evidence) → found_cell outcome ≡ None → IsLateDone n done e
      → CellsEnd (SeenUnreserved n outcome done) g n (Err e)
  done_without_reserve e blank late = (
    done_place e.rule e.cell late.rule late.cell,
    λ before after seen. (
      ap after late.cell ∙ stands before after (done_at n) done e.found seen.2 late.found,
      done_unreserved late.rule late.cell seen.0 (was_blank before after (outcome_at n) outcome seen.1 blank),
    ),
  )

  module _ (start length : ℕ) where
    -- the outcome cell holds no record
    pub outcome_stray : (at : ℕ) (found : List ℕ) → at ≡ outcome_at n → outcome ≡ Stray found
        → CellsEnd (SeenReserved g n start length outcome done stamp) g n (Err (evidence OUTCOME_CELL at found))
    outcome_stray at found e is = (
      outcome_place at e,
      λ before after seen.
          let none = stray_none before after (outcome_at n) outcome found seen.1 is in (
            ap after e ∙ stray_stands before after (outcome_at n) outcome found seen.1 is,
            ends_wrongly start length refl e seen.0 (λ a. none _ a.outcome) (λ bytes journal c. none _ c.outcome),
          ),
    )

    -- or one that neither gives up nor states a document that fits
    pub outcome_wrong : (at : ℕ) (found : List ℕ) (held : RecordCell) → at ≡ outcome_at n
        → outcome ≡ Record found held → (held ≡ records.Abandon → ⊥)
        → ((bytes journal : ℕ) → held ≡ records.Commit bytes journal → cells_for bytes + journal ≤ length → ⊥)
        → CellsEnd (SeenReserved g n start length outcome done stamp) g n (Err (evidence OUTCOME_CELL at found))
    outcome_wrong at found held e is no_abandon no_commit = (
      outcome_place at e,
      λ before after seen.
          let one : (r : RecordCell) → Holds after (outcome_at n) r → held ≡ r = λ r h.
          sym (record_one before after (outcome_at n) outcome found seen.1 held r is h) in (
            ap after e ∙ record_stands before after (outcome_at n) outcome found seen.1 held is,
            ends_wrongly start length refl e seen.0
                (λ a. no_abandon (one records.Abandon a.outcome))
                (λ bytes journal c. no_commit bytes journal (one (records.Commit bytes journal) c.outcome) c.fits),
          ),
    )

    -- a done cell stands, and the slot has no outcome
    pub done_without_outcome : (e : Evidence) → outcome ≡ Blank → IsLateDone n done e
        → CellsEnd (SeenReserved g n start length outcome done stamp) g n (Err e)
    done_without_outcome e blank late = (
      done_place e.rule e.cell late.rule late.cell,
      λ before after seen. (
        ap after late.cell ∙ stands before after (done_at n) done e.found seen.2 late.found,
        done_unended start length late.rule late.cell seen.0 (was_blank before after (outcome_at n) outcome seen.1
            (ap found_cell blank)),
      ),
    )

    -- a done cell stands, and the slot was given up
    pub done_behind_abandon : (e : Evidence) (found : List ℕ) (held : RecordCell) → outcome ≡ Record found held
        → held ≡ records.Abandon → IsLateDone n done e
        → CellsEnd (SeenReserved g n start length outcome done stamp) g n (Err e)
    done_behind_abandon e found held is abandon late = (
      done_place e.rule e.cell late.rule late.cell,
      λ before after seen.
          let given_up = subst (Holds after (outcome_at n)) abandon (record_held before after (outcome_at n) outcome
          found seen.1 held is) in (
            ap after late.cell ∙ stands before after (done_at n) done e.found seen.2 late.found,
            done_abandoned start length late.rule late.cell (record { reserves = seen.0; outcome = given_up }),
          ),
    )

    module _ (bytes journal : ℕ) where
      -- where the outcome cell states a document that fits, the slot commits it
      pub committed : (result : Result SlotState Evidence) (found : List ℕ) (held : RecordCell) → outcome ≡ Record
          found held
          → held ≡ records.Commit bytes journal → cells_for bytes + journal ≤ length → IsStampThere stamp
          → CellsEnd (SeenCommitted g n start length bytes journal done) g n result
          → CellsEnd (SeenReserved g n start length outcome done stamp) g n result
      committed result found held is commit fits there =
          narrower (SeenCommitted g n start length bytes journal done) (SeenReserved g n start length outcome done stamp) g
          n result
          (λ before after seen.
          let states = subst (Holds after (outcome_at n)) commit (record_held before after (outcome_at n) outcome
          found seen.1 held is) in (
            record {
              reserves = seen.0;
              outcome = states;
              fits = fits;
              stamped = stamp_there g n stamp before after there seen.3;
            },
            seen.2,
          ))

      -- or it lacks its stamp
      pub unstamped : (at : ℕ) (found : List ℕ) (held : RecordCell) → at ≡ outcome_at n → outcome ≡ Record found held
          → held ≡ records.Commit bytes journal → cells_for bytes + journal ≤ length → IsStampMissing stamp
          → CellsEnd (SeenReserved g n start length outcome done stamp) g n (Err (evidence OUTCOME_CELL at found))
      unstamped at found held e is commit fits missing = (
        outcome_place at e,
        λ before after seen.
            let states = subst (Holds after (outcome_at n)) commit (record_held before after (outcome_at n) outcome
            found seen.1 held is) in
            let lacks = stamp_missing g n stamp before after missing seen.3 in (
              ap after e ∙ record_stands before after (outcome_at n) outcome found seen.1 held is,
              ends_unstamped start length bytes journal refl e seen.0 states fits lacks.0 lacks.1,
            ),
      )

      -- the done cell holds no record
      pub done_stray : (at : ℕ) (found : List ℕ) → at ≡ done_at n → done ≡ Stray found
          → CellsEnd (SeenCommitted g n start length bytes journal done) g n (Err (evidence DONE_CELL at found))
      done_stray at found e is = (
        done_place DONE_CELL at refl e,
        λ before after seen. (
          ap after e ∙ stray_stands before after (done_at n) done found seen.1 is,
          done_wrongly start length bytes journal refl e seen.0 (stray_none before after (done_at n) done found
              seen.1 is _),
        ),
      )

      -- or one that is not this slot's done cell
      pub done_wrong : (at : ℕ) (found : List ℕ) (held : RecordCell) → at ≡ done_at n → done ≡ Record found held
          → (held ≡ records.Done n → ⊥)
          → CellsEnd (SeenCommitted g n start length bytes journal done) g n (Err (evidence DONE_CELL at found))
      done_wrong at found held e is other = (
        done_place DONE_CELL at refl e,
        λ before after seen. (
          ap after e ∙ record_stands before after (done_at n) done found seen.1 held is,
          done_wrongly start length bytes journal refl e seen.0
              (λ h. other (sym (record_one before after (done_at n) done found seen.1 held _ is h))),
        ),
      )

    -- where the reserve cell reserves these cells, the slot does
    pub reserved : (result : Result SlotState Evidence) (found : List ℕ) (held : RecordCell) → reserve ≡ Record found
        held
        → held ≡ records.Reserve start length → pool_at g ≤ start → start + length ≤ g.cells
        → CellsEnd (SeenReserved g n start length outcome done stamp) g n result
        → CellsEnd (SeenCells g n reserve outcome done stamp) g n result
    reserved result found held is reserves from to =
        narrower (SeenReserved g n start length outcome done stamp) (SeenCells g n reserve outcome done stamp) g n result
        (λ before after seen.
        let holds = subst (Holds after (reserve_at n)) reserves (record_held before after (reserve_at n) reserve
        found seen.0 held is) in
        (record { slot = less; reserve = holds; from = from; to = to }, seen.1, seen.2, seen.3))

  -- where the reserve cell is blank, nothing is reserved
  pub unreserved : (result : Result SlotState Evidence) → reserve ≡ Blank
      → CellsEnd (SeenUnreserved n outcome done) g n result → CellsEnd (SeenCells g n reserve outcome done stamp) g n result
  unreserved result blank =
      narrower (SeenUnreserved n outcome done) (SeenCells g n reserve outcome done stamp) g n result
      (λ before after seen. (
        was_blank before after (reserve_at n) reserve seen.0 (ap found_cell blank),
        seen.1,
        seen.2,
      ))
