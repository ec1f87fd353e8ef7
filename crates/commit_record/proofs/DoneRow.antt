-- A row of a slot's cells that says that the slot is done.
use Rattle.std.proofs.Common.{◌≡◌, ◌<◌, ◌≤◌, ◌+◌, ℕ, List, Option, Some, Ok, refl}
use Rattle.std.specs.Prelude.{slice_get}
use Rattle.cell_types.specs.Layout.{Layout, done_at, outcome_at, pool_at, reserve_at}
use Rattle.cell_types.specs.Records.{IsRecordCell}
use Rattle.cell_types.specs.declared.geometry.TheConstants.{MAX_CELLS}
use Rattle.cell_types.specs.declared.record_cell.RecordCell.TheVariants as records
use Rattle.volume_meaning.specs.Slots.{cells_for}
use Rattle.worm_device.specs.declared.looks.Found.{Found}
use Rattle.worm_device.specs.declared.looks.Found.TheVariants.{Record}
use Rattle.commit_record.specs.SlotCells.{IsStampedByRow, SlotOfRow}
use Rattle.commit_record.specs.declared.slot.SlotState.TheVariants.{Done}
use Rattle.commit_record.proofs.CellsMake.{committed, reserved}
use Rattle.commit_record.proofs.CellsSeen.{record_held}

pub done_row : (g : Layout) (n : ℕ) (row : List (Option (List ℕ))) (start length bytes journal : ℕ) (reserve outcome done : List ℕ) → n < g.slots
    → slice_get row 0 ≡ Some (Some reserve) → slice_get row 1 ≡ Some (Some outcome)
    → slice_get row 2 ≡ Some (Some done) → IsRecordCell (records.Reserve start length) (reserve_at n) reserve
    → IsRecordCell (records.Commit bytes journal) (outcome_at n) outcome
    → IsRecordCell (records.Done n) (done_at n) done → pool_at g ≤ start → start + length ≤ g.cells
    → start + length ≤ MAX_CELLS → cells_for bytes + journal ≤ length → IsStampedByRow g n row
    → SlotOfRow g n row (Ok (Done start length bytes journal))
done_row g n row start length bytes journal reserve outcome done less first second third is_r is_o is_d from to most fits
    stamped =
    let r : Found = Record reserve (records.Reserve start length) in
    let o : Found = Record outcome (records.Commit bytes journal) in
    let d : Found = Record done (records.Done n) in
    record {
      stamp = stamped.stamp;
      spare = stamped.spare;
      ends = record {
        reserve = r;
        outcome = o;
        done = d;
        reserve_of = is_r;
        outcome_of = is_o;
        done_of = is_d;
        reserve_is = first;
        outcome_is = second;
        done_is = third;
        ends = reserved g n less r o d stamped.stamp start length (Ok (Done start length bytes journal)) reserve
            (records.Reserve start length) refl refl from to
            (committed g n less r o d stamped.stamp start length bytes journal (Ok (Done start length bytes journal)) outcome
            (records.Commit bytes journal) refl refl fits stamped.there (
              (
                (is_r.well_formed, from, to, most),
                (is_o.well_formed.0, is_o.well_formed.1, is_o.well_formed.2, fits),
              ),
              λ before after seen. record {
                commits = seen.0;
                done = record_held before after (done_at n) d done seen.1 (records.Done n) refl;
              },
            ));
      };
    }
