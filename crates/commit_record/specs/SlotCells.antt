-- What was found in the cells of a slot makes a state, whatever two images it was found between.
use Rattle.std.specs.Prelude.{◌≡◌, ℕ, List, length, Option, Some, None, Result, Ok, Err, IsTrue, slice_get, ⊤}
use Rattle.cell_types.specs.Image.{Image}
use Rattle.cell_types.specs.Layout.{Layout, TakesStamps, reserve_at, outcome_at, done_at, spare_at}
use Rattle.cell_types.specs.Records.{IsRecordCell}
use Rattle.cell_types.specs.declared.record_cell.RecordCell.{RecordCell}
use Rattle.cell_types.specs.declared.record_cell.RecordCell.TheVariants.{Stamp}
use Rattle.cell_types.specs.declared.refusal.Evidence.{Evidence}
use Rattle.volume_meaning.specs.Slots.{Commits, Reserves}
use Rattle.tamper_rules.specs.Rules.{IsPlaceOf}
use Rattle.worm_device.specs.Counts.{Rose}
use Rattle.worm_device.specs.Looks.{IsOfCell, IsSeen}
use Rattle.worm_device.specs.ReadRows.{AreFoundBetween}
use Rattle.worm_device.specs.Views.{IsView, Viewed, ViewState}
use Rattle.worm_device.specs.declared.device.Failed.{Failed}
use Rattle.commit_record.specs.Stamps.{IsStampFound}
use Rattle.commit_record.specs.States.{IsNoState, IsState, StateLiesInPool}
use Rattle.worm_device.specs.declared.looks.Found.{Found}
use Rattle.worm_device.specs.declared.looks.Found.TheVariants.{Blank, Record, Stray}
use Rattle.commit_record.specs.declared.slot.SlotState.{SlotState}

-- the bytes that were found, if the cell is written
abbrev pub found_cell : Found → Option (List ℕ)
found_cell Blank = None
found_cell (Record cell held) = Some cell
found_cell (Stray cell) = Some cell

-- this was found in slot n's stamp cell, which is looked at where documents are stamped, and not on another volume
abbrev pub SeenStamp : Layout → ℕ → Option Found → Image → Image → Type 0
SeenStamp g n None before after = TakesStamps g → ⊥
SeenStamp g n (Some stamp) before after = TakesStamps g × IsSeen before after (spare_at n) stamp

-- How a look at slot n's stamp cell may end. It was made at the later of the two states.
abbrev pub StampSeen : Layout → ℕ → ViewState → ViewState → Result (Option Found) Failed → Type 0
StampSeen g n old new (Ok stamp) =
    (new.base.faults ≡ old.base.faults) × (IsTrue old.base.tells → SeenStamp g n stamp new.image new.image)
StampSeen g n old new (Err failed) = Rose old.base.faults new.base.faults

-- the record is a stamp
abbrev pub HoldsStamp : RecordCell → Type 0
HoldsStamp held = (seconds : ℕ) × (held ≡ Stamp seconds)

-- no stamp was found where one has to be
abbrev pub IsStampMissing : Option Found → Type 0
IsStampMissing None = ⊥
IsStampMissing (Some Blank) = ⊤
IsStampMissing (Some (Stray cell)) = ⊤
IsStampMissing (Some (Record cell held)) = (seconds : ℕ) → held ≡ Stamp seconds → ⊥

-- a stamp was found where one has to be
abbrev pub IsStampThere : Option Found → Type 0
IsStampThere None = ⊤
IsStampThere (Some Blank) = ⊥
IsStampThere (Some (Stray cell)) = ⊥
IsStampThere (Some (Record cell held)) = HoldsStamp held

-- this was found in slot n's cells
abbrev pub SeenCells : Layout → ℕ → Found → Found → Found → Option Found → Image → Image → Type 0
SeenCells g n reserve outcome done stamp before after =
    IsSeen before after (reserve_at n) reserve × IsSeen before after (outcome_at n) outcome
    × IsSeen before after (done_at n) done × SeenStamp g n stamp before after

-- slot n has no reserve cell, and this was found in its outcome and its done cell
abbrev pub SeenUnreserved : ℕ → Found → Found → Image → Image → Type 0
SeenUnreserved n outcome done before after =
    (before (reserve_at n) ≡ None) × IsSeen before after (outcome_at n) outcome × IsSeen before after (done_at n) done

-- slot n reserves these cells, and this was found in its others
abbrev pub SeenReserved : Layout → ℕ → ℕ → ℕ → Found → Found → Option Found → Image → Image → Type 0
SeenReserved g n start length outcome done stamp before after =
    Reserves g after n start length × IsSeen before after (outcome_at n) outcome × IsSeen before after (done_at n) done
    × SeenStamp g n stamp before after

-- slot n states its document, and this was found in its done cell
abbrev pub SeenCommitted : Layout → ℕ → ℕ → ℕ → ℕ → ℕ → Found → Image → Image → Type 0
SeenCommitted g n start length bytes journal done before after =
    Commits g after n start length bytes journal × IsSeen before after (done_at n) done

-- What cells of slot n make that were seen in this way: a state, or the first of them that is out of place.
abbrev pub CellsEnd : (Image → Image → Type 0) → Layout → ℕ → Result SlotState Evidence → Type 0
CellsEnd Seen g n (Ok state) =
    StateLiesInPool g state × ((before after : Image) → Seen before after → IsState g before after n state)
CellsEnd Seen g n (Err e) =
    IsPlaceOf g e.rule e.cell
    × ((before after : Image) → Seen before after
    → (after e.cell ≡ Some e.found) × IsNoState g before after n e.rule e.cell)

-- this was found in a cell of this number, which is the record's
pub record HoldsRecord (at : ℕ) (found : Option (List ℕ)) (held : RecordCell) : Type 0 where
  pub cell : List ℕ
  pub is : found ≡ Some cell
  pub of : IsRecordCell held at cell

-- What a row makes that begins with slot n's reserve, outcome and done cell: what was found in each, and what these are.
pub record RowEnds (g : Layout) (n : ℕ) (row : List (Option (List ℕ))) (stamp : Option Found)
    (result : Result SlotState Evidence) : Type 0 where
  pub reserve : Found
  pub outcome : Found
  pub done : Found
  pub reserve_of : IsOfCell (reserve_at n) reserve
  pub outcome_of : IsOfCell (outcome_at n) outcome
  pub done_of : IsOfCell (done_at n) done
  pub reserve_is : slice_get row 0 ≡ Some (found_cell reserve)
  pub outcome_is : slice_get row 1 ≡ Some (found_cell outcome)
  pub done_is : slice_get row 2 ≡ Some (found_cell done)
  pub ends : CellsEnd (SeenCells g n reserve outcome done stamp) g n result

-- This is what the fourth place of a row says of slot n's spare cell: it is asked where documents are stamped, and there
-- alone.
abbrev pub IsSpareOfRow : Layout → ℕ → List (Option (List ℕ)) → Option Found → Type 0
IsSpareOfRow g n row None = TakesStamps g → ⊥
IsSpareOfRow g n row (Some spare) =
    TakesStamps g × IsOfCell (spare_at n) spare × (slice_get row 3 ≡ Some (found_cell spare))

-- the row says that slot n has a stamp, where documents are stamped
pub record IsStampedByRow (g : Layout) (n : ℕ) (row : List (Option (List ℕ))) : Type 0 where
  pub stamp : Option Found
  pub spare : IsSpareOfRow g n row stamp
  pub there : IsStampThere stamp

-- what a row makes that begins with slot n's four cells: its state, or the first of them that is out of place
pub record SlotOfRow (g : Layout) (n : ℕ) (row : List (Option (List ℕ))) (result : Result SlotState Evidence)
    : Type 0 where
  pub stamp : Option Found
  pub spare : IsSpareOfRow g n row stamp
  pub ends : RowEnds g n row stamp result

-- the stamp in the fourth place of a row that begins with slot n's cells, or none
pub record StampOfRow (n : ℕ) (row : List (Option (List ℕ))) (stamp : Option ℕ) : Type 0 where
  pub spare : Found
  pub of : IsOfCell (spare_at n) spare
  pub is : slice_get row 3 ≡ Some (found_cell spare)
  pub told : IsStampFound spare stamp

-- the cells of slot n and those behind it, as many as the row has, were found to hold this between two states of a view
pub record ReadsSlots (n : ℕ) (row : List (Option (List ℕ))) (old new : ViewState) : Type 0 where
  pub viewed : Viewed old new
  pub view : IsView new
  pub faults : new.base.faults ≡ old.base.faults
  pub found : IsTrue old.base.tells → AreFoundBetween (length row) (reserve_at n) row old.image new.image
