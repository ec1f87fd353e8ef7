-- What one look at a cell tells of it.
use Rattle.std.specs.Prelude.{◌≡◌, ◌≤◌, ◌+◌, ℕ, List, Option, Some, None, Result, Ok, Err, IsTrue, ⊤}
use Rattle.cell_types.specs.Image.{Image}
use Rattle.cell_types.specs.Records.{IsRecordCell}
use Rattle.cell_types.specs.declared.record_cell.RecordCell.{RecordCell}
use Rattle.cell_types.specs.declared.refusal.Fault.{Fault}
use Rattle.cell_types.specs.declared.refusal.Fault.TheVariants as faults
use Rattle.worm_device.specs.Counts.{Rose}
use Rattle.worm_device.specs.Views.{ViewState, Viewed}
use Rattle.worm_device.specs.declared.device.Failed.{Failed}
use Rattle.worm_device.specs.declared.looks.Found.{Found}
use Rattle.worm_device.specs.declared.looks.Found.TheVariants.{Blank, Record, Stray}
use Rattle.worm_device.specs.declared.looks.ReadRecord.{ReadRecord}

-- the cell's bytes are those of no record in the cell of this number
abbrev pub IsNoRecord : ℕ → List ℕ → Type 0
IsNoRecord at cell = (held : RecordCell) → IsRecordCell held at cell → ⊥

-- A cell was found to hold this between two images: what was blank was so in the earlier one, and what is written
-- stands in the later one.
abbrev pub IsSeen : Image → Image → ℕ → Found → Type 0
IsSeen before after at Blank = before at ≡ None
IsSeen before after at (Record cell held) = (after at ≡ Some cell) × IsRecordCell held at cell
IsSeen before after at (Stray cell) = (after at ≡ Some cell) × IsNoRecord at cell

-- what was found is a record of the cell's number, or is none, wherever it stands
abbrev pub IsOfCell : ℕ → Found → Type 0
IsOfCell at Blank = ⊤
IsOfCell at (Record cell held) = IsRecordCell held at cell
IsOfCell at (Stray cell) = IsNoRecord at cell

-- How a look may end, and why. It was made at the later of the two states, and found what stands there.
abbrev pub LookEnds : ℕ → ViewState → ViewState → Result Found Failed → Type 0
LookEnds at old new (Ok found) =
    IsOfCell at found × (new.base.faults ≡ old.base.faults)
    × (IsTrue old.base.tells → IsSeen new.image new.image at found)
LookEnds at old new (Err failed) = Rose old.base.faults new.base.faults

-- A blank cell, a record, or a written cell that is none: it is named, with what stands there. The read was made at the
-- later of the two states.
abbrev pub RecordEnds : ℕ → ℕ → ViewState → ViewState → Result (Option ReadRecord) Fault → Type 0
RecordEnds at rule old new (Ok None) =
    (new.base.faults ≡ old.base.faults) × (IsTrue old.base.tells → new.image at ≡ None)
RecordEnds at rule old new (Ok (Some found)) =
    (new.base.faults ≡ old.base.faults) × IsRecordCell found.held at found.cell
    × (IsTrue old.base.tells → new.image at ≡ Some found.cell)
RecordEnds at rule old new (Err faults.Failed) = Rose old.base.faults new.base.faults
RecordEnds at rule old new (Err (faults.Tampered e)) =
    (e.rule ≡ rule) × (e.cell ≡ at) × (new.base.faults ≡ old.base.faults) × IsNoRecord at e.found
    × (IsTrue old.base.tells → new.image at ≡ Some e.found)

-- reading a record costs one read at most
pub record ReadsRecord (at rule : ℕ) (old new : ViewState) (result : Result (Option ReadRecord) Fault) : Type 0 where
  pub viewed : Viewed old new
  pub reads : new.base.reads ≤ old.base.reads + 1
  pub ends : RecordEnds at rule old new result
