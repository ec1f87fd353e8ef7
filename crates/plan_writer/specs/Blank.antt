-- What a look for written cells tells: what it needs blank was blank at its entry.
use Rattle.std.specs.Prelude.{◌≡◌, ◌<◌, ◌≤◌, ◌+◌, ◌⊎◌, ℕ, List, length, slice_get, Option, Some, None, Result, Ok, Err, IsTrue}
use Rattle.cell_types.specs.Image.{Image, IsUnchanged}
use Rattle.cell_types.specs.Layout.{reserve_at, outcome_at, done_at, spare_at}
use Rattle.cell_types.specs.declared.refusal.Evidence.{Evidence}
use Rattle.cell_types.specs.declared.refusal.Fault.{Fault}
use Rattle.cell_types.specs.declared.refusal.Fault.TheVariants.{Tampered, Failed}
use Rattle.tamper_rules.specs.declared.numbers.TheConstants.{OUTCOME_CELL, DONE_CELL, STRAY_CELL}
use Rattle.worm_device.specs.Calls.{Called}
use Rattle.worm_device.specs.Counts.{Rose, IsStill}
use Rattle.worm_device.specs.State.{DeviceState}
use Rattle.commit_record.specs.declared.reservation.Reservation.{Reservation}

-- the cell is one of these
pub record IsOfCells (cells : Reservation) (cell : ℕ) : Type 0 where
  pub from : cells.start ≤ cell
  pub below : cell < cells.start + cells.length

-- all of them are blank
abbrev pub AreBlank : Image → Reservation → Type 0
AreBlank image cells = (cell : ℕ) → IsOfCells cells cell → image cell ≡ None

-- the cell is one of the slot's four, or of those that it reserves
abbrev pub IsOfNewSlot : ℕ → Reservation → ℕ → Type 0
IsOfNewSlot slot cells cell = ((reserve_at slot ≤ cell) × (cell ≤ spare_at slot)) ⊎ IsOfCells cells cell

-- how a look at one cell may end, and why
abbrev pub CellLookEnds : ℕ → ℕ → DeviceState → DeviceState → Result Unit Fault → Type 0
CellLookEnds cell rule old new (Ok u) = (new.faults ≡ old.faults) × (IsTrue old.tells → old.image cell ≡ None)
CellLookEnds cell rule old new (Err Failed) = Rose old.faults new.faults
CellLookEnds cell rule old new (Err (Tampered e)) =
    (e.rule ≡ rule) × (e.cell ≡ cell) × (IsTrue old.tells → new.image cell ≡ Some e.found)

-- a look at a cell changes nothing
pub record LooksAt (cell rule : ℕ) (old new : DeviceState) (result : Result Unit Fault) : Type 0 where
  pub called : Called old new
  pub quiet : IsStill old.foreign_writes new.foreign_writes → IsUnchanged old.image new.image
  pub ends : CellLookEnds cell rule old new result

-- how a look along cells may end, and why: the least written one is named
abbrev pub AlongEnds : Reservation → DeviceState → DeviceState → Result Unit Fault → Type 0
AlongEnds cells old new (Ok u) = (new.faults ≡ old.faults) × (IsTrue old.tells → AreBlank old.image cells)
AlongEnds cells old new (Err Failed) = Rose old.faults new.faults
AlongEnds cells old new (Err (Tampered e)) =
    (e.rule ≡ STRAY_CELL) × IsOfCells cells e.cell
    × (IsTrue old.tells → (new.image e.cell ≡ Some e.found)
    × ((cell : ℕ) → IsOfCells cells cell → cell < e.cell → old.image cell ≡ None))

-- a look along cells changes nothing
pub record LooksAlong (cells : Reservation) (old new : DeviceState) (result : Result Unit Fault) : Type 0 where
  pub called : Called old new
  pub quiet : IsStill old.foreign_writes new.foreign_writes → IsUnchanged old.image new.image
  pub ends : AlongEnds cells old new result

-- nothing was found in the first so many cells of a row
abbrev pub NothingFound : ℕ → List (Option (List ℕ)) → Type 0
NothingFound count found = (place : ℕ) → place < count → slice_get found place ≡ Some None

-- the first that was found in a row of cells, of which this is the first
pub record IsFirstFound (start : ℕ) (found : List (Option (List ℕ))) (e : Evidence) : Type 0 where
  pub rule : e.rule ≡ STRAY_CELL
  pub place : ℕ
  pub cell : e.cell ≡ start + place
  pub is : slice_get found place ≡ Some (Some e.found)
  pub before : NothingFound place found

-- how a look at what was found in a row of cells may end, and why: the least written one is named
abbrev pub RowLookEnds : ℕ → List (Option (List ℕ)) → Result Unit Fault → Type 0
RowLookEnds start found (Ok u) = NothingFound (length found) found
RowLookEnds start found (Err Failed) = ⊥
RowLookEnds start found (Err (Tampered e)) = IsFirstFound start found e

-- what a new slot has to find blank, besides its reserve cell
pub record IsSlotFree (image : Image) (slot : ℕ) (cells : Reservation) : Type 0 where
  pub outcome : image (outcome_at slot) ≡ None
  pub done : image (done_at slot) ≡ None
  pub spare : image (spare_at slot) ≡ None
  pub reserved : AreBlank image cells

-- The first written cell of these, by its rule: the outcome cell, the done cell, the spare cell, and then the cells
-- that are to be reserved, upwards.
pub data IsFirstWritten (image : Image) (slot : ℕ) (cells : Reservation) (e : Evidence) : Type 0 where
  outcome : e.rule ≡ OUTCOME_CELL → e.cell ≡ outcome_at slot → IsFirstWritten image slot cells e
  done : e.rule ≡ DONE_CELL → e.cell ≡ done_at slot → image (outcome_at slot) ≡ None
      → IsFirstWritten image slot cells e
  spare : e.rule ≡ STRAY_CELL → e.cell ≡ spare_at slot → image (outcome_at slot) ≡ None
      → image (done_at slot) ≡ None → IsFirstWritten image slot cells e
  reserved : e.rule ≡ STRAY_CELL → IsOfCells cells e.cell → image (outcome_at slot) ≡ None
      → image (done_at slot) ≡ None → image (spare_at slot) ≡ None
      → ((cell : ℕ) → IsOfCells cells cell → cell < e.cell → image cell ≡ None) → IsFirstWritten image slot cells e

-- how a look at the cells of a new slot may end, and why
abbrev pub SlotLookEnds : ℕ → Reservation → DeviceState → DeviceState → Result Unit Fault → Type 0
SlotLookEnds slot cells old new (Ok u) =
    (new.faults ≡ old.faults) × (IsTrue old.tells → IsSlotFree old.image slot cells)
SlotLookEnds slot cells old new (Err Failed) = Rose old.faults new.faults
SlotLookEnds slot cells old new (Err (Tampered e)) =
    IsTrue old.tells → IsFirstWritten old.image slot cells e × (new.image e.cell ≡ Some e.found)

-- a look at the cells of a new slot changes nothing
pub record LooksForSlot (slot : ℕ) (cells : Reservation) (old new : DeviceState) (result : Result Unit Fault)
    : Type 0 where
  pub called : Called old new
  pub quiet : IsStill old.foreign_writes new.foreign_writes → IsUnchanged old.image new.image
  pub ends : SlotLookEnds slot cells old new result
