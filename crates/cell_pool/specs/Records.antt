-- What planning the cell of a record does.
use Rattle.std.specs.Prelude.{◌≡◌, ◌≢◌, ℕ, Some, None, Result, Ok, Err}
use Rattle.cell_types.specs.declared.record_cell.RecordCell.{RecordCell}
use Rattle.volume_meaning.specs.Volumes.{Holds}
use Rattle.worm_device.specs.Overlays.{PlansNoMore}
use Rattle.worm_device.specs.Views.{ViewState}
use Rattle.worm_device.specs.declared.owner.Owner.{Owner}
use Rattle.cell_pool.specs.declared.planning.PlanFault.{PlanFault}
use Rattle.cell_pool.specs.declared.planning.PlanFault.TheVariants.{Taken, NoMemory}

-- the record stands in the cell as planned, for this owner; nothing was planned there before
pub record HoldsPlanned (at : ℕ) (r : RecordCell) (owner : Owner) (old new : ViewState) : Type 0 where
  pub free : old.planned at ≡ None
  pub shown : Holds new.image at r
  pub planned : Holds new.planned at r
  pub for_whom : new.owners at ≡ Some owner

-- the record is planned; or the cell was planned already; or there is no memory
abbrev pub PlanRecordEnds : ℕ → RecordCell → Owner → ViewState → ViewState → Result Unit PlanFault → Type 0
PlanRecordEnds at r owner old new (Ok done) = HoldsPlanned at r owner old new
PlanRecordEnds at r owner old new (Err Taken) = (old.planned at ≡ None → ⊥) × PlansNoMore old new
PlanRecordEnds at r owner old new (Err (NoMemory lack)) = PlansNoMore old new

-- Planning the cell of one record: what stands below, and what is planned in other cells, is as it was.
pub record PlansRecord (at : ℕ) (r : RecordCell) (owner : Owner) (old new : ViewState) (result : Result Unit PlanFault)
    : Type 0 where
  pub cells : new.cells ≡ old.cells
  pub lower : new.lower ≡ old.lower
  pub fresh : new.fresh ≡ old.fresh
  pub base : new.base ≡ old.base
  pub loans : new.loans ≡ old.loans
  pub others : (cell : ℕ) → cell ≢ at
      → (new.image cell ≡ old.image cell) × (new.planned cell ≡ old.planned cell) × (new.owners cell ≡ old.owners cell)
  pub ends : PlanRecordEnds at r owner old new result
