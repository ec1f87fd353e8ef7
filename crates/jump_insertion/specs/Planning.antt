-- What planning a posting does, and a pointer to its block.
use Rattle.std.specs.Prelude.{◌≡◌, ◌≢◌, ◌+◌, ℕ, Option, Some, None, Result, Ok, Err, ⊤}
use Rattle.cell_types.specs.declared.record_cell.RecordCell.{RecordCell}
use Rattle.cell_types.specs.declared.record_cell.RecordCell.TheVariants.{Jump}
use Rattle.cell_types.specs.declared.refusal.Evidence.{Evidence}
use Rattle.cell_types.specs.declared.refusal.Fault.TheVariants.{Tampered, Failed}
use Rattle.volume_meaning.specs.Blocks.{PostingFields, posting_record}
use Rattle.cell_pool.specs.Records.{HoldsPlanned}
use Rattle.cell_pool.specs.declared.fault.GrowthFault.{GrowthFault}
use Rattle.cell_pool.specs.declared.fault.GrowthFault.TheVariants.{Fault, NoMemory}
use Rattle.worm_device.specs.Views.{ViewState}
use Rattle.worm_device.specs.declared.owner.Owner.{Owner}
use Rattle.jump_insertion.specs.declared.entries.Spot.{Spot}

-- the evidence is the cell as it was planned already
pub record WasPlanned (at : ℕ) (s : ViewState) (e : Evidence) : Type 0 where
  pub cell : e.cell ≡ at
  pub planned : s.planned at ≡ Some e.found

-- the record is planned; or the cell was planned already, and is evidence; or there is no memory
abbrev pub PutRecordEnds : ℕ → RecordCell → Owner → ViewState → ViewState → Result Unit GrowthFault → Type 0
PutRecordEnds at r owner old new (Ok done) = HoldsPlanned at r owner old new
PutRecordEnds at r owner old new (Err (Fault Failed)) = ⊥
PutRecordEnds at r owner old new (Err (Fault (Tampered e))) = WasPlanned at old e
PutRecordEnds at r owner old new (Err (NoMemory lack)) = ⊤

-- planning the cell of one record leaves what stands below, and what is planned in other cells
pub record PutsRecord (at : ℕ) (r : RecordCell) (owner : Owner) (old new : ViewState) (result : Result Unit GrowthFault)
    : Type 0 where
  pub cells : new.cells ≡ old.cells
  pub lower : new.lower ≡ old.lower
  pub fresh : new.fresh ≡ old.fresh
  pub base : new.base ≡ old.base
  pub loans : new.loans ≡ old.loans
  pub others : (cell : ℕ) → cell ≢ at
      → (new.image cell ≡ old.image cell) × (new.planned cell ≡ old.planned cell) × (new.owners cell ≡ old.owners cell)
  pub ends : PutRecordEnds at r owner old new result

-- a posting is planned at its place, and then a pointer to its block, each for its own block
pub record PlansTwo (spot : Spot) (pointer : ℕ) (p : PostingFields) (owner home_owner : Owner) (old new : ViewState)
    : Type 0 where
  pub mid : ViewState
  pub posting : PutsRecord (spot.block + spot.place) (posting_record p) owner old mid (Ok tt)
  pub jump : PutsRecord pointer (Jump spot.block) home_owner mid new (Ok tt)

-- both are planned; where evidence is named, one of the two cells was planned already, or they are the same
abbrev pub BothEnds : Spot → ℕ → PostingFields → Owner → Owner → ViewState → ViewState
    → Result (Option Spot) GrowthFault → Type 0
BothEnds spot pointer p owner home_owner old new (Ok (Some found)) =
    (found ≡ spot) × PlansTwo spot pointer p owner home_owner old new
BothEnds spot pointer p owner home_owner old new (Ok None) = ⊥
BothEnds spot pointer p owner home_owner old new (Err (Fault Failed)) = ⊥
BothEnds spot pointer p owner home_owner old new (Err (Fault (Tampered e))) =
    old.planned (spot.block + spot.place) ≡ None → old.planned pointer ≡ None → spot.block + spot.place ≢ pointer → ⊥
BothEnds spot pointer p owner home_owner old new (Err (NoMemory lack)) = ⊤

-- planning a posting and a pointer to its block leaves what stands below
pub record PutsBoth (spot : Spot) (pointer : ℕ) (p : PostingFields) (owner home_owner : Owner) (old new : ViewState)
    (result : Result (Option Spot) GrowthFault) : Type 0 where
  pub cells : new.cells ≡ old.cells
  pub lower : new.lower ≡ old.lower
  pub fresh : new.fresh ≡ old.fresh
  pub base : new.base ≡ old.base
  pub loans : new.loans ≡ old.loans
  pub ends : BothEnds spot pointer p owner home_owner old new result
