-- What reading a pointer of a block answers.
use Rattle.std.specs.Prelude.{◌≡◌, ◌≤◌, ◌+◌, ℕ, List, Option, Some, None, Result, Ok, Err, IsTrue}
use Rattle.cell_types.specs.Image.{Image}
use Rattle.cell_types.specs.Records.{IsRecordCell}
use Rattle.cell_types.specs.declared.record_cell.RecordCell.TheVariants.{Jump}
use Rattle.cell_types.specs.declared.refusal.Fault.{Fault}
use Rattle.cell_types.specs.declared.refusal.Fault.TheVariants.{Tampered, Failed}
use Rattle.volume_meaning.specs.Volumes.{Holds}
use Rattle.tamper_rules.specs.declared.numbers.TheConstants.{LOST_POINTER}
use Rattle.worm_device.specs.Counts.{Rose}
use Rattle.worm_device.specs.Views.{ViewState, Viewed}

-- what stands in the cell of this number is no jump cell there
pub record IsNoJump (image : Image) (at : ℕ) (found : List ℕ) : Type 0 where
  pub stands : image at ≡ Some found
  pub none : (target : ℕ) → IsRecordCell (Jump target) at found → ⊥

-- a blank cell, a jump cell, or a written cell that is none
abbrev pub PointerEnds : ℕ → ViewState → ViewState → Result (Option ℕ) Fault → Type 0
PointerEnds at old new (Ok None) = IsTrue old.base.tells → new.image at ≡ None
PointerEnds at old new (Ok (Some target)) = IsTrue old.base.tells → Holds new.image at (Jump target)
PointerEnds at old new (Err Failed) = Rose old.base.faults new.base.faults
PointerEnds at old new (Err (Tampered e)) =
    (e.rule ≡ LOST_POINTER) × (e.cell ≡ at) × (IsTrue old.base.tells → IsNoJump new.image at e.found)

-- reading a pointer costs one read at most
pub record ReadsPointer (at : ℕ) (old new : ViewState) (result : Result (Option ℕ) Fault) : Type 0 where
  pub viewed : Viewed old new
  pub reads : new.base.reads ≤ old.base.reads + 1
  pub ends : PointerEnds at old new result
