-- Laws of slot states.
use Rattle.std.specs.Prelude.{◌≡◌, ◌<◌, ℕ}
use Rattle.cell_types.specs.Image.{Image}
use Rattle.cell_types.specs.Layout.{Layout}
use Rattle.volume_meaning.specs.Volumes.{IsVolume, IsWritten}
use Rattle.tamper_rules.specs.Rules.{IsBroken}
use Rattle.commit_record.specs.States.{IsNoState, IsState}
use Rattle.commit_record.specs.declared.slot.SlotState.{SlotState}

-- A slot is in one state at most in an image; and where it is in one, no written cell of it is out of place.
pub record StatesAreOne : Type 0 where
  pub one : (g : Layout) (image : Image) (n : ℕ) (state other : SlotState)
      → IsState g image image n state → IsState g image image n other → state ≡ other
  pub apart : (g : Layout) (image : Image) (n rule cell : ℕ) (state : SlotState) → IsWritten image cell
      → IsState g image image n state → IsNoState g image image n rule cell → ⊥

-- where a slot's cells are no state, the rule is broken at the cell that is named, once it is written
abbrev pub NoStateBreaksARule : Type 0
NoStateBreaksARule =
    (cells : ℕ) (g : Layout) (image : Image) (n rule cell : ℕ) → IsVolume cells image g → n < g.slots
    → IsWritten image cell → IsNoState g image image n rule cell → IsBroken cells image rule cell
