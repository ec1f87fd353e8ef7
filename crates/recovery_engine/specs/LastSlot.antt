-- What it means that the last slot of the log follows those below it.
use Rattle.std.specs.Prelude.{◌≡◌, ◌⊎◌, ◌+◌, ℕ, Some, Result, Ok, Err, IsTrue}
use Rattle.cell_types.specs.Image.{Image}
use Rattle.cell_types.specs.Layout.{Layout, reserve_at}
use Rattle.cell_types.specs.Records.{record_bytes}
use Rattle.cell_types.specs.declared.record_cell.RecordCell.TheVariants.{Reserve}
use Rattle.cell_types.specs.declared.refusal.Evidence.{Evidence}
use Rattle.cell_types.specs.declared.refusal.Fault.{Fault}
use Rattle.cell_types.specs.declared.refusal.Fault.TheVariants.{Tampered, Failed}
use Rattle.volume_meaning.specs.Slots.{EndsBelow, HasEnded}
use Rattle.volume_meaning.specs.Volumes.{IsVolume}
use Rattle.tamper_rules.specs.Rules.{IsBroken, IsPlaceOf}
use Rattle.tamper_rules.specs.declared.numbers.TheConstants.{DONE_CELL, OUTCOME_CELL, RESERVE_CELL}
use Rattle.worm_device.specs.Counts.{Rose, IsStill}
use Rattle.worm_device.specs.Views.{ViewState}
use Rattle.commit_record.specs.Reservations.{reservation_of}
use Rattle.commit_record.specs.States.{IsState, StateLiesInPool}
use Rattle.commit_record.specs.declared.reservation.Reservation.{Reservation}
use Rattle.commit_record.specs.declared.slot.SlotState.{SlotState}
use Rattle.commit_record.specs.declared.slot.SlotState.TheVariants.{Abandoned, Done}

-- slot n's cells, from start on, begin where those of the slots below end, and the slot before is abandoned or done
pub record Follows (g : Layout) (before after : Image) (n start : ℕ) : Type 0 where
  pub begins : EndsBelow g after n start
  pub ended : (m : ℕ) → n ≡ m + 1 → HasEnded g before after m

-- cells from this one on follow those of a slot in this state: it is abandoned or done, and its own end there
abbrev pub IsFollowed : SlotState → ℕ → Type 0
IsFollowed (Abandoned start length) next = start + length ≡ next
IsFollowed (Done start length bytes journal) next = start + length ≡ next
IsFollowed state next = ⊥

-- slot n is in this state, and where it reserves cells it follows those below it
pub record IsLastSlot (g : Layout) (before after : Image) (n : ℕ) (state : SlotState) : Type 0 where
  pub is : IsState g before after n state
  pub follows : (cells : Reservation) → reservation_of state ≡ Some cells → Follows g before after n cells.start

-- evidence that names slot n's reserve cell of these cells
pub record IsReserveCell (n : ℕ) (cells : Reservation) (e : Evidence) : Type 0 where
  pub rule : e.rule ≡ RESERVE_CELL
  pub at : e.cell ≡ reserve_at n
  pub found : e.found ≡ record_bytes (Reserve cells.start cells.length) (reserve_at n)

-- the rules of the cells that tell a slot's state
abbrev pub IsSlotRule : ℕ → Type 0
IsSlotRule number = (number ≡ RESERVE_CELL) ⊎ (number ≡ OUTCOME_CELL) ⊎ (number ≡ DONE_CELL)

-- The evidence stands, in the place of its rule, which is one of these. Where nobody else wrote, as these values of the
-- count of foreign writes say, and cell 0 states this layout, its rule is broken there.
pub record IsSlotEvidence (g : Layout) (cells from to : ℕ) (image : Image) (e : Evidence) : Type 0 where
  pub rule : IsSlotRule e.rule
  pub stands : image e.cell ≡ Some e.found
  pub place : IsPlaceOf g e.rule e.cell
  pub broken : IsStill from to → IsVolume cells image g → IsBroken cells image e.rule e.cell

-- how a look at the last slot may end, and why
abbrev pub LastEnds : Layout → ℕ → ViewState → ViewState → Result SlotState Fault → Type 0
LastEnds g n old new (Ok state) = StateLiesInPool g state
    × (IsTrue old.base.tells → IsLastSlot g old.image new.image n state)
LastEnds g n old new (Err Failed) = Rose old.base.faults new.base.faults
LastEnds g n old new (Err (Tampered e)) =
    IsTrue old.base.tells
    → IsSlotEvidence g new.cells old.base.foreign_writes new.base.foreign_writes new.image e
