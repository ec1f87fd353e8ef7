-- In which state a slot is, and what says that it is in none.
use Rattle.std.specs.Prelude.{◌≡◌, ◌<◌, ◌≤◌, ◌+◌, ◌⊎◌, ℕ, Some, None, Result, Ok, Err, IsTrue, ⊤}
use Rattle.cell_types.specs.Image.{Image}
use Rattle.cell_types.specs.Layout.{Layout, TakesStamps, reserve_at, outcome_at, done_at, spare_at, pool_at, time_lists}
use Rattle.cell_types.specs.declared.geometry.TheConstants.{MAX_CELLS}
use Rattle.cell_types.specs.declared.record_cell.TheConstants.{MIN_STORED_BYTES, MAX_STORED_BYTES}
use Rattle.cell_types.specs.declared.record_cell.RecordCell.TheVariants as records
use Rattle.cell_types.specs.declared.refusal.Evidence.{Evidence}
use Rattle.cell_types.specs.declared.refusal.Fault.{Fault}
use Rattle.cell_types.specs.declared.refusal.Fault.TheVariants.{Tampered, Failed}
use Rattle.volume_meaning.specs.Slots.{cells_for, Reserves, Abandons, Commits, HasStamp, IsUnused, IsReserved, IsAbandoned, IsCommitted, IsDone}
use Rattle.volume_meaning.specs.Volumes.{Holds, IsVolume}
use Rattle.tamper_rules.specs.Rules.{IsPlaceOf, IsBroken}
use Rattle.tamper_rules.specs.declared.numbers.TheConstants.{RESERVE_CELL, OUTCOME_CELL, DONE_CELL}
use Rattle.worm_device.specs.Counts.{Rose, IsStill}
use Rattle.worm_device.specs.Views.{ViewState}
use Rattle.commit_record.specs.declared.slot.SlotState.{SlotState}
use Rattle.commit_record.specs.declared.slot.SlotState.TheVariants.{Unused, Reserved, Abandoned, Committed, Done}

-- slot n is in this state, as seen between two images
abbrev pub IsState : Layout → Image → Image → ℕ → SlotState → Type 0
IsState g before after n Unused = IsUnused g before n
IsState g before after n (Reserved start length) = IsReserved g before after n start length
IsState g before after n (Abandoned start length) = IsAbandoned g before after n start length
IsState g before after n (Committed start length bytes journal) =
    IsCommitted g before after n start length bytes journal
IsState g before after n (Done start length bytes journal) = IsDone g after n start length bytes journal

-- these are cells of the pool, at least one, and of a device
abbrev pub AreOfPool : Layout → ℕ → ℕ → Type 0
AreOfPool g start length =
    (1 ≤ length) × (pool_at g ≤ start) × (start + length ≤ g.cells) × (start + length ≤ MAX_CELLS)

-- so many stored bytes are those of a document, its journal has a cell at least, and both fit into so many cells
abbrev pub FitsInto : ℕ → ℕ → ℕ → Type 0
FitsInto length bytes journal =
    (MIN_STORED_BYTES ≤ bytes) × (bytes ≤ MAX_STORED_BYTES) × (1 ≤ journal) × (cells_for bytes + journal ≤ length)

-- the cells that the state names lie in the pool, and its document and journal fit into them
abbrev pub StateLiesInPool : Layout → SlotState → Type 0
StateLiesInPool g Unused = ⊤
StateLiesInPool g (Reserved start length) = AreOfPool g start length
StateLiesInPool g (Abandoned start length) = AreOfPool g start length
StateLiesInPool g (Committed start length bytes journal) = AreOfPool g start length × FitsInto length bytes journal
StateLiesInPool g (Done start length bytes journal) = AreOfPool g start length × FitsInto length bytes journal

-- how many cells of a slot hold a stamp: one where documents are stamped, as there is one time list then, and none before
abbrev pub stamp_cells : Layout → ℕ
stamp_cells g = time_lists g

-- Slot n lacks a stamp, as seen between two images: its spare cell was blank, or holds none. Somebody else may write the
-- stamp behind a look that found the cell blank, so the later image may have it.
abbrev pub LacksStamp : Image → Image → ℕ → Type 0
LacksStamp before after n =
    (before (spare_at n) ≡ None) ⊎ ((seconds : ℕ) → HasStamp after n seconds → ⊥)

-- The ways in which slot n's cells, as seen between two images, are no state: by the number of the rule and the first
-- cell that is out of place. The cells before that one fit together.
pub data IsNoState (g : Layout) (before after : Image) (n rule cell : ℕ) : Type 0 where
  -- the reserve cell reserves no cells of the pool
  reserves_none : rule ≡ RESERVE_CELL → cell ≡ reserve_at n
      → ((start length : ℕ) → Reserves g after n start length → ⊥) → IsNoState g before after n rule cell
  -- an outcome cell stands, and nothing is reserved
  ends_unreserved : rule ≡ OUTCOME_CELL → cell ≡ outcome_at n → before (reserve_at n) ≡ None
      → IsNoState g before after n rule cell
  -- the outcome cell neither gives up what is reserved nor states a document that fits into it
  ends_wrongly : (start length : ℕ) → rule ≡ OUTCOME_CELL → cell ≡ outcome_at n → Reserves g after n start length
      → (Abandons g after n start length → ⊥)
      → ((bytes journal : ℕ) → Commits g after n start length bytes journal → ⊥) → IsNoState g before after n rule cell
  -- the outcome cell states a document that fits, documents are stamped, and the slot lacks its stamp
  ends_unstamped : (start length bytes journal : ℕ) → rule ≡ OUTCOME_CELL → cell ≡ outcome_at n
      → Reserves g after n start length → Holds after (outcome_at n) (records.Commit bytes journal)
      → cells_for bytes + journal ≤ length → TakesStamps g → LacksStamp before after n
      → IsNoState g before after n rule cell
  -- a done cell stands, and nothing is reserved
  done_unreserved : rule ≡ DONE_CELL → cell ≡ done_at n → before (reserve_at n) ≡ None → before (outcome_at n) ≡ None
      → IsNoState g before after n rule cell
  -- a done cell stands, and the slot has no outcome
  done_unended : (start length : ℕ) → rule ≡ DONE_CELL → cell ≡ done_at n → Reserves g after n start length
      → before (outcome_at n) ≡ None → IsNoState g before after n rule cell
  -- a done cell stands, and the slot was given up
  done_abandoned : (start length : ℕ) → rule ≡ DONE_CELL → cell ≡ done_at n → Abandons g after n start length
      → IsNoState g before after n rule cell
  -- the slot states its document, and the done cell is not this slot's
  done_wrongly : (start length bytes journal : ℕ) → rule ≡ DONE_CELL → cell ≡ done_at n
      → Commits g after n start length bytes journal → (Holds after (done_at n) (records.Done n) → ⊥)
      → IsNoState g before after n rule cell

-- What the view shows of slot n's four cells is what stands below it: none of them is planned, and each is asked for
-- below. So it is with every view of a device and no planned cells.
pub record AsksSlotBelow (n : ℕ) (view : ViewState) : Type 0 where
  pub reserve : view.planned (reserve_at n) ≡ None
  pub outcome : view.planned (outcome_at n) ≡ None
  pub done : view.planned (done_at n) ≡ None
  pub spare : view.planned (spare_at n) ≡ None
  pub fresh : spare_at n < view.fresh

-- The evidence stands in this image; and where nobody else wrote, and cell 0 states this layout, its rule is broken
-- there. Without this layout another volume's cells would be spoken of.
pub record ShowsBroken (g : Layout) (old new : ViewState) (image : Image) (e : Evidence) : Type 0 where
  pub stands : image e.cell ≡ Some e.found
  pub broken : IsStill old.base.foreign_writes new.base.foreign_writes → IsVolume new.cells image g
      → IsBroken new.cells image e.rule e.cell

-- What evidence says where the device tells its image: slot n's cells were seen to be no state, whoever wrote; and
-- what the view shows has the evidence, and so has what stands below it, where the slot's cells were asked for there.
pub record IsOutOfPlace (g : Layout) (n : ℕ) (old new : ViewState) (e : Evidence) : Type 0 where
  pub seen : IsNoState g old.image new.image n e.rule e.cell
  pub shown : ShowsBroken g old new new.image e
  pub below : AsksSlotBelow n old → ShowsBroken g old new new.lower e

-- how a look at a slot may end, and why
abbrev pub StateEnds : Layout → ℕ → ViewState → ViewState → Result SlotState Fault → Type 0
StateEnds g n old new (Ok state) =
    StateLiesInPool g state × (new.base.faults ≡ old.base.faults)
    × (IsTrue old.base.tells → IsState g old.image new.image n state)
StateEnds g n old new (Err Failed) = Rose old.base.faults new.base.faults
StateEnds g n old new (Err (Tampered e)) =
    IsPlaceOf g e.rule e.cell × (new.base.faults ≡ old.base.faults)
    × (IsTrue old.base.tells → IsOutOfPlace g n old new e)
