-- What a crash in the middle of an ingest leaves of its slot, where nobody else writes.
use Rattle.std.specs.Prelude.{◌≡◌, ℕ, List, Some, length}
use Rattle.cell_types.specs.Image.{Image}
use Rattle.cell_types.specs.Layout.{Layout, IsLayout, outcome_at}
use Rattle.volume_meaning.specs.Documents.{Spells, document_at, stored_bytes}
use Rattle.volume_meaning.specs.Slots.{Commits, IsUnused}
use Rattle.worm_device.specs.Counts.{IsStill}
use Rattle.worm_device.specs.State.{DeviceState}
use Rattle.recovery_engine.specs.Putting.{AreStanding, LeavesPhases}
use Rattle.commit_record.specs.States.{IsState}
use Rattle.commit_record.specs.declared.slot.SlotState.{SlotState}
use Rattle.plan_writer.specs.Planned.{INGEST_PHASES, IsStoredPut, PlansDocument, Suits, ingest_phases}
use Rattle.plan_writer.specs.declared.plan.Plan.{Plan}

-- a plan that suits the volume, and a slot of it that is unused
pub record IsPlanForSlot (g : Layout) (n : ℕ) (p : Plan) (old : Image) : Type 0 where
  pub layout : IsLayout g
  pub unused : IsUnused g old n
  pub suits : Suits g p

-- This image is left by a crash, while the plan was put into the slot that it was planned for and nobody else wrote.
pub record IsLeftByPlan (g : Layout) (n : ℕ) (p : Plan) (image : Image) : Type 0 where
  pub old : DeviceState
  pub new : DeviceState
  pub planned : IsPlanForSlot g n p old.image
  pub leaves : LeavesPhases (ingest_phases n p) INGEST_PHASES old new image
  pub alone : IsStill old.foreign_writes new.foreign_writes

-- a commit cell is left with all that is stored before it alone: the stamp, the whole document and the journal
abbrev pub CommitsFollowDocuments : Type 0
CommitsFollowDocuments =
    (g : Layout) (n : ℕ) (p : Plan) (image : Image) → IsLeftByPlan g n p image
    → (found : List ℕ) → image (outcome_at n) ≡ Some found
    → AreStanding (IsStoredPut n p) image

-- the slot is left in a state
abbrev pub SlotsKeepStates : Type 0
SlotsKeepStates =
    (g : Layout) (n : ℕ) (p : Plan) (image : Image) → IsLeftByPlan g n p image
    → (state : SlotState) × IsState g image image n state

-- slot n is in a state, and if it states a document, that is this one, whole
pub record IsWholeOrUncommitted (g : Layout) (n : ℕ) (id body : List ℕ) (image : Image) : Type 0 where
  pub state : SlotState
  pub is : IsState g image image n state
  pub bytes : (start reserved bytes journal : ℕ) → Commits g image n start reserved bytes journal
      → bytes ≡ length (stored_bytes id body)
  pub whole : (start reserved bytes journal : ℕ) → Commits g image n start reserved bytes journal
      → Spells image (document_at start reserved bytes journal) (stored_bytes id body)

-- so is the slot left whose plan's document this is
abbrev pub CrashesLeaveWholeSlots : Type 0
CrashesLeaveWholeSlots =
    (g : Layout) (n : ℕ) (p : Plan) (id body : List ℕ) (image : Image) → PlansDocument p id body
    → IsLeftByPlan g n p image → IsWholeOrUncommitted g n id body image
