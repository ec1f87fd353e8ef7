-- How a copy begins on the target: a blank one is formatted, and another is compared.
use Rattle.std.specs.Prelude.{◌≡◌, ℕ, List, Result, Ok, Err, IsTrue, ⊤, Bool, true, false}
use Rattle.std.specs.Global.{Vec}
use Rattle.cell_types.specs.Layout.{Layout}
use Rattle.cell_types.specs.Records.{IsRecordCell}
use Rattle.cell_types.specs.declared.refusal.CopyRefusal.{CopyRefusal}
use Rattle.cell_types.specs.declared.refusal.CopyRefusal.TheVariants.{Differs, From, Longer, NoMemory, OtherVolume, To}
use Rattle.cell_types.specs.declared.refusal.Refusal.TheVariants as refusals
use Rattle.volume_meaning.specs.Volumes.{IsVolume, volume_record}
use Rattle.worm_device.specs.Calls.{Called}
use Rattle.worm_device.specs.State.{DeviceState}
use Rattle.volume_copy.specs.Auditing.{IsWholeVolume, done_of}
use Rattle.crash_laws.specs.SettlingSteadiness.{IsSteady}
use Rattle.volume_copy.specs.Alone.{AreAlone, AreUnfailed}
use Rattle.volume_copy.specs.Completing.{EndsUnhindered}
use Rattle.volume_copy.specs.First.{HoldsFirst}
use Rattle.volume_copy.specs.Copies.{HasNumbers, HoldOthers, IsFirstPast, IsFirstToDiffer, IsOtherVolume, RefusesTo}
use Rattle.volume_copy.specs.Pairs.{AnsweredFirst, AnsweredHold, CopiedSoFar}
use Rattle.volume_copy.specs.Reading.{IsOnlyRead, ReadingFails}
use Rattle.volume_copy.specs.Staying.{IsHeldThroughout}
use Rattle.volume_copy.specs.declared.audited.AuditedVolume.{AuditedVolume}
use Rattle.volume_copy.specs.declared.moved.Moved.{Moved}

-- a cell states another volume of so many cells than one of these numbers
pub record StatesOther (slots lists version cells : ℕ) (cell : List ℕ) : Type 0 where
  pub layout : Layout
  pub is : IsRecordCell (volume_record layout) 0 cell
  pub size : layout.cells ≡ cells
  pub other : (layout.slots ≡ slots) × (layout.lists ≡ lists) × (layout.version ≡ version) → ⊥

-- each volume cell of so many cells states these numbers
abbrev pub StatesNone : ℕ → ℕ → ℕ → ℕ → List ℕ → Type 0
StatesNone slots lists version cells cell =
    (g : Layout) → IsRecordCell (volume_record g) 0 cell → g.cells ≡ cells
    → (g.slots ≡ slots) × (g.lists ≡ lists) × (g.version ≡ version)

-- where both devices tell, the volumes have these numbers
abbrev pub HaveNumbers : ℕ → ℕ → DeviceState → DeviceState → Type 0
HaveNumbers slots lists from to =
    (g h : Layout) → IsVolume from.cells from.image g → IsVolume to.cells to.image h → HasNumbers slots lists g h

-- where nobody else writes, and the source is whole
abbrev pub WhereSourceWhole : AuditedVolume → DeviceState → DeviceState → DeviceState → DeviceState → Type 0 → Type 0
WhereSourceWhole source from from' to to' P =
    AreAlone from from' to to' → IsWholeVolume from (done_of source) → P

-- how it may end, and why
abbrev pub BeginEnds
    : ℕ → ℕ → AuditedVolume → DeviceState → DeviceState → DeviceState → DeviceState → Result (Vec Moved) CopyRefusal
    → Type 0
BeginEnds slots lists source from from' to to' (Ok moved) =
    WhereSourceWhole source from from' to to'
    (CopiedSoFar from' to' moved.items × HaveNumbers slots lists from' to')
BeginEnds slots lists source from from' to to' (Err (Differs old new)) =
    (IsTrue from.tells → IsTrue to.tells → HoldOthers from' to' old new)
    × WhereSourceWhole source from from' to to' (IsFirstToDiffer from' to' old new)
BeginEnds slots lists source from from' to to' (Err (Longer new)) =
    WhereSourceWhole source from from' to to' (IsFirstPast from' to' new)
BeginEnds slots lists source from from' to to' (Err (OtherVolume cell)) = IsOtherVolume slots lists from' to to' cell
BeginEnds slots lists source from from' to to' (Err NoMemory) = ⊤
BeginEnds slots lists source from from' to to' (Err (From refusals.NoMemory)) = ⊥
BeginEnds slots lists source from from' to to' (Err (From refusal)) = ReadingFails from from' refusal
BeginEnds slots lists source from from' to to' (Err (To refusals.NoMemory)) = ⊥
BeginEnds slots lists source from from' to to' (Err (To refusal)) = RefusesTo slots lists from from' to to' refusal
BeginEnds slots lists source from from' to to' (Err refusal) = ⊥

-- Nothing hinders it: nobody else writes, no call fails, the source is whole, and the target is steady and has no written
-- cell or holds the first documents of the source.
pub record IsCopyFree (source : AuditedVolume) (from from' to to' : DeviceState) : Type 0 where
  pub alone : AreAlone from from' to to'
  pub unfailed : AreUnfailed from from' to to'
  pub whole : IsWholeVolume from (done_of source)
  pub steady : IsSteady to
  pub first : HoldsFirst from.cells from.image to.cells to.image

pub record BeginsCopy (slots lists : ℕ) (source : AuditedVolume) (from from' to to' : DeviceState)
    (result : Result (Vec Moved) CopyRefusal) : Type 0 where
  pub from_read : IsOnlyRead from from'
  pub to_called : Called to to'
  pub to_held : IsHeldThroughout to to'
  pub same : AnsweredHold from from' to to' result
  pub first : AnsweredFirst (done_of source) result
  pub complete : IsCopyFree source from from' to to' → EndsUnhindered result
  pub ends : BeginEnds slots lists source from from' to to' result

-- whether a cell states another volume
abbrev pub IsStatedOther : ℕ → ℕ → ℕ → ℕ → List ℕ → Bool → Type 0
IsStatedOther slots lists version cells cell true = StatesOther slots lists version cells cell
IsStatedOther slots lists version cells cell false = StatesNone slots lists version cells cell
