-- What it means that a device is steady: whatever a crash leaves of it now, settling makes a settled volume of it.
use Rattle.std.specs.Prelude.{◌≡◌, ◌≤◌, ◌+◌, ◌⊎◌, ℕ, List}
use Rattle.cell_types.specs.Image.{Image, Between, IsUnchanged}
use Rattle.cell_types.specs.Layout.{Layout}
use Rattle.volume_meaning.specs.Documents.{Document}
use Rattle.volume_meaning.specs.Slots.{IsCommitted, IsReserved}
use Rattle.volume_meaning.specs.Volumes.{IsVolume}
use Rattle.tamper_rules.specs.Settling.{AbandonRow, DoneRow, Held, IsBlankOrSound, IsOneHorizon, IsWith, JournalRow, Settled}
use Rattle.tamper_rules.specs.declared.numbers.TheConstants.{BROKEN_DOCUMENT, BROKEN_JOURNAL}
use Rattle.worm_device.specs.State.{DeviceState, LeftSince}
use Rattle.recovery_engine.specs.LastSlot.{IsSlotRule}
use Rattle.recovery_engine.specs.declared.settling.Step.{Step}
use Rattle.recovery_engine.specs.declared.settling.Step.TheVariants.{Abandoned, Completed, Nothing}

-- each image that a crash may leave now has no written cell, or is sound
pub record IsSteady (s : DeviceState) : Type 0 where
  pub each : (image : Image) → Between s.sure s.image image → IsBlankOrSound s.cells image

-- the image holds the documents of one of these two
abbrev pub HoldsOneOf : ℕ → Image → Image → Image → Type 0
HoldsOneOf cells low high image =
    ((documents : List Document) → Held cells low documents → Held cells image documents)
    ⊎ ((documents : List Document) → Held cells high documents → Held cells image documents)

-- A crash leaves this image of calls that add no document: it is blank or sound, and holds the documents that were sure
-- at old, or those that stood there.
pub record IsLeftWhole (old : DeviceState) (image : Image) : Type 0 where
  pub sound : IsBlankOrSound old.cells image
  pub holds : HoldsOneOf old.cells old.sure old.image image

-- whatever a crash could leave from old on, and could not before
abbrev pub CrashesLeaveWhole : DeviceState → DeviceState → Type 0
CrashesLeaveWhole old new =
    (since : ℕ) (image : Image) → since ≤ old.moment → LeftSince new since image
    → LeftSince old since image ⊎ IsLeftWhole old image

-- calls that add no document: what a crash leaves of them, and that the device is steady behind them, too
pub record StaysSteady (old new : DeviceState) : Type 0 where
  pub crashes : CrashesLeaveWhole old new
  pub steady : IsSteady new

-- By which step settling made the one image of the other: none was needed, as the image was settled; or the slot below
-- the one horizon was reserved, and has its abandon cell; or it was committed, and its journal is carried out.
abbrev pub IsStepTo : ℕ → Image → Image → Step → Type 0
IsStepTo cells image after Nothing = Settled cells image × IsUnchanged image after
IsStepTo cells image after (Abandoned n) =
    (g : Layout) × (start : ℕ) × (reserved : ℕ) × IsVolume cells image g × IsOneHorizon g image (n + 1)
    × IsReserved g image image n start reserved × IsWith (AbandonRow n) image after
IsStepTo cells image after (Completed n) =
    (g : Layout) × (start : ℕ) × (reserved : ℕ) × (bytes : ℕ) × (journal : ℕ) × IsVolume cells image g
    × IsOneHorizon g image (n + 1) × IsCommitted g image image n start reserved bytes journal
    × IsWith (λ cell value. JournalRow image start reserved journal cell value ⊎ DoneRow n cell value) image after

-- what stands behind settling is what it makes of the image, all of it is sure, and the step says how it was made
pub record EndsAs (old new : DeviceState) (after : Image) (step : Step) : Type 0 where
  pub image : new.image ≡ after
  pub sure : new.sure ≡ after
  pub step_is : IsStepTo old.cells old.image after step

-- The rules that no sound image breaks: those of the cells that tell a slot's state, of documents, and of journals.
-- Others it may break: a target stands before the done cell of the slot whose journal names it.
abbrev pub IsSoundRule : ℕ → Type 0
IsSoundRule number = IsSlotRule number ⊎ (number ≡ BROKEN_DOCUMENT) ⊎ (number ≡ BROKEN_JOURNAL)
