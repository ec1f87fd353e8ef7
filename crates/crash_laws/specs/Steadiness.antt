-- What a crash leaves of an ingest, and what an ingest that ends well leaves.
use Rattle.std.specs.Prelude.{◌≤◌, ◌⊎◌, ℕ, List, [], ◌∷◌, ◌++◌, Option}
use Rattle.cell_types.specs.Image.{Image, IsUnchanged}
use Rattle.cell_types.specs.Layout.{Layout}
use Rattle.volume_meaning.specs.Documents.{AreDocuments, Document}
use Rattle.volume_meaning.specs.Slots.{IsStampOf}
use Rattle.volume_meaning.specs.Volumes.{IsVolume}
use Rattle.tamper_rules.specs.Settling.{Held, IsBlankOrSound, Settled, Sound}
use Rattle.worm_device.specs.State.{DeviceState, LeftSince}
use Rattle.ingest_engine.specs.Ingesting.{document_in}
use Rattle.crash_laws.specs.SettlingSteadiness.{HoldsOneOf, IsSteady}

-- the image holds the documents that stood at old, and behind them this one, in some slot, which has this stamp
pub record HoldsOneMore (id : List ℕ) (stamp : Option ℕ) (body : List ℕ) (old : DeviceState) (image : Image) : Type 0
  where
    pub slot : ℕ
    pub holds : (documents : List Document) → Held old.cells old.image documents
        → Held old.cells image (documents ++ document_in slot id body ∷ [])
    pub stamped : (g : Layout) → IsVolume old.cells image g → IsStampOf g image slot stamp

-- A crash leaves this image of an ingest: it is blank or sound, and holds the documents that were sure at old, or those
-- that stood there, or these and the new one.
pub record IsLeftByIngest (id : List ℕ) (stamp : Option ℕ) (body : List ℕ) (old : DeviceState) (image : Image) : Type 0
  where
    pub sound : IsBlankOrSound old.cells image
    pub holds : HoldsOneOf old.cells old.sure old.image image ⊎ HoldsOneMore id stamp body old image

-- whatever a crash could leave from old on, and could not before
abbrev pub CrashesLeaveIngest : List ℕ → Option ℕ → List ℕ → DeviceState → DeviceState → Type 0
CrashesLeaveIngest id stamp body old new =
    (since : ℕ) (image : Image) → since ≤ old.moment → LeftSince new since image
    → LeftSince old since image ⊎ IsLeftByIngest id stamp body old image

-- an ingest: what a crash leaves of it, and that the device is steady behind it, too
pub record StaysSteadyBy (id : List ℕ) (stamp : Option ℕ) (body : List ℕ) (old new : DeviceState) : Type 0 where
  pub crashes : CrashesLeaveIngest id stamp body old new
  pub steady : IsSteady new

-- The volume was sound, and is settled, with all that stands sure. It has the documents that it held, and behind them
-- this one, in slot n, which has this stamp.
pub record HasOneMore (id : List ℕ) (stamp : Option ℕ) (body : List ℕ) (n : ℕ) (old new : DeviceState) : Type 0 where
  pub was : Sound old.cells old.image
  pub settled : Settled new.cells new.image
  pub sure : IsUnchanged new.image new.sure
  pub documents : (documents : List Document) → Held old.cells old.image documents
      → AreDocuments new.cells new.sure (documents ++ document_in n id body ∷ [])
  pub stamped : (g : Layout) → IsVolume new.cells new.sure g → IsStampOf g new.sure n stamp
