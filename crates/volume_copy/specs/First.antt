-- What it means that a crash leaves of the target the first documents of the source.
use Rattle.std.specs.Prelude.{◌≡◌, ◌≤◌, ◌⊎◌, ℕ, List, None}
use Rattle.cell_types.specs.Image.{Image}
use Rattle.cell_types.specs.Layout.{Layout}
use Rattle.volume_meaning.specs.Documents.{AreDocuments, Document}
use Rattle.volume_meaning.specs.Volumes.{IsVolume}
use Rattle.tamper_rules.specs.Settling.{Held, Sound}
use Rattle.worm_device.specs.State.{DeviceState, LeftSince}
use Rattle.volume_copy.specs.Pairs.{ArePairs}
use Rattle.volume_copy.specs.declared.moved.Moved.{Moved}

-- The image has no written cell; or it is one of a volume, and the documents that it holds say the same as the first ones
-- of the source, in order. The source has so many cells, and this image.
pub data HoldsFirst (more : ℕ) (from : Image) (cells : ℕ) (image : Image) : Type 0 where
  none : ((cell : ℕ) → image cell ≡ None) → HoldsFirst more from cells image
  first : (g h : Layout) (source target : List Document) (moved : List Moved) → IsVolume more from g
      → IsVolume cells image h → AreDocuments more from source → Held cells image target
      → ArePairs g h from image target moved source → HoldsFirst more from cells image

-- The image is that of the source at exit; or it is what settling makes of the one at entry, where that is sound. These
-- are one where settling the source did not fail and nobody else wrote.
abbrev pub IsSourceImage : DeviceState → DeviceState → Image → Type 0
IsSourceImage from from' image = (image ≡ from'.image) ⊎ ((sound : Sound from.cells from.image) × (image ≡ sound.after))

-- so it is of whatever a crash could leave from old on, and could not before
abbrev pub StaysFirst : ℕ → Image → DeviceState → DeviceState → Type 0
StaysFirst more from old new =
    (since : ℕ) (image : Image) → since ≤ old.moment → LeftSince new since image
    → LeftSince old since image ⊎ HoldsFirst more from old.cells image
