-- What a row of changes makes of blank cells: an image, and what of it is sure.
use Rattle.std.specs.Prelude.{◌≡◌, ◌<◌, ◌+◌, ◌==◌, if◌then◌else◌, ℕ, List, [], ◌∷◌, Option, Some, None, ⊤, slice_index_or}
use Rattle.std.specs.Coded.{Unit-prop}
use Rattle.std.proofs.Props.{props}
use Rattle.cell_types.specs.Bytes.{IsCell}
use Rattle.cell_types.specs.Image.{Image}
use Rattle.worm_device.specs.State.{Instant}
use Rattle.worm_memory.specs.declared.change.Change.{Change}
use Rattle.worm_memory.specs.declared.change.Change.TheVariants.{Wrote, Foreign, Synced, Lost, Crashed}

-- what stands in a cell after a value is written to it: what stood there, or else the value
abbrev pub kept_or : Option (List ℕ) → List ℕ → Option (List ℕ)
kept_or (Some found) value = Some found
kept_or None value = Some value

-- an image after a write
abbrev pub written : Image → ℕ → List ℕ → Image
written image at value = λ cell. if cell == at then kept_or (image cell) value else image cell

-- an image after a crash took one cell: what is sure there still stands
abbrev pub fallen : Image → Image → ℕ → Image
fallen image sure at = λ cell. if cell == at then sure cell else image cell

-- what one change makes of an instant
abbrev pub after_change : Instant → Change → Instant
after_change now (Wrote at value) = record { image = written now.image at value; sure = now.sure }
after_change now (Foreign at value) = record { image = written now.image at value; sure = now.sure }
after_change now Synced = record { image = now.image; sure = now.image }
after_change now (Lost at) = record { image = fallen now.image now.sure at; sure = now.sure }
after_change now Crashed = record { image = now.image; sure = now.image }

-- the change puts this value into this cell, whoever writes
pub data PutsInto (at : ℕ) (value : List ℕ) : Change → Type 0 where
  ours : PutsInto at value (Wrote at value)
  theirs : PutsInto at value (Foreign at value)

-- what a row of changes makes of it
abbrev pub after_changes : Instant → List Change → Instant
after_changes now [] = now
after_changes now (change ∷ changes) = after_changes (after_change now change) changes

-- how many of these changes are somebody else's
abbrev pub foreign_writes_in : List Change → ℕ
foreign_writes_in [] = 0
foreign_writes_in (Wrote at value ∷ changes) = foreign_writes_in changes
foreign_writes_in (Foreign at value ∷ changes) = foreign_writes_in changes + 1
foreign_writes_in (Synced ∷ changes) = foreign_writes_in changes
foreign_writes_in (Lost at ∷ changes) = foreign_writes_in changes
foreign_writes_in (Crashed ∷ changes) = foreign_writes_in changes

-- all cells are blank
abbrev pub blank : Instant
blank = record { image = λ cell. None; sure = λ cell. None }

-- what a row of changes makes of blank cells
abbrev pub world : List Change → Instant
world changes = after_changes blank changes

-- all that stands is sure
abbrev pub IsAllSure : Instant → Type 0
IsAllSure now = (cell : ℕ) → now.image cell ≡ now.sure cell

-- each change is one: a write puts a written cell's value into a cell of the device that was blank, a sync makes
-- something sure that was not, and a crash takes a cell only where what stands there is not sure
abbrev pub AreChanges : ℕ → Instant → List Change → Type 0
AreChanges cells now [] = ⊤
AreChanges cells now (Wrote at value ∷ changes) =
    (at < cells) × (now.image at ≡ None) × IsCell value
    × AreChanges cells (after_change now (Wrote at value)) changes
AreChanges cells now (Foreign at value ∷ changes) =
    (at < cells) × (now.image at ≡ None) × IsCell value
    × AreChanges cells (after_change now (Foreign at value)) changes
AreChanges cells now (Synced ∷ changes) = (IsAllSure now → ⊥) × AreChanges cells (after_change now Synced) changes
AreChanges cells now (Lost at ∷ changes) =
    (now.image at ≡ now.sure at → ⊥) × AreChanges cells (after_change now (Lost at)) changes
AreChanges cells now (Crashed ∷ changes) = AreChanges cells (after_change now Crashed) changes

-- a device of blank cells has become this one: each cell holds what the image says
abbrev pub HasBecome : List (Option (List ℕ)) → Image → Type 0
HasBecome cells image = (cell : ℕ) → slice_index_or cells cell None ≡ image cell

-- there is one proof of each, so that a device can carry it
pub IsCell-prop : (value : List ℕ) → IsProp (IsCell value)
IsCell-prop value = Prim.hlevel props

pub AreChanges-prop : (cells : ℕ) (now : Instant) (changes : List Change) → IsProp (AreChanges cells now changes)
AreChanges-prop cells now [] = Unit-prop
AreChanges-prop cells now (Wrote at value ∷ changes) =
    Prim.hlevel (props, AreChanges-prop cells (after_change now (Wrote at value)) changes)
AreChanges-prop cells now (Foreign at value ∷ changes) =
    Prim.hlevel (props, AreChanges-prop cells (after_change now (Foreign at value)) changes)
AreChanges-prop cells now (Synced ∷ changes) =
    Prim.hlevel (props, AreChanges-prop cells (after_change now Synced) changes)
AreChanges-prop cells now (Lost at ∷ changes) =
    Prim.hlevel (props, AreChanges-prop cells (after_change now (Lost at)) changes)
AreChanges-prop cells now (Crashed ∷ changes) = AreChanges-prop cells (after_change now Crashed) changes
