-- What it means that a volume is opened, or not.
use Rattle.std.specs.Prelude.{◌≡◌, ◌≢◌, ℕ, List, Option, Some, None, Result, Ok, Err, IsTrue}
use Rattle.cell_types.specs.Layout.{Layout, IsLayout}
use Rattle.cell_types.specs.Records.{IsRecordCell}
use Rattle.cell_types.specs.declared.geometry.Volume.{Volume}
use Rattle.cell_types.specs.declared.refusal.Refusal.{Refusal}
use Rattle.cell_types.specs.declared.refusal.Refusal.TheVariants as refusals
use Rattle.volume_meaning.specs.Volumes.{Holds, IsVolume, volume_record}
use Rattle.worm_device.specs.Counts.{Rose}
use Rattle.worm_device.specs.Views.{ViewState}
use Rattle.commit_record.specs.declared.opening.OpenRefusal.{OpenRefusal}
use Rattle.commit_record.specs.declared.opening.OpenRefusal.TheVariants.{NotFormatted, NotAVolume, WrongSize, ReadFault}

-- cell 0 holds a volume cell that states so many cells
abbrev pub StatesCells : ViewState → ℕ → Type 0
StatesCells view stated = (g : Layout) × Holds view.image 0 (volume_record g) × (g.cells ≡ stated)

-- the cell's bytes are those of no volume cell
abbrev pub IsNoVolumeCell : List ℕ → Type 0
IsNoVolumeCell cell = (g : Layout) → IsRecordCell (volume_record g) 0 cell → ⊥

-- the bytes that were found are those of a volume cell that states this layout
abbrev pub AreStating : Option (List ℕ) → Layout → Type 0
AreStating found g = (cell : List ℕ) × (found ≡ Some cell) × IsRecordCell (volume_record g) 0 cell

-- Which volume is stated by what was found in cell 0 of so many cells, or why none is.
abbrev pub StatedBy : Option (List ℕ) → ℕ → Result Volume OpenRefusal → Type 0
StatedBy found cells (Ok volume) =
    (volume.version ≡ volume.geometry.version) × IsLayout volume.geometry × (volume.geometry.cells ≡ cells)
    × AreStating found volume.geometry
StatedBy found cells (Err NotFormatted) = found ≡ None
StatedBy found cells (Err (NotAVolume cell)) = (found ≡ Some cell) × IsNoVolumeCell cell
StatedBy found cells (Err (WrongSize stated real)) =
    (real ≡ cells) × (stated ≢ real) × (g : Layout) × AreStating found g × (g.cells ≡ stated)
StatedBy found cells (Err ReadFault) = ⊥

-- How opening may end, and why, by cell 0 as it stands at the end. At most one answer but a fault fits what stands
-- there, so each comes exactly where it is said to.
abbrev pub OpenEnds : ViewState → ViewState → Result Volume OpenRefusal → Type 0
OpenEnds old new (Ok volume) =
    (volume.version ≡ volume.geometry.version) × IsLayout volume.geometry × (volume.geometry.cells ≡ new.cells)
    × (new.base.faults ≡ old.base.faults) × (IsTrue old.base.tells → IsVolume new.cells new.image volume.geometry)
OpenEnds old new (Err NotFormatted) =
    (new.base.faults ≡ old.base.faults) × (IsTrue old.base.tells → new.image 0 ≡ None)
OpenEnds old new (Err (NotAVolume found)) =
    (new.base.faults ≡ old.base.faults)
    × (IsTrue old.base.tells → (new.image 0 ≡ Some found) × IsNoVolumeCell found)
OpenEnds old new (Err (WrongSize stated real)) =
    (new.base.faults ≡ old.base.faults) × (real ≡ new.cells) × (stated ≢ real)
    × (IsTrue old.base.tells → StatesCells new stated)
OpenEnds old new (Err ReadFault) = Rose old.base.faults new.base.faults

-- as a command refuses
abbrev pub refusal_of : OpenRefusal → Refusal
refusal_of NotFormatted = refusals.NotFormatted
refusal_of (NotAVolume found) = refusals.NotAVolume found
refusal_of (WrongSize stated real) = refusals.WrongSize stated real
refusal_of ReadFault = refusals.DeviceFault
