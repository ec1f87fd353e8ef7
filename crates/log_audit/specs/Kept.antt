-- What is kept of a device's cells.
use Rattle.std.specs.Prelude.{◌≡◌, ◌≢◌, ◌+◌, ℕ, List, [], Option, None, Result, Ok, Err, IsTrue, true}
use Rattle.cell_types.specs.Image.{Image, Extends}
use Rattle.cell_types.specs.declared.refusal.Refusal.{Refusal}
use Rattle.cell_types.specs.declared.refusal.Refusal.TheVariants.{DeviceFault, NoMemory}
use Rattle.worm_device.specs.Counts.{Rose, IsStill}
use Rattle.worm_device.specs.State.{DeviceState}
use Rattle.worm_device.specs.Views.{ViewState, no_cells}
use Rattle.log_audit.specs.Cells.{shown_by}
use Rattle.log_audit.specs.AllRows.{all_rows}
use Rattle.log_audit.specs.declared.kept.KeptCells.{KeptCells}
use Rattle.log_audit.specs.declared.written.WrittenCell.{WrittenCell}

-- the image that the kept cells show
abbrev pub image_of_kept : KeptCells → Image
image_of_kept kept = shown_by (all_rows kept.rows)

-- how many cells are kept, blank ones too
abbrev pub count_of : KeptCells → ℕ
count_of kept = kept.count

-- new is old with what was found in the next cell
pub record IsNext (found : Option (List ℕ)) (old new : KeptCells) : Type 0 where
  pub count : count_of new ≡ count_of old + 1
  pub here : image_of_kept new (count_of old) ≡ found
  pub others : (cell : ℕ) → cell ≢ count_of old → image_of_kept new cell ≡ image_of_kept old cell

-- The cells that were kept between two states of a device: they show what stood at the first, and nothing that does not
-- stand at the second; so where nobody else wrote they show what stands.
pub record IsKeptBetween (old new : DeviceState) (kept : KeptCells) : Type 0 where
  pub above : Extends old.image (image_of_kept kept)
  pub below : Extends (image_of_kept kept) new.image
  pub quiet : IsStill old.foreign_writes new.foreign_writes → image_of_kept kept ≡ new.image
  pub before : IsStill old.foreign_writes new.foreign_writes → image_of_kept kept ≡ old.image

-- how reading all cells may end, and why
abbrev pub KeepEnds : DeviceState → DeviceState → Result KeptCells Refusal → Type 0
KeepEnds old new (Ok kept) =
    (count_of kept ≡ old.cells) × (new.faults ≡ old.faults) × (IsTrue old.tells → IsKeptBetween old new kept)
KeepEnds old new (Err DeviceFault) = Rose old.faults new.faults
KeepEnds old new (Err NoMemory) = new.faults ≡ old.faults
KeepEnds old new (Err refusal) = ⊥

-- a device of so many cells that shows this image and never changes: what stands below a view of kept cells
abbrev pub base_of : ℕ → Image → DeviceState
base_of count image = record {
  cells = count;
  tells = true;
  image = image;
  sure = image;
  faults = 0;
  foreign_writes = 0;
  reads = 0;
  begun = [];
  moment = 0;
  past = λ m. record { image = image; sure = image };
  steps = 0;
  steps_at = λ m. 0;
}

-- the view that shows this image of so many cells
abbrev pub view_over : ℕ → List WrittenCell → ViewState
view_over count rows = record {
  cells = count;
  image = shown_by rows;
  planned = no_cells;
  owners = λ cell. None;
  lower = shown_by rows;
  fresh = count;
  base = base_of count (shown_by rows);
  loans = [];
}

-- the kept cells as a view
abbrev pub view_of : KeptCells → ViewState
view_of kept = view_over kept.count (all_rows kept.rows)
