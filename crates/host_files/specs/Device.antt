-- What a device over a file is for contracts.
use Rattle.std.specs.Prelude.{◌<◌, ◌+◌, ℕ, [], Option, Some, None, is_some}
use Rattle.cell_types.specs.Image.{Extends}
use Rattle.worm_device.specs.State.{DeviceState, Instant}
use Rattle.host_files.specs.File.{FileState, HeldBytes, Told}
use Rattle.host_files.specs.Cells.{image_of_bytes}

-- what is held, as cells
abbrev pub held_instant : ℕ → HeldBytes → Instant
held_instant cells held = record { image = image_of_bytes cells held.bytes; sure = image_of_bytes cells held.sure }

-- nothing stands in any cell
abbrev pub blank : Instant
blank = record { image = λ cell. None; sure = λ cell. None }

-- what stands now, where it is told
abbrev pub now_in : ℕ → Option Told → Instant
now_in cells None = blank
now_in cells (Some told) = held_instant cells told.now

-- what stood at each moment before the present one
abbrev pub past_in : ℕ → Option Told → ℕ → Instant
past_in cells None moment = blank
past_in cells (Some told) moment = held_instant cells (told.past moment)

-- the present moment
abbrev pub moment_in : Option Told → ℕ
moment_in None = 0
moment_in (Some told) = told.moment

-- so many cells, reads, faults and parts, and what is told. Its steps are the changes of the file: each ends a moment.
abbrev pub device_at : ℕ → ℕ → ℕ → ℕ → Option Told → DeviceState
device_at cells reads faults parts told = record {
  cells = cells;
  tells = is_some told;
  image = (now_in cells told).image;
  sure = (now_in cells told).sure;
  faults = faults;
  foreign_writes = parts;
  reads = reads;
  begun = [];
  moment = moment_in told;
  past = past_in cells told;
  steps = moment_in told;
  steps_at = λ moment. moment + 1;
}

-- The first so many cells of a file as a device, of which so many were read. What a failed write has left in part
-- counts as written by somebody else.
abbrev pub device_over : ℕ → ℕ → FileState → DeviceState
device_over cells reads file = device_at cells reads file.faults file.parts file.told

-- what is sure stands, at this moment
abbrev pub StandsIn : Instant → Type 0
StandsIn instant = Extends instant.sure instant.image

-- what is sure stands, now and at each moment before
pub record SureStands (cells : ℕ) (told : Option Told) : Type 0 where
  pub now : StandsIn (now_in cells told)
  pub before : (m : ℕ) → m < moment_in told → StandsIn (past_in cells told m)
