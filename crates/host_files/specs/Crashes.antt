-- What a crash leaves of a file, and what that is as cells.
use Rattle.std.specs.Prelude.{◌≡◌, ◌<◌, ◌≤◌, ◌*◌, ◌⊎◌, ℕ, List, Option, Some}
use Rattle.worm_device.specs.State.{DeviceState, LeftSince}
use Rattle.host_files.specs.Cells.{image_of_bytes}
use Rattle.host_files.specs.File.{HeldBytes, Told, part_at}

-- A crash leaves in each place what was sure there, or what stood there: sixteen bytes are written whole or not at
-- all.
abbrev pub CrashLeaves : HeldBytes → List ℕ → Type 0
CrashLeaves held bytes =
    (place : ℕ)
    → (part_at (16 * place) bytes ≡ part_at (16 * place) held.sure)
    ⊎ (part_at (16 * place) bytes ≡ part_at (16 * place) held.bytes)

-- a crash now, or at some moment since that one, could have left these bytes
abbrev pub CouldLeave : Told → ℕ → List ℕ → Type 0
CouldLeave told since bytes =
    CrashLeaves told.now bytes ⊎ ((m : ℕ) × (since ≤ m) × (m < told.moment) × CrashLeaves (told.past m) bytes)

-- Where the file tells its bytes, each file that a crash could have left is, as cells, an image that the device says a
-- crash could have left.
abbrev pub CrashesAreSeen : DeviceState → Option Told → Type 0
CrashesAreSeen device told =
    (t : Told) (since : ℕ) (bytes : List ℕ) → told ≡ Some t → CouldLeave t since bytes
    → LeftSince device since (image_of_bytes device.cells bytes)
