-- What a device is for contracts: what stands in its cells, what of it a crash can't take, its counts,
-- and what a crash could have left at each moment so far.
use Rattle.std.specs.Prelude.{◌≡◌, ◌<◌, ◌≤◌, ◌⊎◌, ℕ, Bool, List, Some}
use Rattle.cell_types.specs.Bytes.{IsCell}
use Rattle.cell_types.specs.Image.{Image, Extends, Between}
use Rattle.cell_types.specs.declared.geometry.TheConstants.{MAX_CELLS}

-- an image, and the part of it that is sure
pub record Instant : Type 0 where
  pub image : Image
  pub sure : Image

-- The state of a device. Where it does not tell its image, what stands here as image, sure image, past and steps
-- says nothing of the device, and clauses on content ask for tells.
pub record DeviceState : Type 0 where
  -- how many cells it has
  pub cells : ℕ
  -- whether it tells its image and its sure image
  pub tells : Bool
  -- what stands in its cells
  pub image : Image
  -- what a crash can't take
  pub sure : Image
  -- how many of its calls have failed
  pub faults : ℕ
  -- how many cells somebody else has written
  pub foreign_writes : ℕ
  -- how many reads it was asked for
  pub reads : ℕ
  -- what it keeps from the beginning of a command on, as its record so far and its plan, in rows of numbers of the
  -- device's own; no call changes it
  pub begun : List (List ℕ)
  -- the present moment: a number that does not fall
  pub moment : ℕ
  -- what stood at each moment before the present one
  pub past : ℕ → Instant
  -- how many steps it counts: writes and syncs, or what changed it
  pub steps : ℕ
  -- of each moment before the present one, which step ended it, or came behind what ended it
  pub steps_at : ℕ → ℕ

-- A crash now, or at some moment since that one, could have left this image: it has what was sure then,
-- and nothing that did not stand then.
abbrev pub LeftSince : DeviceState → ℕ → Image → Type 0
LeftSince s since image =
    Between s.sure s.image image
    ⊎ ((m : ℕ) × (since ≤ m) × (m < s.moment) × Between (s.past m).sure (s.past m).image image)

-- what holds of every device: what is sure stands, and what stands are written cells of the device
pub record IsDevice (s : DeviceState) : Type 0 where
  pub sure : Extends s.sure s.image
  pub inside : (cell : ℕ) (value : List ℕ) → s.image cell ≡ Some value → (cell < s.cells) × IsCell value
  pub some_cells : 1 ≤ s.cells
  pub cells : s.cells ≤ MAX_CELLS
