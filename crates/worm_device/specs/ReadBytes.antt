-- What the bytes of neighbouring cells tell that are read in one call: the same as reads of the cells one after another,
-- in rising order, with whatever others write between them.
use Rattle.std.specs.Prelude.{◌≡◌, ◌<◌, ◌≤◌, ◌+◌, ◌*◌, ◌/◌, ◌⊎◌, ℕ, List, length, take, drop, replicate, Option, Some, None, Result, IsTrue, MatchResult, ⊤}
use Rattle.cell_types.specs.Image.{Image, IsUnchanged}
use Rattle.worm_device.specs.Calls.{Called, HasCause}
use Rattle.worm_device.specs.Counts.{IsStill}
use Rattle.worm_device.specs.State.{DeviceState}
use Rattle.worm_device.specs.Views.{Viewed, ViewState}
use Rattle.worm_device.specs.declared.device.Failed.{Failed}

-- the bytes of a cell among those of a row, which has sixteen of each
abbrev pub cell_bytes : List ℕ → ℕ → List ℕ
cell_bytes bytes cell = take 16 (drop (16 * cell) bytes)

-- the bytes that are read of a cell: those that stand in it, or zeros where it is blank
abbrev pub bytes_of : Option (List ℕ) → List ℕ
bytes_of None = replicate 16 0
bytes_of (Some value) = value

-- Bytes were read of a cell between two images: those that stand in it in the later one, or zeros where it was blank in
-- the earlier one.
abbrev pub IsReadBetween : Image → Image → ℕ → List ℕ → Type 0
IsReadBetween before after cell bytes =
    (after cell ≡ Some bytes) ⊎ ((before cell ≡ None) × (bytes ≡ replicate 16 0))

-- so were the bytes of each of the first so many cells of a row
abbrev pub AreReadBetween : ℕ → ℕ → List ℕ → Image → Image → Type 0
AreReadBetween count at bytes before after =
    (place : ℕ) → place < count → IsReadBetween before after (at + place) (cell_bytes bytes place)

-- Bytes of neighbouring cells that a device reads, of as many as there is room for. A read that fails leaves in the room
-- what it will.
pub record ReadsBytes (at : ℕ) (room bytes : List ℕ) (old new : DeviceState) (result : Result Unit Failed) : Type 0 where
  pub called : Called old new
  pub only : IsStill old.foreign_writes new.foreign_writes → IsUnchanged old.image new.image
  pub size : length bytes ≡ length room
  pub answer : IsTrue old.tells
      → MatchResult result (λ _. AreReadBetween (length bytes / 16) at bytes old.image new.image) (λ _. ⊤)
  pub cause : HasCause old new result
  pub count : new.reads ≤ old.reads + length bytes / 16

-- The same of a view, which costs the device below one read a cell at most.
pub record ViewReadsBytes (at : ℕ) (room bytes : List ℕ) (old new : ViewState) (result : Result Unit Failed)
    : Type 0 where
  pub viewed : Viewed old new
  pub size : length bytes ≡ length room
  pub answer : IsTrue old.base.tells
      → MatchResult result (λ _. AreReadBetween (length bytes / 16) at bytes old.image new.image) (λ _. ⊤)
  pub cause : HasCause old.base new.base result
  pub count : new.base.reads ≤ old.base.reads + length bytes / 16
