-- What a row of neighbouring cells that are read in one call tells: the same as their reads one after another, in rising
-- order, with whatever others write between them.
use Rattle.std.specs.Prelude.{◌≡◌, ◌<◌, ◌≤◌, ◌+◌, ℕ, List, slice_get, length, Option, Some, None, Result, IsTrue, MatchResult, ⊤}
use Rattle.cell_types.specs.Image.{Image, IsUnchanged}
use Rattle.worm_device.specs.Calls.{Called, HasCause}
use Rattle.worm_device.specs.Counts.{IsStill}
use Rattle.worm_device.specs.State.{DeviceState}
use Rattle.worm_device.specs.Views.{Viewed, ViewState}
use Rattle.worm_device.specs.declared.device.Failed.{Failed}

-- A cell was found to hold this between two images: what was blank was so in the earlier one, and what is written
-- stands in the later one.
abbrev pub IsFoundBetween : Image → Image → ℕ → Option (List ℕ) → Type 0
IsFoundBetween before after cell None = before cell ≡ None
IsFoundBetween before after cell (Some value) = after cell ≡ Some value

-- each of the first so many cells of the row was found to hold this
abbrev pub AreFoundBetween : ℕ → ℕ → List (Option (List ℕ)) → Image → Image → Type 0
AreFoundBetween count at found before after = (place : ℕ) (held : Option (List ℕ)) → place < count
    → slice_get found place ≡ Some held → IsFoundBetween before after (at + place) held

-- A row that a device reads, over as many cells as there is room for. A read that fails leaves in the room what it will.
pub record ReadsRow (at : ℕ) (room found : List (Option (List ℕ))) (old new : DeviceState) (result : Result Unit Failed)
    : Type 0 where
  pub called : Called old new
  pub only : IsStill old.foreign_writes new.foreign_writes → IsUnchanged old.image new.image
  pub size : length found ≡ length room
  pub answer : IsTrue old.tells
      → MatchResult result (λ _. AreFoundBetween (length found) at found old.image new.image) (λ _. ⊤)
  pub cause : HasCause old new result
  pub count : new.reads ≤ old.reads + length found

-- The same of a view, which costs the device below one read a cell at most.
pub record ViewReadsRow (at : ℕ) (room found : List (Option (List ℕ))) (old new : ViewState) (result : Result Unit Failed)
    : Type 0 where
  pub viewed : Viewed old new
  pub size : length found ≡ length room
  pub answer : IsTrue old.base.tells
      → MatchResult result (λ _. AreFoundBetween (length found) at found old.image new.image) (λ _. ⊤)
  pub cause : HasCause old.base new.base result
  pub count : new.base.reads ≤ old.base.reads + length found
