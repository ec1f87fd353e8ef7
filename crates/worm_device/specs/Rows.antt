-- What a row of neighbouring cells that are written in one call does: the same as its writes one after another, in
-- rising order, with whatever others write between them.
use Rattle.std.specs.Prelude.{◌≡◌, ◌≢◌, ◌<◌, ◌+◌, ◌⊎◌, ℕ, List, slice_get, Some, None, Result, IsTrue, MatchResult, ⊤}
use Rattle.cell_types.specs.Image.{Image}
use Rattle.worm_device.specs.Calls.{Called, HasCause}
use Rattle.worm_device.specs.Counts.{IsStill}
use Rattle.worm_device.specs.State.{DeviceState}
use Rattle.worm_device.specs.declared.device.Failed.{Failed}
use Rattle.worm_device.specs.declared.device.RowWritten.{RowWritten}
use Rattle.worm_device.specs.declared.device.RowWritten.TheVariants.{Whole, Other}

-- the cell was blank, is one of the row, and holds its value of the row now
pub record IsNewInRow (at : ℕ) (values : List (List ℕ)) (old new : Image) (cell : ℕ) : Type 0 where
  pub place : ℕ
  pub here : cell ≡ at + place
  pub value : List ℕ
  pub is : slice_get values place ≡ Some value
  pub blank : old cell ≡ None
  pub now : new cell ≡ Some value

-- the same stands in each cell, but for blank cells of the row, which may hold their values now
abbrev pub ChangesInRow : ℕ → List (List ℕ) → Image → Image → Type 0
ChangesInRow at values old new = (cell : ℕ) → (new cell ≡ old cell) ⊎ IsNewInRow at values old new cell

-- the first so many cells of the row hold their values
abbrev pub HoldFirst : ℕ → ℕ → List (List ℕ) → Image → Type 0
HoldFirst count at values image =
    (place : ℕ) (value : List ℕ) → place < count → slice_get values place ≡ Some value → image (at + place) ≡ Some value

-- this cell of the row, and none before it, holds something else, and where nobody else wrote it did so before
pub record IsOtherAt (at : ℕ) (values : List (List ℕ)) (cell : ℕ) (found : List ℕ) (old new : DeviceState) : Type 0 where
  pub place : ℕ
  pub here : cell ≡ at + place
  pub before : HoldFirst place at values new.image
  pub value : List ℕ
  pub is : slice_get values place ≡ Some value
  pub differs : found ≢ value
  pub stands : new.image cell ≡ Some found
  pub stood : IsStill old.foreign_writes new.foreign_writes → old.image cell ≡ Some found

-- Whole where each cell holds its value now; Other with the least cell that holds something else.
abbrev pub RowAnswers : ℕ → List (List ℕ) → DeviceState → DeviceState → RowWritten → Type 0
RowAnswers at values old new Whole =
    (place : ℕ) (value : List ℕ) → slice_get values place ≡ Some value → new.image (at + place) ≡ Some value
RowAnswers at values old new (Other cell found) = IsOtherAt at values cell found old new

-- A row changes blank cells of its own alone. Of one that failed any cell may have been written or not.
pub record WritesRow (at : ℕ) (values : List (List ℕ)) (old new : DeviceState) (result : Result RowWritten Failed)
    : Type 0 where
  pub called : Called old new
  pub only : IsStill old.foreign_writes new.foreign_writes → ChangesInRow at values old.image new.image
  pub answer : IsTrue old.tells → MatchResult result (RowAnswers at values old new) (λ _. ⊤)
  pub cause : HasCause old new result
  pub count : new.reads ≡ old.reads
