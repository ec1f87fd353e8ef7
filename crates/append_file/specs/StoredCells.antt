-- The content cells that bytes are stored in.
use Rattle.std.specs.Prelude.{◌≡◌, ◌<◌, ℕ, List, ◌++◌, length, slice_get, Some}
use Rattle.volume_meaning.specs.Documents.{content_at}
use Rattle.volume_meaning.specs.Slots.{cells_for}

-- the cells are the content cells of these bytes, in order
pub record AreCellsOf (bytes : List ℕ) (cells : List (List ℕ)) : Type 0 where
  pub count : length cells ≡ cells_for (length bytes)
  pub each : (k : ℕ) → k < cells_for (length bytes) → slice_get cells k ≡ Some (content_at bytes k)

-- the content cells of these bytes were added to the others
pub record AddsCellsOf (bytes : List ℕ) (old new : List (List ℕ)) : Type 0 where
  pub added : List (List ℕ)
  pub cells : AreCellsOf bytes added
  pub whole : new ≡ old ++ added
