-- What bytes are, and what sixteen of them are a written cell.
use Rattle.std.specs.Prelude.{◌≡◌, ◌≢◌, ◌<◌, ℕ, List, length, slice_index, replicate}

-- each of them is a byte
pub record AreBytes (bytes : List ℕ) : Type 0 where
  pub each : (i : ℕ) → slice_index bytes i < 256

-- a written cell: sixteen bytes, not all of them zero
pub record IsCell (bytes : List ℕ) : Type 0 where
  pub sixteen : length bytes ≡ 16
  pub fits : AreBytes bytes
  pub written : bytes ≢ replicate 16 0
