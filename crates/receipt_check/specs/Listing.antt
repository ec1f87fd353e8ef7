-- Listed cells of a device of so many.
use Rattle.std.specs.Prelude.{◌≡◌, ◌<◌, ◌^◌, ℕ, List, Some}
use Rattle.cell_types.specs.Bytes.{IsCell}
use Rattle.receipt_text.specs.Listed.{listed_image}

-- each is a written cell of such a device, whose cells have numbers of 32 bits
pub record AreShown (cells : ℕ) (listed : List (ℕ × List ℕ)) : Type 0 where
  pub few : cells < 2 ^ 32
  pub each : (at : ℕ) (value : List ℕ) → listed_image listed at ≡ Some value → (at < cells) × IsCell value
