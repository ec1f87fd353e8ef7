-- What rule 8 asks of the cells of a block.
use Rattle.std.specs.Prelude.{◌≡◌, ◌<◌, ◌≤◌, ◌+◌, ℕ}
use Rattle.cell_types.specs.Image.{Image}
use Rattle.tamper_rules.specs.Rules.{HoldsInOrder}

-- a place of a block, where it is written: before the pointers it is in order, and behind them there is none
pub record KeepsEntryRule (image : Image) (block place : ℕ) : Type 0 where
  pub entry : place < 128 → HoldsInOrder image block place
  pub blank : place < 248

-- what rule 8 asks of a cell on account of this block
abbrev pub BlockAsks : Image → ℕ → ℕ → Type 0
BlockAsks image block cell = (place : ℕ) → place < 256 → cell ≡ block + place → KeepsEntryRule image block place

-- what it asks of a cell on account of the places of this block from one on and below another
abbrev pub PlacesAsk : Image → ℕ → ℕ → ℕ → ℕ → Type 0
PlacesAsk image block from to cell = (place : ℕ) → from ≤ place → place < to → cell ≡ block + place → KeepsEntryRule image block place
