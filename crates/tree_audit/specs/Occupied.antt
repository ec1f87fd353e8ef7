-- What the cells of a block meet.
use Rattle.std.specs.Prelude.{◌≡◌, ◌⊎◌, ℕ}
use Rattle.cell_types.specs.Image.{Image}
use Rattle.cell_types.specs.Layout.{Layout}
use Rattle.volume_meaning.specs.Nodes.{IsBlockOf, IsNode, AreApart}
use Rattle.volume_meaning.specs.declared.blocks.TheConstants.{BLOCK_CELLS}
use Rattle.volume_meaning.specs.declared.nodes.TheConstants.{NODE_CELLS}

-- the block's cells meet no block that begins elsewhere, and none of another list
abbrev pub IsAlone : Layout → Image → ℕ → ℕ → Type 0
IsAlone g image l target = (k other : ℕ) → IsBlockOf g image k other
    → ((other ≡ target) × (k ≡ l)) ⊎ AreApart target BLOCK_CELLS other BLOCK_CELLS

-- they meet no node
abbrev pub IsOffNodes : Layout → Image → ℕ → Type 0
IsOffNodes g image target = (level node : ℕ) → IsNode g image level node → AreApart target BLOCK_CELLS node NODE_CELLS
