-- Tilings, told by a walk over the cells: where a tile begins another one does once it has ended, and none within it.
use Rattle.std.specs.Prelude.{◌≡◌, ◌<◌, ◌≤◌, ◌+◌, ◌⊎◌, ◌↔◌, ℕ}
use Rattle.cell_types.specs.Image.{Image}
use Rattle.volume_meaning.specs.Documents.{document_at}
use Rattle.tamper_rules.specs.Rules.{HasJump, HasChild, IsSize, TilingRule}

-- a slot's journal leads to this cell, which lies in the slot's own blocks
pub record IsOwnTarget (image : Image) (start reserved bytes journal target : ℕ) : Type 0 where
  pub led : HasJump image start reserved journal target ⊎ HasChild image start reserved journal target
  pub from : start ≤ target
  pub below : target < document_at start reserved bytes journal

-- From this cell up to that one tile follows tile.
pub data WalksTiles (image : Image) (start reserved bytes journal to : ℕ) : ℕ → Type 0 where
  over : (at : ℕ) → at ≡ to → WalksTiles image start reserved bytes journal to at
  next : (at size : ℕ) → at < to → IsOwnTarget image start reserved bytes journal at
      → IsSize image start reserved journal at size
      → ((target : ℕ) → at < target → target < at + size → IsOwnTarget image start reserved bytes journal target → ⊥)
      → WalksTiles image start reserved bytes journal to (at + size)
      → WalksTiles image start reserved bytes journal to at

-- rule 15 is kept just where a walk comes to the end
abbrev pub WalksTell : Type 0
WalksTell = (image : Image) (start reserved bytes journal : ℕ) → start ≤ document_at start reserved bytes journal
    → (TilingRule image start reserved bytes journal ↔ WalksTiles image start reserved bytes journal
    (document_at start reserved bytes journal) start)
