-- The tiles of a slot by their first cells, and what it means that they follow one another.
use Rattle.std.specs.Prelude.{◌≡◌, ◌≢◌, ◌<◌, ◌≤◌, ◌+◌, ◌^◌, ◌⊎◌, ℕ, Option, Some}
use Rattle.cell_types.specs.Image.{Image}
use Rattle.cell_types.specs.declared.record_cell.RecordCell.{RecordCell}
use Rattle.volume_meaning.specs.Documents.{document_at}
use Rattle.tamper_rules.specs.Journals.{journal_at}
use Rattle.recovery_engine.specs.Entries.{target_of}
use Rattle.log_audit.specs.declared.stored.StoredSlot.{StoredSlot}
use Rattle.slot_audit.specs.Copied.{IsCopied}
use Rattle.slot_audit.specs.Tiles.{HasTile}
use Rattle.slot_audit.specs.declared.tile.Tile.{Tile}

-- each copy in the slot's journal is one of a cell whose number has four bytes
abbrev pub HaveTargets : Image → StoredSlot → Type 0
HaveTargets image s =
    (place : ℕ) → place < s.journal → (held : RecordCell)
    → (c : IsCopied image (journal_at s.start s.length s.journal + place) held) → target_of c.cell < 2 ^ 32

-- one of the first places of the slot's journal leads to this tile
pub record IsLedByJournal (image : Image) (s : StoredSlot) (places target size : ℕ) : Type 0 where
  pub place : ℕ
  pub below : place < places
  pub has : HasTile image (journal_at s.start s.length s.journal + place) (record { target = target; size = size })

-- the cell lies in the slot's own block part
pub record IsInOwnBlocks (s : StoredSlot) (target : ℕ) : Type 0 where
  pub from : s.start ≤ target
  pub to : target < document_at s.start s.length s.bytes s.journal

-- These are the sizes of the tiles in the slot's own block part to which the first places of its journal lead: of each
-- tile the greatest.
pub record IsTable (image : Image) (s : StoredSlot) (places : ℕ) (sizes : ℕ → Option ℕ) : Type 0 where
  pub sound : (target size : ℕ) → sizes target ≡ Some size → IsLedByJournal image s places target size
      × IsInOwnBlocks s target
  pub all : (target size : ℕ) → IsLedByJournal image s places target size → IsInOwnBlocks s target
      → (most : ℕ) × (sizes target ≡ Some most) × (size ≤ most)

-- a tile that begins where this one does is as large, or larger
pub record HasAtLeast (sizes : ℕ → Option ℕ) (tile : Tile) : Type 0 where
  pub size : ℕ
  pub here : sizes tile.target ≡ Some size
  pub most : tile.size ≤ size

-- new is old with this tile: its size is the greater one of both
pub record IsWithTile (old new : ℕ → Option ℕ) (tile : Tile) : Type 0 where
  pub size : ℕ
  pub here : new tile.target ≡ Some size
  pub most : tile.size ≤ size
  pub rises : (before : ℕ) → old tile.target ≡ Some before → before ≤ size
  pub either : (size ≡ tile.size) ⊎ (old tile.target ≡ Some size)
  pub others : (target : ℕ) → target ≢ tile.target → new target ≡ old target

-- each tile begins between these two cells, and has a cell
abbrev pub LieWithin : (ℕ → Option ℕ) → ℕ → ℕ → Type 0
LieWithin sizes from to = (target size : ℕ) → sizes target ≡ Some size → (from ≤ target) × (target < to) × (1 ≤ size)

-- From this cell up to that one tile follows tile: where one ends the next begins, and none begins within one.
pub data Follow (sizes : ℕ → Option ℕ) (to : ℕ) : ℕ → Type 0 where
  ended : (at : ℕ) → at ≡ to → Follow sizes to at
  tile : (at size : ℕ) → at < to → sizes at ≡ Some size
      → ((target other : ℕ) → at < target → target < at + size → sizes target ≡ Some other → ⊥)
      → Follow sizes to (at + size) → Follow sizes to at
