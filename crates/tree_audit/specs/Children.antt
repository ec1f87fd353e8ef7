-- What rule 12 asks of the child cells of nodes.
use Rattle.std.specs.Prelude.{◌≡◌, ◌<◌, ◌≤◌, ◌+◌, ◌⊎◌, ℕ}
use Rattle.cell_types.specs.Image.{Image}
use Rattle.cell_types.specs.Layout.{Layout}
use Rattle.cell_types.specs.declared.record_cell.RecordCell.TheVariants.{Child}
use Rattle.volume_meaning.specs.Nodes.{AreApart, IsBlockOf, IsNode}
use Rattle.volume_meaning.specs.Documents.{document_at}
use Rattle.volume_meaning.specs.Slots.{IsEdge, Stores}
use Rattle.volume_meaning.specs.Volumes.{Holds}
use Rattle.volume_meaning.specs.declared.blocks.TheConstants.{BLOCK_CELLS}
use Rattle.volume_meaning.specs.declared.nodes.TheConstants.{NODE_BUCKETS, NODE_CELLS}
use Rattle.tamper_rules.specs.Journals.{journal_at}
use Rattle.tamper_rules.specs.Rules.{LeadsDownWell}
use Rattle.log_audit.specs.declared.stored.StoredSlot.{StoredSlot}

-- child cell x of this node leads down well, whatever levels the node has
abbrev pub LeadsDownEach : Layout → Image → ℕ → ℕ → Type 0
LeadsDownEach g image node x = (v : ℕ) → IsNode g image v node → LeadsDownWell g image v node x

-- what rule 12 asks of a cell on account of this node
abbrev pub AsksChildren : Layout → Image → ℕ → ℕ → Type 0
AsksChildren g image node cell = (x : ℕ) → x < NODE_BUCKETS → cell ≡ node + NODE_BUCKETS + x → LeadsDownEach g image node x

-- the slot's journal holds the same as this cell
pub record HasCopyOf (image : Image) (s : StoredSlot) (cell : ℕ) : Type 0 where
  pub place : ℕ
  pub inside : place < s.journal
  pub same : image (journal_at s.start s.length s.journal + place) ≡ image cell

-- and so does the journal of the slot in whose blocks the target lies
pub record IsJournaled (g : Layout) (image : Image) (cell target : ℕ) : Type 0 where
  pub owner : ℕ
  pub start : ℕ
  pub reserved : ℕ
  pub bytes : ℕ
  pub journal : ℕ
  pub stores : Stores g image owner start reserved bytes journal
  pub place : ℕ
  pub in_journal : place < journal
  pub same : image (journal_at start reserved journal + place) ≡ image cell
  pub in_blocks : start ≤ target
  pub before_document : target < document_at start reserved bytes journal

-- no child cell of a node before this one leads to the target
abbrev pub IsFirstTo : Layout → Image → ℕ → ℕ → Type 0
IsFirstTo g image cell target =
    (w other y : ℕ) → IsNode g image w other → y < NODE_BUCKETS → other + NODE_BUCKETS + y < cell
    → Holds image (other + NODE_BUCKETS + y) (Child target) → ⊥

-- the target's cells meet no block and no other node
pub record IsClear (g : Layout) (image : Image) (target : ℕ) : Type 0 where
  pub blocks : (k other : ℕ) → IsBlockOf g image k other → AreApart target NODE_CELLS other BLOCK_CELLS
  pub nodes : (w other : ℕ) → IsNode g image w other → (other ≡ target) ⊎ AreApart target NODE_CELLS other NODE_CELLS

-- The target of a child cell lies before each edge, is journaled with the cell, and is clear; and the cell is the first
-- to it.
pub record IsWellLed (g : Layout) (image : Image) (cell target : ℕ) : Type 0 where
  pub edge : (at : ℕ) → IsEdge g image image at → target + NODE_CELLS ≤ at
  pub journaled : IsJournaled g image cell target
  pub first : IsFirstTo g image cell target
  pub clear : IsClear g image target
