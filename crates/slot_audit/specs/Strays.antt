-- Rule 7 in its parts: what it asks of stamps, and what it asks of each cell besides.
use Rattle.std.specs.Prelude.{◌≡◌, ◌<◌, ◌≤◌, ℕ, Option, Some, None, Contains}
use Rattle.std.specs.List.Sorted.{IsNonDecreasing}
use Rattle.cell_types.specs.Image.{Image}
use Rattle.cell_types.specs.Layout.{Layout, spare_at, pool_at}
use Rattle.cell_types.specs.declared.record_cell.RecordCell.{RecordCell}
use Rattle.volume_meaning.specs.Slots.{IsDone, IsDoneSlot, IsEdge, HasStamp}
use Rattle.tamper_rules.specs.Journals.{CopiesIndexCell, IsNamed}
use Rattle.tamper_rules.specs.Rules.{IsDoneIndexCell, IsTrueStamp}
use Rattle.slot_audit.specs.declared.named.NamedCells.{NamedCells}

-- The cell is none of 1 to 3; where it is one of the index, a journal names it; and in the pool it lies before each edge.
pub record IsExpected (g : Layout) (image : Image) (cell : ℕ) : Type 0 where
  pub kept_blank : 1 ≤ cell → 4 ≤ cell
  pub named : IsDoneIndexCell g image cell → IsNamed g image cell
  pub edge : (at : ℕ) → IsEdge g image image at → pool_at g ≤ cell → cell < at

-- where the cell is a slot's spare cell, it holds a stamp in order
abbrev pub IsInTime : Layout → Image → ℕ → Type 0
IsInTime g image cell = (n : ℕ) → n < g.slots → cell ≡ spare_at n → IsTrueStamp g image n

-- slot m, which is done, names the cell in its journal
pub record NamesInJournal (g : Layout) (image : Image) (m cell : ℕ) : Type 0 where
  pub start : ℕ
  pub length : ℕ
  pub bytes : ℕ
  pub journal : ℕ
  pub done : IsDone g image m start length bytes journal
  pub place : ℕ
  pub copied : RecordCell
  pub copies : CopiesIndexCell image start length journal place cell copied

-- these are the cells that done slots name, in an order that doesn't fall
pub record AreNamed (g : Layout) (image : Image) (named : NamedCells) : Type 0 where
  pub ordered : IsNonDecreasing named.cells.items
  pub only : (cell : ℕ) → Contains named.cells.items cell → IsNamed g image cell
  pub all : (cell : ℕ) → IsNamed g image cell → Contains named.cells.items cell

-- the greatest stamp of the done slots below one, and none where none of them has one
abbrev pub IsLatest : Layout → Image → ℕ → Option ℕ → Type 0
IsLatest g image n None = (m seconds : ℕ) → m < n → IsDoneSlot g image m → HasStamp image m seconds → ⊥
IsLatest g image n (Some latest) =
    ((m : ℕ) × (m < n) × IsDoneSlot g image m × HasStamp image m latest)
    × ((m seconds : ℕ) → m < n → IsDoneSlot g image m → HasStamp image m seconds → seconds ≤ latest)
