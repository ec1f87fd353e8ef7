-- What a search of a posting list finds, what it passes, and what licence its evidence has.
use Rattle.std.specs.Prelude.{◌≡◌, ◌<◌, ◌≤◌, ◌+◌, ◌%◌, ℕ, Option, Some, None, Result, Ok, Err, IsTrue}
use Rattle.cell_types.specs.Image.{Image}
use Rattle.cell_types.specs.Layout.{Layout, list_at, pool_at, all_lists}
use Rattle.cell_types.specs.declared.refusal.Evidence.{Evidence}
use Rattle.cell_types.specs.declared.refusal.Fault.{Fault}
use Rattle.cell_types.specs.declared.refusal.Fault.TheVariants.{Tampered, Failed}
use Rattle.volume_meaning.specs.Slots.{IsEdge}
use Rattle.volume_meaning.specs.Volumes.{IsVolume}
use Rattle.volume_meaning.specs.Blocks.{PostingFields, InFront, Leads, Trail}
use Rattle.tamper_rules.specs.Rules.{HasPlace, Rule, IsBroken, IsPlace, number_of}
use Rattle.worm_device.specs.Counts.{Rose}
use Rattle.worm_device.specs.Views.{ViewState, Viewed}
use Rattle.jump_block.specs.Entries.{cell_of, posting_of}
use Rattle.jump_block.specs.declared.held_entry.Entry.{Entry}
use Rattle.jump_index.specs.Evidence.{IsSearchRule}
use Rattle.jump_index.specs.declared.bounds.Bounds.{Bounds}

-- the posting in the cell at has a trail from the block, where the pool begins as the bounds do
abbrev pub HasBoundedTrail : Bounds → ViewState → ℕ → ℕ → PostingFields → Type 0
HasBoundedTrail bounds s block at p = Trail s.image bounds.pool s.cells at p block

-- a posting of a block of a device of so many cells
pub record IsListEntry (cells : ℕ) (e : Entry) : Type 0 where
  pub inside : e.block + 256 ≤ cells
  pub place : e.place < 128
  pub last : e.key % 256 ≤ e.last

-- the entry stands in the front of a block that this one leads to, within the bounds
pub record IsEntryBehind (bounds : Bounds) (image : Image) (block : ℕ) (e : Entry) : Type 0 where
  pub leads : Leads image bounds.pool bounds.edge e.block block
  pub place : e.place < 128
  pub in_front : InFront image e.block e.place (posting_of e)

-- No posting with a trail from the block has a key from x up to this entry's, and where one has the key x, it is this
-- entry.
abbrev pub IsFirstEntry : Bounds → ℕ → ℕ → ViewState → Entry → Type 0
IsFirstEntry bounds block x s e =
    (at : ℕ) (p : PostingFields) → HasBoundedTrail bounds s block at p → x ≤ p.key
    → (e.key ≤ p.key) × (p.key ≡ x → (at ≡ cell_of e) × (p ≡ posting_of e))

-- where the entry has the key x, it has a trail from the block
abbrev pub IsExact : Bounds → ℕ → ℕ → ViewState → Entry → Type 0
IsExact bounds block x s e = e.key ≡ x → HasBoundedTrail bounds s block (cell_of e) (posting_of e)

-- The licence of evidence, on an image of so many cells. It stands there. Where the search began at the first block of
-- a list, and the bounds at the pool's start, the cell is a place of the rule; where besides the volume is the one in
-- cell 0, and the bounds end at an edge of the image, the rule is broken there.
pub record IsListLicensed (bounds : Bounds) (head cells : ℕ) (image : Image) (e : Evidence) : Type 0 where
  pub stands : image e.cell ≡ Some e.found
  pub place : (g : Layout) (l : ℕ) → l < all_lists g → head ≡ list_at g l → bounds.pool ≡ pool_at g → bounds.edge ≤ g.cells
      → HasPlace g e
  pub broken : (g : Layout) (l : ℕ) → IsVolume cells image g → l < all_lists g → head ≡ list_at g l
      → bounds.pool ≡ pool_at g → IsEdge g image image bounds.edge → IsBroken cells image e.rule e.cell

-- How a search of a list may end. Of the postings that have a trail from the list's first block at entry none is
-- passed. A fault is one of the device, or names evidence of this list.
abbrev pub FindEntryEnds : Bounds → ℕ → ℕ → ViewState → ViewState → Result (Option Entry) Fault → Type 0
FindEntryEnds bounds head x old new (Ok (Some e)) =
    (x ≤ e.key) × IsListEntry old.cells e
    × (IsTrue old.base.tells → IsEntryBehind bounds new.image head e × IsFirstEntry bounds head x old e
    × IsExact bounds head x new e)
FindEntryEnds bounds head x old new (Ok None) =
    IsTrue old.base.tells → (at : ℕ) (p : PostingFields) → HasBoundedTrail bounds old head at p → x ≤ p.key → ⊥
FindEntryEnds bounds head x old new (Err Failed) = Rose old.base.faults new.base.faults
FindEntryEnds bounds head x old new (Err (Tampered e)) =
    IsSearchRule e.rule × (IsTrue old.base.tells → IsListLicensed bounds head new.cells new.image e)

-- a search costs 4,096 reads at most
pub record FindsGeq (bounds : Bounds) (head x : ℕ) (old new : ViewState) (result : Result (Option Entry) Fault)
    : Type 0 where
  pub viewed : Viewed old new
  pub reads : new.base.reads ≤ old.base.reads + 4096
  pub ends : FindEntryEnds bounds head x old new result
