-- What is kept of a list from one search to the next, and where it leads.
use Rattle.std.specs.Prelude.{◌≡◌, ◌<◌, ◌≤◌, ◌+◌, ℕ, Option, Some, None, Result, Ok, Err, IsTrue, slice_get, ⊤}
use Rattle.cell_types.specs.Image.{Image}
use Rattle.volume_meaning.specs.Blocks.{PostingFields, Leads, Trail}
use Rattle.worm_device.specs.Counts.{Rose}
use Rattle.worm_device.specs.Views.{ViewState, Viewed}
use Rattle.worm_device.specs.declared.device.Failed.{Failed}
use Rattle.jump_block.specs.Keeping.{AreFrontsKept}
use Rattle.jump_block.specs.KeptRows.{IsRowKept}
use Rattle.jump_block.specs.Pointing.{HasFull, HasKeyIn, HasPointer}
use Rattle.jump_block.specs.Spans.{IsSpan}
use Rattle.jump_block.specs.declared.held_entry.Entry.{Entry}
use Rattle.jump_index.specs.Searches.{FindEntryEnds}
use Rattle.jump_index.specs.declared.bounds.Bounds.{Bounds}
use Rattle.jump_index.specs.declared.kept_hops.KeptHop.{KeptHop}
use Rattle.jump_index.specs.declared.kept_hops.KeptHops.{KeptHops}
use Rattle.jump_index.specs.declared.kept_hops.Reached.{Reached}
use Rattle.jump_index.specs.declared.kept_search.KeptSearch.{KeptSearch}

-- the hop stands: its block is full, and the pointer of its span leads to its target
pub record IsHopKept (image : Image) (hop : KeptHop) : Type 0 where
  pub span : IsSpan hop.greatest hop.span
  pub full : HasFull image hop.block hop.greatest
  pub jump : HasPointer image hop.block hop.span.level hop.span.digit hop.target

-- each of them stands
pub record AreHopsKept (image : Image) (hops : KeptHops) : Type 0 where
  pub each : (i : ℕ) (hop : KeptHop) → slice_get hops.held i ≡ Some (Some hop) → IsHopKept image hop

-- all that is kept stands
pub record IsSearchKept (image : Image) (kept : KeptSearch) : Type 0 where
  pub fronts : AreFrontsKept image kept.fronts
  pub row : IsRowKept image kept.row
  pub hops : AreHopsKept image kept.hops

-- The walks of the keys from x up to the bound lead from a list's first block to this one: a posting with such a key has
-- a trail from the first block, if it has one from here, and only then.
pub record IsWay (bounds : Bounds) (image : Image) (head x block low bound : ℕ) : Type 0 where
  pub leads : Leads image bounds.pool bounds.edge block head
  pub down : (cells at : ℕ) (p : PostingFields) → Trail image bounds.pool cells at p head → x ≤ p.key
      → p.key < bound → Trail image bounds.pool cells at p block
  pub up : (cells at : ℕ) (p : PostingFields) → bounds.edge ≤ cells → HasKeyIn image block low bound → low ≤ p.key
      → p.key < bound → Trail image bounds.pool cells at p block → Trail image bounds.pool cells at p head

-- the hop goes on from the block that was reached
pub record GoesOn (bounds : Bounds) (x : ℕ) (reached : Reached) (hop : KeptHop) : Type 0 where
  pub block : hop.block ≡ reached.block
  pub low : hop.span.low ≤ x
  pub high : x < hop.span.high
  pub within : reached.low ≤ hop.greatest
  pub from : bounds.pool ≤ hop.target
  pub to : hop.target + 256 ≤ bounds.edge

-- kept hops lead from a list's first block to the one that was reached
pub record Reaches (bounds : Bounds) (head x : ℕ) (hops : KeptHops) (reached : Reached) : Type 0 where
  pub levels : reached.level ≤ 8
  pub from : reached.low ≤ x
  pub below : x < reached.bound
  pub inside : (cells : ℕ) → head + 256 ≤ cells → bounds.edge ≤ cells → reached.block + 256 ≤ cells
  pub way : (image : Image) → AreHopsKept image hops
      → IsWay bounds image head x reached.block reached.low reached.bound

-- A look where kept hops lead. What it finds a search finds.
abbrev pub NearEnds : Bounds → ℕ → ℕ → ViewState → ViewState → Result (Option Entry) Failed → Type 0
NearEnds bounds head x old new (Ok (Some e)) = FindEntryEnds bounds head x old new (Ok (Some e))
NearEnds bounds head x old new (Ok None) = ⊤
NearEnds bounds head x old new (Err failed) = Rose old.base.faults new.base.faults

pub record FindsNear (bounds : Bounds) (head x : ℕ) (old new : ViewState) (result : Result (Option Entry) Failed)
    : Type 0 where
  pub viewed : Viewed old new
  pub reads : new.base.reads ≤ old.base.reads + 128
  pub ends : NearEnds bounds head x old new result
