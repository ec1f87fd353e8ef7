-- What is known of kept cells, and what a view shows by way of them.
use Rattle.std.specs.Prelude.{◌≡◌, ◌⊎◌, ◌+◌, ◌/◌, ◌%◌, ℕ, List, [], ◌∷◌, Option, Some, None, IsTrue, Contains, if◌then◌else◌, nat_eq, replicate, slice_get}
use Rattle.std.specs.Map.{lookup}
use Rattle.std.proofs.Props.{props}
use Rattle.lru.specs.LruCache.{lru_cache}
use Rattle.worm_device.specs.Views.{IsView, ViewState}
use Rattle.read_cache.specs.declared.cell_cache.CellCache.{CellCache}
use Rattle.read_cache.specs.declared.recent.Recent.{Recent}

-- how many cells there is memory for
abbrev pub most_kept : CellCache → ℕ
most_kept cache = cache.places + cache.cells.cap

-- the place of a cell that was read lately
abbrev pub place_of : ℕ → ℕ
place_of at = (at % 256 + at / 256) % 128

-- what a place has under a number
abbrev pub held_cell : ℕ → Recent → Option (List ℕ)
held_cell at held = if nat_eq held.at at then held.cell else None

-- the same of a place that may be there
abbrev pub cell_at : ℕ → Option Recent → Option (List ℕ)
cell_at at None = None
cell_at at (Some held) = held_cell at held

-- the cell of a number among those that were read lately
abbrev pub recent_in : List Recent → ℕ → Option (List ℕ)
recent_in recent at = cell_at at (slice_get recent (place_of at))

-- the first of two, or the other where there is none
abbrev pub or_else : Option (List ℕ) → Option (List ℕ) → Option (List ℕ)
or_else None other = other
or_else (Some cell) other = Some cell

-- the kept cell of a number
abbrev pub kept_in : CellCache → ℕ → Option (List ℕ)
kept_in cache at = or_else (recent_in cache.recent at) (lookup (nat_eq at) cache.cells.entries)

-- a place with no cell yet
abbrev pub no_cell : Recent
no_cell = record { at = 0; cell = None; asked = 0 }

-- the same memory with no cell
abbrev pub forgotten : CellCache → CellCache
forgotten cache = record {
  places = cache.places;
  recent = replicate 128 no_cell;
  cells = lru_cache [] cache.cells.cap;
}

-- a place has this cell under this number
pub record HasRecent (recent : List Recent) (at : ℕ) (cell : List ℕ) : Type 0 where
  pub place : ℕ
  pub held : Recent
  pub there : slice_get recent place ≡ Some held
  pub number_is : held.at ≡ at
  pub cell_is : held.cell ≡ Some cell

-- this cell is kept under this number
abbrev pub HasKept : CellCache → ℕ → List ℕ → Type 0
HasKept cache at cell = HasRecent cache.recent at cell ⊎ Contains cache.cells.entries (at, cell)

-- where the device at the bottom tells its image, each kept cell is one that the view shows
abbrev pub KeepsCells : ViewState → CellCache → Type 0
KeepsCells s cache =
    IsTrue s.base.tells → (at : ℕ) (cell : List ℕ) → HasKept cache at cell → s.image at ≡ Some cell

-- a holder carries a fact of which there is one proof at most
pub keeps_cells_prop : (s : ViewState) (cache : CellCache) → IsProp (KeepsCells s cache)
keeps_cells_prop s cache = Prim.hlevel props

-- no cell is there behind the places that was not
abbrev pub HasNoOtherEntry : List (ℕ × List ℕ) → List (ℕ × List ℕ) → Type 0
HasNoOtherEntry old new = (at : ℕ) (cell : List ℕ) → Contains new (at, cell) → Contains old (at, cell)

-- no cell is there behind the places that was not, but this one under this number
abbrev pub PutsEntry : ℕ → List ℕ → List (ℕ × List ℕ) → List (ℕ × List ℕ) → Type 0
PutsEntry at value old new =
    (cell : ℕ) (found : List ℕ) → Contains new (cell, found)
    → Contains old (cell, found) ⊎ ((cell ≡ at) × (found ≡ value))

-- nothing is kept that was not
abbrev pub HasNoOther : CellCache → CellCache → Type 0
HasNoOther old new = (at : ℕ) (cell : List ℕ) → HasKept new at cell → HasKept old at cell

-- nothing is kept that was not, but this cell under this number
abbrev pub KeepsOneMore : ℕ → List ℕ → CellCache → CellCache → Type 0
KeepsOneMore at value old new =
    (cell : ℕ) (found : List ℕ) → HasKept new cell found
    → HasKept old cell found ⊎ ((cell ≡ at) × (found ≡ value))

-- a view as it is shown by way of a loan of this name
abbrev pub seen_through : ℕ → ViewState → ViewState
seen_through loan s = record {
  cells = s.cells;
  image = s.image;
  planned = s.planned;
  owners = s.owners;
  lower = s.lower;
  fresh = s.fresh;
  base = s.base;
  loans = loan ∷ s.loans;
}

-- It is a view. This stands here and not among the proofs, since the law of `Cached` cites it.
pub through_is_view : (loan : ℕ) (s : ViewState) → IsView s → IsView (seen_through loan s)
through_is_view loan s is = record {
  cells = is.cells;
  inside = is.inside;
  planned = is.planned;
  unowned = is.unowned;
  unplanned = is.unplanned;
  below = is.below;
  beyond = is.beyond;
}
