-- Where the parts of a volume lie: the volume cell, three cells that stay blank, four cells for each
-- slot, 256 cells for each list's first block, 32 cells for the root node, 256 cells for the first block of the time
-- list where the version has one, and the pool to the end.
use Rattle.std.specs.Prelude.{◌≡◌, ◌<◌, ◌≤◌, ◌+◌, ◌-◌, ◌*◌, min, ℕ}
use Rattle.cell_types.specs.declared.geometry.TheConstants.{MAX_SLOTS, MAX_LISTS, MAX_CELLS, FIRST_VERSION, FOLDED_VERSION, NEWEST_VERSION, STAMPED_VERSION}

-- the numbers of slots and lists of a volume, of the cells of its device, and of its version
pub record Layout : Type 0 where
  pub slots : ℕ
  pub lists : ℕ
  pub cells : ℕ
  pub version : ℕ

-- each document of such a volume has a stamp
abbrev pub TakesStamps : Layout → Type 0
TakesStamps g = g.version ≡ STAMPED_VERSION

-- the volume is of an older version, whose documents have none
abbrev pub TakesNoStamps : Layout → Type 0
TakesNoStamps g = g.version < STAMPED_VERSION

-- the four cells of slot n
abbrev pub reserve_at : ℕ → ℕ
reserve_at n = 4 + 4 * n

abbrev pub outcome_at : ℕ → ℕ
outcome_at n = 5 + 4 * n

abbrev pub done_at : ℕ → ℕ
done_at n = 6 + 4 * n

abbrev pub spare_at : ℕ → ℕ
spare_at n = 7 + 4 * n

-- how many time lists a volume has: one from version 3 on, and none before
abbrev pub time_lists : Layout → ℕ
time_lists g = min 1 (g.version - FOLDED_VERSION)

-- how many lists it has with that one, which is the last
abbrev pub all_lists : Layout → ℕ
all_lists g = g.lists + time_lists g

-- where the lists begin
abbrev pub lists_at : Layout → ℕ
lists_at g = 4 + 4 * g.slots

-- where the first block of list l begins: the lists of words stand in a row, and the time list behind them and behind
-- the 32 cells of the root node
abbrev pub list_at : Layout → ℕ → ℕ
list_at g l = 4 + 4 * g.slots + 256 * l + 32 * (l + 1 - g.lists)

-- where the root node begins
abbrev pub root_at : Layout → ℕ
root_at g = 4 + 4 * g.slots + 256 * g.lists

-- where the pool begins
abbrev pub pool_at : Layout → ℕ
pool_at g = 36 + 4 * g.slots + 256 * all_lists g

-- a volume may have these numbers
pub record IsLayout (g : Layout) : Type 0 where
  pub some_slots : 1 ≤ g.slots
  pub slots : g.slots ≤ MAX_SLOTS
  pub some_lists : 1 ≤ g.lists
  pub lists : g.lists ≤ MAX_LISTS
  pub cells : g.cells ≤ MAX_CELLS
  pub some_version : FIRST_VERSION ≤ g.version
  pub version : g.version ≤ NEWEST_VERSION
  pub pool : pool_at g ≤ g.cells

-- the parts of a volume
pub data Part : Type 0 where
  VolumeCell : Part
  BlankCells : Part
  Slot : ℕ → Part
  FirstBlock : ℕ → Part
  Root : Part
  Pool : Part

-- there is such a part
abbrev pub IsPart : Layout → Part → Type 0
IsPart g VolumeCell = Unit {0}
IsPart g BlankCells = Unit {0}
IsPart g (Slot n) = n < g.slots
IsPart g (FirstBlock l) = l < all_lists g
IsPart g Root = Unit {0}
IsPart g Pool = Unit {0}

-- the number of a part's first cell
abbrev pub first_cell : Layout → Part → ℕ
first_cell g VolumeCell = 0
first_cell g BlankCells = 1
first_cell g (Slot n) = reserve_at n
first_cell g (FirstBlock l) = list_at g l
first_cell g Root = root_at g
first_cell g Pool = pool_at g

-- how many cells a part has
abbrev pub cell_count : Layout → Part → ℕ
cell_count g VolumeCell = 1
cell_count g BlankCells = 3
cell_count g (Slot n) = 4
cell_count g (FirstBlock l) = 256
cell_count g Root = 32
cell_count g Pool = g.cells - pool_at g

-- the cell is one of this part
pub record LiesIn (g : Layout) (part : Part) (cell : ℕ) : Type 0 where
  pub exists : IsPart g part
  pub from : first_cell g part ≤ cell
  pub below : cell < first_cell g part + cell_count g part

-- no cell lies in two parts
abbrev pub PartsAreApart : Type 0
PartsAreApart =
    (g : Layout) → IsLayout g → (p q : Part) (cell : ℕ) → LiesIn g p cell → LiesIn g q cell → p ≡ q

-- the parts have each cell of the device and no other
abbrev pub PartsCoverTheDevice : Type 0
PartsCoverTheDevice =
    (g : Layout) → IsLayout g
    → ((cell : ℕ) → cell < g.cells → (part : Part) × LiesIn g part cell)
    × ((part : Part) (cell : ℕ) → LiesIn g part cell → cell < g.cells)
