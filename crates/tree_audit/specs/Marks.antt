-- Which nodes a level has, by marks in the row of all of them, and how those of the next level follow.
use Rattle.std.specs.Prelude.{◌≡◌, ◌<◌, ◌≤◌, ◌+◌, ◌↔◌, ℕ, Bool, true, false, List, length, slice_get, slice_index, slice_index_or, Some}
use Rattle.cell_types.specs.Image.{Image}
use Rattle.cell_types.specs.Layout.{Layout}
use Rattle.volume_meaning.specs.Nodes.{IsNode}
use Rattle.tree_audit.specs.Ways.{BeginsAt}
use Rattle.tree_audit.specs.declared.ways.Way.{Way}

-- what stands at this place is marked; behind the row nothing is
abbrev pub IsMarked : List Bool → ℕ → Type 0
IsMarked marks place = slice_index_or marks place false ≡ true

-- of these nodes just those of the level are marked
pub record AreMarked (g : Layout) (image : Image) (level : ℕ) (nodes : List ℕ) (marks : List Bool) : Type 0 where
  pub count : length marks ≡ length nodes
  pub each : (place node : ℕ) → slice_get nodes place ≡ Some node → IsMarked marks place ↔ IsNode g image level node

-- the number is that of the place behind the last marked one of the first n, or 0 where none of them is marked
pub record IsBehindLast (marks : List Bool) (n behind : ℕ) : Type 0 where
  pub inside : behind ≤ n
  pub last : (before : ℕ) → behind ≡ before + 1 → IsMarked marks before
  pub none : (place : ℕ) → behind ≤ place → place < n → IsMarked marks place → ⊥

-- there is one for each n, up to the length of the row
pub record AreBehindLast (marks : List Bool) (behind : List ℕ) : Type 0 where
  pub count : length behind ≡ length marks + 1
  pub each : (n : ℕ) → n ≤ length marks → IsBehindLast marks n (slice_index behind n)

-- the ways begin and end among so many nodes
abbrev pub AreAmong : List Way → ℕ → Type 0
AreAmong ways count = (k : ℕ) (way : Way) → slice_get ways k ≡ Some way → (way.behind ≤ count) × (way.target < count)

-- one of the ways leads to this place from a marked one
pub record IsLedTo (ways : List Way) (marks : List Bool) (place : ℕ) : Type 0 where
  pub index : ℕ
  pub way : Way
  pub there : slice_get ways index ≡ Some way
  pub leads : way.target ≡ place
  pub above : ℕ
  pub begins : BeginsAt way above
  pub marked : IsMarked marks above

-- the places that are marked under these are just those
pub record AreMarkedUnder (ways : List Way) (marks under : List Bool) : Type 0 where
  pub count : length under ≡ length marks
  pub each : (place : ℕ) → IsMarked under place ↔ IsLedTo ways marks place
