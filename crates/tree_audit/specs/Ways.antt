-- Child cells as ways between nodes, by the places of these in the row of all of them.
use Rattle.std.specs.Prelude.{◌≡◌, ◌<◌, ◌≤◌, ◌/◌, ◌%◌, ◌↔◌, ℕ, List, length, slice_get, Some, Contains}
use Rattle.tree_audit.specs.ChildCells.{IsChildPlace}
use Rattle.tree_audit.specs.declared.child_cells.TheConstants.{TARGET_STEP}
use Rattle.tree_audit.specs.declared.ways.Way.{Way}

-- the way begins at this place, among others
abbrev pub BeginsAt : Way → ℕ → Type 0
BeginsAt way place = (way.first ≤ place) × (place < way.behind)

-- the way is that of the child cell with this number: it begins at each node that has the cell, and ends where that leads
pub record IsWayOf (nodes : List ℕ) (lead : ℕ) (way : Way) : Type 0 where
  pub inside : way.behind ≤ length nodes
  pub each : (place node : ℕ) → slice_get nodes place ≡ Some node → BeginsAt way place ↔ IsChildPlace node (lead % TARGET_STEP)
  pub target : slice_get nodes way.target ≡ Some (lead / TARGET_STEP)

-- it is that of one of these child cells
pub record IsWayAmong (nodes leads : List ℕ) (way : Way) : Type 0 where
  pub place : ℕ
  pub lead : ℕ
  pub there : slice_get leads place ≡ Some lead
  pub is : IsWayOf nodes lead way

-- that of this child cell is one of these ways
pub record HasWay (nodes : List ℕ) (ways : List Way) (lead : ℕ) : Type 0 where
  pub place : ℕ
  pub way : Way
  pub there : slice_get ways place ≡ Some way
  pub is : IsWayOf nodes lead way

-- the ways are those of these child cells, and each that leads to one of the nodes has its own
pub record AreWays (nodes leads : List ℕ) (ways : List Way) : Type 0 where
  pub each : (k : ℕ) (way : Way) → slice_get ways k ≡ Some way → IsWayAmong nodes leads way
  pub all : (k lead : ℕ) → slice_get leads k ≡ Some lead → Contains nodes (lead / TARGET_STEP) → HasWay nodes ways lead
