-- The nodes of a volume's tree of identifiers, found level after level.
use Rattle.std.specs.Prelude.{◌≡◌, ◌<◌, ◌≤◌, ◌+◌, ◌↔◌, ◌⊎◌, ℕ, List, length, slice_index, true, Contains}
use Rattle.std.specs.BTreeSet.{BTreeSet, contains}
use Rattle.std.specs.Ordering.{nat_cmp}
use Rattle.std.specs.List.Sorted.{IsStrictlyIncreasing}
use Rattle.cell_types.specs.Image.{Image}
use Rattle.cell_types.specs.Layout.{Layout}
use Rattle.volume_meaning.specs.Nodes.{IsNode}
use Rattle.volume_meaning.specs.declared.nodes.TheConstants.{NODE_BUCKETS, NODE_CELLS}
use Rattle.tree_audit.specs.ChildCells.{HasChildInPool, IsLeadOf}
use Rattle.tree_audit.specs.Marks.{AreMarked}
use Rattle.tree_audit.specs.Numbers.{AreAll}
use Rattle.tree_audit.specs.declared.nodes.TheConstants.{LAST_LEVEL}
use Rattle.tree_audit.specs.declared.nodes.TreeNodes.{TreeNodes}

-- a child cell of the node leads there, one of those before this place
pub record IsTarget (g : Layout) (image : Image) (node below target : ℕ) : Type 0 where
  pub place : ℕ
  pub from : NODE_BUCKETS ≤ place
  pub to : place < below
  pub leads : HasChildInPool g image (node + place) target

-- to a row of numbers the targets of the node's child cells before this place were added
pub record AddsChildTargets (g : Layout) (image : Image) (node below : ℕ) (old new : List ℕ) : Type 0 where
  pub each : (target : ℕ) → Contains new target ↔ (Contains old target ⊎ IsTarget g image node below target)

-- a child cell of one of the first n of these nodes leads there
pub record IsUnder (g : Layout) (image : Image) (row : List ℕ) (n target : ℕ) : Type 0 where
  pub index : ℕ
  pub first : index < n
  pub inside : index < length row
  pub target_of : IsTarget g image (slice_index row index) NODE_CELLS target

-- these are the targets of the child cells of a row of nodes, each once, by rising numbers
pub record AreUnder (g : Layout) (image : Image) (row under : List ℕ) : Type 0 where
  pub rising : IsStrictlyIncreasing under
  pub each : (target : ℕ) → Contains under target ↔ IsUnder g image row (length row) target

-- these nodes lie on the device
abbrev pub AreNodesInside : Layout → List ℕ → Type 0
AreNodesInside g row = (index : ℕ) → index < length row → slice_index row index + NODE_CELLS ≤ g.cells

-- these are the nodes of a level, each once, by rising numbers
pub record AreOnLevel (g : Layout) (image : Image) (level : ℕ) (row : List ℕ) : Type 0 where
  pub rising : IsStrictlyIncreasing row
  pub each : (index : ℕ) → index < length row → IsNode g image level (slice_index row index)
  pub all : (node : ℕ) → IsNode g image level node → Contains row node

-- the node is one of some level
abbrev pub IsSomeNode : Layout → Image → ℕ → Type 0
IsSomeNode g image node = (level : ℕ) × IsNode g image level node

-- new has the numbers of old and those of the row; the fresh ones are of the row, all that old has not
pub record AddsRow (row : List ℕ) (old new : BTreeSet ℕ) (fresh : List ℕ) : Type 0 where
  pub each : (x : ℕ) → (contains nat_cmp new x ≡ true) ↔ ((contains nat_cmp old x ≡ true) ⊎ Contains row x)
  pub fresh_is : (x : ℕ) → Contains fresh x → Contains row x
  pub rest : (x : ℕ) → Contains row x → Contains fresh x ⊎ (contains nat_cmp old x ≡ true)

-- These are the nodes of the tree, which of them the last level has, and the numbers of the child cells that lead to one.
pub record AreNodes (g : Layout) (image : Image) (tree : TreeNodes) : Type 0 where
  pub nodes : AreAll (IsSomeNode g image) tree.nodes.items
  pub last : AreMarked g image LAST_LEVEL tree.nodes.items tree.on_last.items
  pub leads : AreAll (λ x. (node : ℕ) × IsSomeNode g image node × IsLeadOf g image node NODE_CELLS x) tree.leads.items
