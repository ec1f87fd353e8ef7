-- The shape of the hash tree: what its own nodes keep of the rules of nodes, and how it stays kept when a bucket is
-- written or a node is added.
use Rattle.std.specs.Prelude.{◌≡◌, ◌<◌, ◌≤◌, ◌+◌, ◌⊎◌, ℕ, None}
use Rattle.cell_types.specs.Image.{Image, Extends}
use Rattle.cell_types.specs.Layout.{Layout, pool_at}
use Rattle.cell_types.specs.declared.record_cell.RecordCell.TheVariants.{Child}
use Rattle.ingest_laws.specs.ListShapes.{AddsOneCell}
use Rattle.volume_meaning.specs.Nodes.{IsNode, AreApart}
use Rattle.volume_meaning.specs.Volumes.{Holds, IsWritten}

-- A child cell leads well within the tree: its bucket is written, its node is at a level below 63, and the target's
-- cells lie in the pool up to here.
pub record ChildWell (g : Layout) (image : Image) (to v node x : ℕ) : Type 0 where
  pub target : ℕ
  pub child : Holds image (node + 16 + x) (Child target)
  pub bucket : IsWritten image (node + x)
  pub level : v < 63
  pub from : pool_at g ≤ target
  pub inside : target + 32 ≤ to

-- In the nodes of the tree child cells lead well, no two of them have the same target, and no two nodes meet.
pub record IsWellRooted (g : Layout) (image : Image) (to : ℕ) : Type 0 where
  pub room : to ≤ g.cells
  pub children : (v node x : ℕ) → IsNode g image v node → x < 16 → IsWritten image (node + 16 + x)
      → ChildWell g image to v node x
  pub once : (v node x w other y target : ℕ) → IsNode g image v node → x < 16 → IsNode g image w other → y < 16
      → Holds image (node + 16 + x) (Child target) → Holds image (other + 16 + y) (Child target)
      → node + 16 + x ≡ other + 16 + y
  pub apart : (v node w other : ℕ) → IsNode g image v node → IsNode g image w other
      → (node ≡ other) ⊎ AreApart node 32 other 32

-- more room leaves the tree as it was
abbrev pub RootedWider : Type 0
RootedWider =
    (g : Layout) (image : Image) (to wider : ℕ) → to ≤ wider → wider ≤ g.cells → IsWellRooted g image to
    → IsWellRooted g image wider

-- what is written outside the child cells of its nodes leaves the tree as it was: buckets, and all other cells
abbrev pub RootedApart : Type 0
RootedApart =
    (g : Layout) (old new : Image) (to : ℕ) → IsWellRooted g old to → Extends old new
    → ((v node x : ℕ) → IsNode g old v node → x < 16 → new (node + 16 + x) ≡ old (node + 16 + x))
    → IsWellRooted g new to

-- A child cell is set, whose bucket is written, in a node at a level below 63, to a new node: cells that meet no node,
-- with blank child cells.
abbrev pub RootedWithChild : Type 0
RootedWithChild =
    (g : Layout) (old new : Image) (to v node x target : ℕ)
    → IsWellRooted g old to → IsNode g old v node → x < 16 → v < 63
    → AddsOneCell (node + 16 + x) old new → Holds new (node + 16 + x) (Child target) → IsWritten old (node + x)
    → to ≤ target → pool_at g ≤ to → target + 32 ≤ g.cells
    → ((y : ℕ) → y < 16 → old (target + 16 + y) ≡ None)
    → IsWellRooted g new (target + 32)
