-- What an entry adds to the tree, and that the tree keeps its shape.
use Rattle.std.specs.Prelude.{◌≡◌, ◌<◌, ◌≤◌, ◌+◌, ◌⊎◌, ℕ, Some, None}
use Rattle.cell_types.specs.Image.{Image}
use Rattle.cell_types.specs.Layout.{Layout}
use Rattle.cell_types.specs.declared.record_cell.RecordCell.TheVariants.{Bucket, Child}
use Rattle.volume_meaning.specs.Volumes.{Holds, IsWritten}
use Rattle.volume_meaning.specs.HashPaths.{fingerprint_of, nibble}
use Rattle.volume_meaning.specs.Nodes.{IsNode, IsOnPath}
use Rattle.ingest_laws.specs.ListShapes.{AddsOneCell}
use Rattle.ingest_laws.specs.TreeShapes.{IsWellRooted}
use Rattle.hash_tree.specs.Levels.{bucket_at, child_at, node_of}
use Rattle.hash_tree.specs.declared.level.Level.{Level}
use Rattle.hash_tree.specs.declared.path.Open.{Open}
use Rattle.hash_tree.specs.Readiness.{blank_of, cost_of}

-- The tree is well shaped, the level's node is one of its, and the place is blank; above a child cell the bucket is
-- written, and there is room for one node more.
pub record IsRootedBefore (g : Layout) (level : Level) (place : Open) (next : ℕ) (image : Image) : Type 0 where
  pub rooted : IsWellRooted g image next
  pub node : IsNode g image level.number (node_of g level)
  pub blank : image (blank_of place) ≡ None
  pub bucket : (child : ℕ) → place.child ≡ Some child → IsWritten image place.bucket
  pub room : (child : ℕ) → place.child ≡ Some child → next + 32 ≤ g.cells

-- What an entry adds to an image, and costs: one cell of the journal for each cell that is planned, and the cells that
-- the pool gave.
pub data TreeGrows (g : Layout) (level : Level) (slot next to : ℕ) (old new : Image) (cost : ℕ) : Type 0 where
  in_bucket : AddsOneCell (bucket_at g level) old new
      → Holds new (bucket_at g level) (Bucket slot (fingerprint_of level.digest)) → to ≡ next → cost ≡ 1
      → TreeGrows g level slot next to old new cost
  in_new_node : (mid : Image) → level.number < 63 → AddsOneCell (child_at g level) old mid
      → Holds new (child_at g level) (Child next)
      → AddsOneCell (next + nibble level.digest (level.number + 1)) mid new
      → Holds new (next + nibble level.digest (level.number + 1)) (Bucket slot (fingerprint_of level.digest))
      → to ≡ next + 32 → cost ≡ 34 → TreeGrows g level slot next to old new cost

-- The bucket is this slot's by the level's digest, and on the digest's path if the level's node was.
pub record IsNewBucket (g : Layout) (level : Level) (slot : ℕ) (old new : Image) (v node x : ℕ) : Type 0 where
  pub holds : Holds new (node + x) (Bucket slot (fingerprint_of level.digest))
  pub half_byte : x ≡ nibble level.digest v
  pub on_path : IsOnPath g old level.digest level.number (node_of g level) → IsOnPath g new level.digest v node

-- The tree is well shaped with the entry. A node was one before or is the new one, a new child cell leads to the new
-- node, and a new bucket is the entry.
pub record IsRooted (g : Layout) (level : Level) (place : Open) (slot next to : ℕ) (old new : Image) : Type 0 where
  pub rooted : IsWellRooted g new to
  pub grows : TreeGrows g level slot next to old new (cost_of place)
  pub nodes : (v node : ℕ) → IsNode g new v node → IsNode g old v node ⊎ (node ≡ next)
  pub new_children : (v node x target : ℕ) → IsNode g new v node → x < 16 → old (node + 16 + x) ≡ None
      → Holds new (node + 16 + x) (Child target) → target ≡ next
  pub new_buckets : (v node x : ℕ) → IsNode g new v node → x < 16 → old (node + x) ≡ None → IsWritten new (node + x)
      → IsNewBucket g level slot old new v node x
