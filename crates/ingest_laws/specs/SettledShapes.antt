-- The lists and the tree of a settled image have their shapes.
use Rattle.std.specs.Prelude.{◌≡◌, ◌<◌, ◌+◌, ℕ, List}
use Rattle.sha2.specs.Sha256.{sha256}
use Rattle.cell_types.specs.Bytes.{AreBytes}
use Rattle.cell_types.specs.declared.record_cell.RecordCell.TheVariants.{Bucket}
use Rattle.volume_meaning.specs.Documents.{Stands}
use Rattle.volume_meaning.specs.HashPaths.{nibble, fingerprint_of}
use Rattle.volume_meaning.specs.Volumes.{Holds, IsWritten}
use Rattle.cell_types.specs.Image.{Image}
use Rattle.cell_types.specs.Layout.{Layout, IsLayout, all_lists, list_at, pool_at}
use Rattle.ingest_laws.specs.ListShapes.{IsWellListed}
use Rattle.volume_meaning.specs.Blocks.{PostingFields, posting_record, Trail}
use Rattle.volume_meaning.specs.Nodes.{IsBlockOf, IsNode, IsOnPath}
use Rattle.tamper_rules.specs.Settling.{IsSettled}
use Rattle.volume_meaning.specs.Slots.{IsEdge}
use Rattle.ingest_laws.specs.TreeShapes.{IsWellRooted}

-- each list of a settled image has its shape, with the edge as the end of its room
abbrev pub SettledListed : Type 0
SettledListed = (g : Layout) (image : Image) (at l : ℕ) → IsLayout g → IsSettled g image
    → IsEdge g image image at → l < all_lists g → IsWellListed image (pool_at g) at (list_at g l)

-- and so has the tree
abbrev pub SettledRooted : Type 0
SettledRooted = (g : Layout) (image : Image) (at : ℕ) → IsLayout g → IsSettled g image
    → IsEdge g image image at → IsWellRooted g image at

-- in a settled image each posting of a list has a trail from the list's first block
abbrev pub SettledTrails : Type 0
SettledTrails =
    (g : Layout) (image : Image) (at l block place : ℕ) (p : PostingFields)
    → IsLayout g → IsSettled g image → IsEdge g image image at
    → IsBlockOf g image l block → place < 128 → Holds image (block + place) (posting_record p)
    → (cell : ℕ) × Trail image (pool_at g) at cell p (list_at g l)

-- each node is reached from the root in one way: the half bytes that lead to it are the same
abbrev pub NodesHaveOneWay : Type 0
NodesHaveOneWay =
    (g : Layout) (image : Image) (to : ℕ) (d e : List ℕ) (v node k : ℕ)
    → IsWellRooted g image to → AreBytes d → AreBytes e → IsOnPath g image d v node → IsOnPath g image e v node
    → k < v → nibble d k ≡ nibble e k

-- each node is at one level
abbrev pub NodesHaveOneLevel : Type 0
NodesHaveOneLevel = (g : Layout) (image : Image) (to u v node : ℕ) → IsWellRooted g image to
    → IsNode g image u node → IsNode g image v node → u ≡ v

-- In a settled image a written bucket at the last level of an identifier's path names a slot whose identifier has the
-- same digest.
abbrev pub LastBucketIsSame : Type 0
LastBucketIsSame =
    (g : Layout) (image : Image) (id : List ℕ) (node : ℕ) → IsLayout g → IsSettled g image
    → IsOnPath g image (sha256 id) 63 node → IsWritten image (node + nibble (sha256 id) 63)
    → (slot : ℕ) × (other : List ℕ) × (body : List ℕ)
    × Holds image (node + nibble (sha256 id) 63) (Bucket slot (fingerprint_of (sha256 other)))
    × Stands g.cells image slot other body × (sha256 other ≡ sha256 id)
