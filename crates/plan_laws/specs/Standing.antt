-- What a settled volume has for the next document's index, and what that leaves.
use Rattle.std.specs.Prelude.{◌≡◌, ◌<◌, ◌≤◌, ◌*◌, if◌then◌else◌, nat_lt, ℕ, List, Option, Some, None}
use Rattle.cell_types.specs.Bytes.{AreBytes}
use Rattle.cell_types.specs.Image.{Image}
use Rattle.cell_types.specs.Layout.{Layout, IsLayout, list_at, pool_at, all_lists}
use Rattle.volume_meaning.specs.Slots.{IsEdge, IsHorizon}
use Rattle.volume_meaning.specs.Volumes.{IsWritten}
use Rattle.volume_meaning.specs.Blocks.{Leads}
use Rattle.volume_meaning.specs.Nodes.{AreApart, IsNode}
use Rattle.volume_meaning.specs.Postings.{ListedPosting}
use Rattle.tamper_rules.specs.Settling.{IsSettled}
use Rattle.ingest_laws.specs.TreeShapes.{IsWellRooted}
use Rattle.jump_insertion.specs.Evidence.{IsPastStamps}
use Rattle.hash_tree.specs.Levels.{IsLevelReached}
use Rattle.hash_tree.specs.Steps.{IsOpenOf}
use Rattle.hash_tree.specs.declared.level.Level.{Level}
use Rattle.hash_tree.specs.declared.path.Open.{Open}
use Rattle.hash_tree.specs.Readiness.{blank_of}
use Rattle.ingest_plan.specs.Standing.{IndexStands, ListsStand}

-- The tree has its shape, with nodes before this cell, and no node meets a block of a list.
pub record TreeStands (g : Layout) (image : Image) (next : ℕ) : Type 0 where
  pub rooted : IsWellRooted g image next
  pub apart : (v node l block : ℕ) → IsNode g image v node → l < all_lists g
      → Leads image (pool_at g) next block (list_at g l) → AreApart node 32 block 256

-- The lists and the tree stand as they should, with blocks and nodes before this cell and keys below each list's bound.
pub record IndexesStand (g : Layout) (image : Image) (next : ℕ) (bound : ℕ → ℕ) : Type 0 where
  pub lists : ListsStand g image next bound
  pub tree : TreeStands g image next

-- The bounds of the lists below a slot and a stamp: in a list of words no key of an earlier slot is as great, and the
-- keys of the time list are stamps.
abbrev pub below_slot : Layout → ℕ → ℕ → ℕ → ℕ
below_slot g n seconds = λ (l : ℕ). if nat_lt l g.lists then 256 * n else seconds

-- the seconds of a stamp, and 0 for none
abbrev pub seconds_of : Option ℕ → ℕ
seconds_of None = 0
seconds_of (Some seconds) = seconds

-- where there is a time list, the stamp is past those of the done slots below n
abbrev pub HasPastStamps : Layout → Image → ℕ → ℕ → Type 0
HasPastStamps g image n seconds = g.lists < all_lists g → IsPastStamps g image n seconds

-- in a settled image they do, before the edge and with keys of slots below the horizon, and of stamps that are before
-- this
abbrev pub SettledIndexesStand : Type 0
SettledIndexesStand =
    (g : Layout) (image : Image) (edge n : ℕ) → IsLayout g → IsSettled g image → IsEdge g image image edge
    → IsHorizon g image image n → n < g.slots → (seconds : ℕ) → HasPastStamps g image n seconds
    → IndexesStand g image edge (below_slot g n seconds)

-- The place is the end of a path of the image's tree: it is one of the level's node, which is a node of the tree; its
-- blank cell is blank, and a bucket above it is written.
pub record EndsPath (g : Layout) (image : Image) (level : Level) (place : Open) : Type 0 where
  pub digest : AreBytes level.digest
  pub number : level.number < 64
  pub open_at : IsOpenOf g level place
  pub node : IsLevelReached g image level
  pub blank : image (blank_of place) ≡ None
  pub bucket : (child : ℕ) → place.child ≡ Some child → IsWritten image place.bucket

-- where they stand before slot n's index is planned, at the end of a path and within the device, they do so behind it,
-- with keys below the bounds that the index leaves
abbrev pub IndexKeepsStanding : Type 0
IndexKeepsStanding =
    (g : Layout) (n : ℕ) (bound behind : ℕ → ℕ) (rows : List ListedPosting) (level : Level) (place : Open) (from to : ℕ)
    (old new : Image)
    → pool_at g ≤ from → to ≤ g.cells → IndexesStand g old from bound → EndsPath g old level place
    → IndexStands g n behind rows level place from to old new → IndexesStand g new to behind
