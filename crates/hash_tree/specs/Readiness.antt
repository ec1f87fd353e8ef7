-- What must be so before an entry is inserted.
use Rattle.std.specs.Prelude.{◌≡◌, ◌≢◌, ◌<◌, ◌≤◌, ℕ, Option, Some, None, IsTrue}
use Rattle.cell_types.specs.Image.{Image}
use Rattle.cell_types.specs.Layout.{Layout, root_at, pool_at}
use Rattle.volume_meaning.specs.HashPaths.{Sought, IsPassed, PassedTo}
use Rattle.hash_tree.specs.Levels.{IsLedByChild, IsNodeWithin, bucket_at, node_of}
use Rattle.hash_tree.specs.Steps.{IsOpenOf}
use Rattle.hash_tree.specs.declared.level.Level.{Level}
use Rattle.hash_tree.specs.declared.path.Open.{Open}
use Rattle.worm_device.specs.Views.{ViewState}
use Rattle.worm_device.specs.declared.owner.Owner.{Owner}

-- whom cells are for that are planned in a node of the tree
abbrev pub owner_in : Layout → ℕ → Owner
owner_in g node = record { head = root_at g; base = node }

-- the cell of a place that a path found blank: the child cell where it names one, and else the bucket
abbrev pub blank_in : ℕ → Option ℕ → ℕ
blank_in bucket None = bucket
blank_in bucket (Some child) = child

abbrev pub blank_of : Open → ℕ
blank_of place = blank_in place.bucket place.child

-- the path from the root down to the place is passed in the image, and so is the bucket above a child cell
abbrev pub PassedDown : Layout → Image → Sought → Level → Option ℕ → Type 0
PassedDown g image s level None = PassedTo image s (root_at g) (node_of g level) level.number
PassedDown g image s level (Some child) =
    PassedTo image s (root_at g) (node_of g level) level.number × IsPassed image s (bucket_at g level)

-- how many cells an entry there takes: one of the journal for each cell that is planned, and a new node
abbrev pub cost_in : Option ℕ → ℕ
cost_in None = 1
cost_in (Some child) = 34

abbrev pub cost_of : Open → ℕ
cost_of place = cost_in place.child

-- A path ends at this place of the level's node, and what may be planned there: the node lies before the cells that are
-- free, nothing is planned in these, and the place's blank cell is not planned for the node itself, nor for anybody
-- where the node is the root. The child cell that led to the node stands below what is planned.
pub record IsReadyPlace (g : Layout) (level : Level) (place : Open) (next : ℕ) (view : ViewState) : Type 0 where
  pub number : level.number < 64
  pub open_at : IsOpenOf g level place
  pub from : pool_at g ≤ view.fresh
  pub fresh : view.fresh ≤ next
  pub within : IsNodeWithin g view.fresh level.led_by
  pub beyond : (cell : ℕ) → next ≤ cell → view.planned cell ≡ None
  pub of_root : level.led_by ≡ None → view.planned (blank_of place) ≡ None
  pub of_others : view.owners (blank_of place) ≢ Some (owner_in g (node_of g level))
  pub led : IsTrue view.base.tells → IsLedByChild view.lower level.led_by
