-- What must be so before an index is planned: of the place where a path ends, of the postings, and of the pool.
use Rattle.std.specs.Prelude.{◌≡◌, ◌<◌, ◌≤◌, ◌+◌, ◌*◌, ◌%◌, ℕ, Bool, List, length, Option, None, IsTrue}
use Rattle.cell_types.specs.Image.{Image}
use Rattle.cell_types.specs.Layout.{Layout, all_lists, list_at, pool_at}
use Rattle.cell_types.specs.declared.geometry.TheConstants.{MAX_SLOTS}
use Rattle.cell_pool.specs.Grants.{free_cells}
use Rattle.cell_pool.specs.declared.pool.Pool.{Pool}
use Rattle.hash_tree.specs.Levels.{IsLedByChild, IsNodeWithin}
use Rattle.hash_tree.specs.Steps.{IsOpenOf}
use Rattle.jump_insertion.specs.Readiness.{IsReadyList}
use Rattle.term_tags.specs.Listing.{MayHaveStamp}
use Rattle.volume_meaning.specs.Postings.{ListedPosting}
use Rattle.worm_device.specs.State.{DeviceState}
use Rattle.worm_device.specs.Views.{ViewState}
use Rattle.ingest_plan.specs.Rows.{AreInOrder, AreUntouched}
use Rattle.ingest_plan.specs.declared.place.IndexPlace.{IndexPlace}
use Rattle.ingest_plan.specs.declared.place.PathEnd.{PathEnd}

-- A path of the tree ends here, where slots reserve cells up to the edge.
pub record IsPathEnd (g : Layout) (edge : ℕ) (end : PathEnd) (tells : Bool) (image : Image) : Type 0 where
  -- a path has 64 levels
  pub number : end.level.number < 64
  -- the place is one of the level's node
  pub open_at : IsOpenOf g end.level end.place
  -- the node is the root, or lies in the pool before the edge
  pub within : IsNodeWithin g edge end.level.led_by
  -- the child cell that led to it stands, where the image is told
  pub led : IsTrue tells → IsLedByChild image end.level.led_by

-- A posting may be inserted into its list.
pub record IsReadyPosting (g : Layout) (row : ListedPosting) (pool : Pool) (s : ViewState) : Type 0 where
  -- its list is one of the volume
  pub list : row.list < all_lists g
  -- it is a posting that a cell holds
  pub key : row.posting.key % 256 ≤ row.posting.last
  -- what stands below reaches the pool's start at least
  pub floor : pool_at g ≤ s.fresh
  -- and ends before the free cells
  pub fresh : s.fresh ≤ pool.next
  -- there is room for a block
  pub room : 256 ≤ free_cells pool
  -- no free cell is planned
  pub free : (cell : ℕ) → pool.next ≤ cell → s.planned cell ≡ None
  -- what is planned for its list was planned by insertions of smaller keys
  pub ready : IsTrue s.base.tells → IsReadyList s (list_at g row.list) (pool_at g) pool.next row.posting.key

-- The postings of a document may be inserted, each into its list.
pub record IsReadyRow (g : Layout) (rows : List ListedPosting) (pool : Pool) (s : ViewState) : Type 0 where
  -- they come by list and key
  pub order : AreInOrder g rows
  -- what stands below reaches the pool's start at least
  pub floor : pool_at g ≤ s.fresh
  -- and ends before the free cells
  pub fresh : s.fresh ≤ pool.next
  -- there is room for a block for each of them
  pub room : 256 * length rows ≤ free_cells pool
  -- no free cell is planned
  pub free : (cell : ℕ) → pool.next ≤ cell → s.planned cell ≡ None
  -- and none of a list
  pub untouched : IsTrue s.base.tells → AreUntouched g s

-- The whole index of the document of slot n may be planned: its postings, and its bucket at the end of a path.
pub record IsReadyIndex (g : Layout) (n : ℕ) (rows : List ListedPosting) (end : PathEnd) (pool : Pool) (s : ViewState)
    : Type 0 where
  -- the slot is one that a volume may have
  pub slot : n < MAX_SLOTS
  -- the postings come by list and key
  pub order : AreInOrder g rows
  -- what stands below reaches the pool's start at least
  pub floor : pool_at g ≤ s.fresh
  -- and ends before the free cells
  pub fresh : s.fresh ≤ pool.next
  -- there is room for a block for each posting, and for a node
  pub room : 256 * length rows + 32 ≤ free_cells pool
  -- nothing is planned yet
  pub nothing : (cell : ℕ) → s.planned cell ≡ None
  -- the path of its identifier ends there
  pub path : IsPathEnd g s.fresh end s.base.tells s.lower

-- A document's index may be planned over a view, from the edge on.
pub record IsReadyOver (g : Layout) (index : IndexPlace) (s : ViewState) : Type 0 where
  -- the slot is one that a volume may have
  pub slot : index.slot < MAX_SLOTS
  -- the edge is the pool's start at least
  pub from : pool_at g ≤ index.edge
  -- and the volume's end at most
  pub to : index.edge ≤ g.cells
  -- what stands below ends there
  pub fresh : s.fresh ≡ index.edge
  -- nothing is planned yet
  pub nothing : (cell : ℕ) → s.planned cell ≡ None
  -- the path of the document's identifier ends at its place
  pub path : IsPathEnd g index.edge index.end s.base.tells s.lower

-- The index of a document with this stamp may be planned over a device, where slots reserve cells up to its edge.
pub record IsReadyDevice (g : Layout) (index : IndexPlace) (stamp : Option ℕ) (s : DeviceState) : Type 0 where
  -- the slot is one that a volume may have
  pub slot : index.slot < MAX_SLOTS
  -- the stamp is one that a volume of the version may have
  pub stamped : MayHaveStamp g stamp
  -- the device has the volume's cells
  pub size : g.cells ≤ s.cells
  -- the edge is the pool's start at least
  pub from : pool_at g ≤ index.edge
  -- and the volume's end at most
  pub to : index.edge ≤ g.cells
  -- the path of the document's identifier ends at its place
  pub path : IsPathEnd g index.edge index.end s.tells s.image
