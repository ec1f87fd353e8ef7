-- What inserting an entry does.
use Rattle.std.specs.Prelude.{◌≡◌, ◌≢◌, ◌<◌, ◌≤◌, ◌+◌, ℕ, List, Some, None, Result, Ok, Err, IsTrue}
use Rattle.cell_types.specs.Image.{Image, Extends}
use Rattle.cell_types.specs.Layout.{Layout, root_at, pool_at}
use Rattle.cell_types.specs.Records.{IsRecordCell}
use Rattle.cell_types.specs.declared.record_cell.RecordCell.{RecordCell}
use Rattle.cell_types.specs.declared.record_cell.RecordCell.TheVariants.{Bucket, Child}
use Rattle.cell_types.specs.declared.refusal.Evidence.{Evidence}
use Rattle.cell_types.specs.declared.refusal.Fault.TheVariants.{Tampered, Failed}
use Rattle.volume_meaning.specs.Volumes.{IsWritten}
use Rattle.volume_meaning.specs.HashPaths.{Sought, HashTrail, fingerprint_of, nibble}
use Rattle.volume_meaning.specs.Keeping.{sought_in}
use Rattle.tamper_rules.specs.declared.numbers.TheConstants.{LOST_CHILD}
use Rattle.ingest_laws.specs.Needs.{BucketCosts}
use Rattle.worm_device.specs.Overlays.{PlansNoMore}
use Rattle.worm_device.specs.Views.{ViewState}
use Rattle.worm_device.specs.declared.owner.Owner.{Owner}
use Rattle.cell_pool.specs.Grants.{TakesFront}
use Rattle.cell_pool.specs.declared.pool.Pool.{Pool}
use Rattle.cell_pool.specs.Records.{HoldsPlanned}
use Rattle.cell_pool.specs.declared.fault.GrowthFault.{GrowthFault}
use Rattle.cell_pool.specs.declared.fault.GrowthFault.TheVariants.{Fault, NoMemory}
use Rattle.hash_tree.specs.Levels.{bucket_at, child_at, node_of}
use Rattle.hash_tree.specs.declared.level.ChildCell.{ChildCell}
use Rattle.hash_tree.specs.declared.level.Level.{Level}
use Rattle.hash_tree.specs.declared.path.Open.{Open}
use Rattle.hash_tree.specs.Readiness.{PassedDown, blank_of, cost_of, owner_in}
use Rattle.hash_tree.specs.Rooting.{IsRooted, IsRootedBefore}

-- the entry of a slot by a level's digest
abbrev pub entry_of : Level → ℕ → RecordCell
entry_of level slot = Bucket slot (fingerprint_of level.digest)

-- what is shown in a cell, what is planned there and for whom, is as it was
pub record IsAsBefore (old new : ViewState) (cell : ℕ) : Type 0 where
  pub image : new.image cell ≡ old.image cell
  pub planned : new.planned cell ≡ old.planned cell
  pub owners : new.owners cell ≡ old.owners cell

-- What one entry plans, and takes of the pool: its bucket alone, in the level's node; or a child cell of this node, and
-- the bucket in a new node that it leads to.
pub data PlansBucket (g : Layout) (level : Level) (place : Open) (slot at : ℕ) (pool rest : Pool) (old new : ViewState)
    : Type 0 where
  alone : place.child ≡ None → at ≡ bucket_at g level
      → HoldsPlanned at (entry_of level slot) (owner_in g (node_of g level)) old new
      → ((cell : ℕ) → cell ≢ at → IsAsBefore old new cell) → nibble level.digest level.number < 16
      → rest ≡ pool → PlansBucket g level place slot at pool rest old new
  with_node : (child : ℕ) → place.child ≡ Some child → child ≡ child_at g level → level.number < 63
      → HoldsPlanned child (Child pool.next) (owner_in g (node_of g level)) old new
      → at ≡ pool.next + nibble level.digest (level.number + 1)
      → HoldsPlanned at (entry_of level slot) (owner_in g pool.next) old new
      → ((cell : ℕ) → cell ≢ child → cell ≢ at → IsAsBefore old new cell)
      → nibble level.digest level.number < 16 → nibble level.digest (level.number + 1) < 16
      → TakesFront pool rest 32 pool.next → PlansBucket g level place slot at pool rest old new

-- The slot has a hash trail in each image that has every planned cell and in which the path down to the place is
-- passed, for whatever is sought by the level's digest on a device that has the pool's cells up to here.
abbrev pub HasTrailThere : Layout → Level → Open → ℕ → ℕ → Image → Type 0
HasTrailThere g level place slot to planned =
    (image : Image) (s : Sought) → s.digest ≡ level.digest → s.pool ≡ pool_at g → to ≤ s.cells
    → Extends planned image → PassedDown g image s level place.child → HashTrail image s slot (root_at g) 0

-- Where the place was blank, and the path down to it is passed for an identifier with the level's digest, the entry
-- takes what the identifier's bucket needs.
abbrev pub TakesItsNeed : Layout → Level → Open → Image → Type 0
TakesItsNeed g level place image =
    (id : List ℕ) → (sought_in g.cells g id).digest ≡ level.digest → image (blank_of place) ≡ None
    → PassedDown g image (sought_in g.cells g id) level place.child → BucketCosts g image id (cost_of place)

-- The entry is planned, and nothing from the pool's next cell on; the slot has a hash trail; the entry takes what
-- its identifier needs; and a tree that has its shape keeps it.
pub record IsEntryInserted (g : Layout) (level : Level) (place : Open) (slot at : ℕ) (pool rest : Pool)
    (old new : ViewState)
    : Type 0 where
  pub plans : PlansBucket g level place slot at pool rest old new
  pub beyond : (cell : ℕ) → rest.next ≤ cell → new.planned cell ≡ None
  pub trail : HasTrailThere g level place slot rest.next new.planned
  pub need : TakesItsNeed g level place old.image
  pub rooted : IsRootedBefore g level place pool.next old.image
      → IsRooted g level place slot pool.next rest.next old.image new.image

-- The place's blank cell, one of the level's node, is planned already, for somebody else; and the evidence is the child
-- cell that led to the node, which stands below what is planned.
pub record IsPlaceTaken (g : Layout) (level : Level) (place : Open) (view : ViewState) (e : Evidence) : Type 0 where
  pub planned : IsWritten view.planned (blank_of place)
  pub shown : IsWritten view.image (blank_of place)
  pub owner : Owner
  pub for_whom : view.owners (blank_of place) ≡ Some owner
  pub another : owner ≢ owner_in g (node_of g level)
  pub from : node_of g level ≤ blank_of place
  pub to : blank_of place < node_of g level + 32
  pub child : ChildCell
  pub led : level.led_by ≡ Some child
  pub rule : e.rule ≡ LOST_CHILD
  pub cell : e.cell ≡ child.cell
  pub found : e.found ≡ child.found
  pub stands : IsTrue view.base.tells → view.lower e.cell ≡ Some e.found
  pub leads : IsTrue view.base.tells → IsRecordCell (Child (node_of g level)) e.cell e.found

-- How inserting an entry may end, and why. It reads nothing, so that no read fails.
abbrev pub InsertEntryEnds : Layout → Level → Open → ℕ → Pool → Pool → ViewState → ViewState → Result ℕ GrowthFault
    → Type 0
InsertEntryEnds g level place slot pool rest old new (Ok at) =
    IsEntryInserted g level place slot at pool rest old new
InsertEntryEnds g level place slot pool rest old new (Err (Fault Failed)) = ⊥
InsertEntryEnds g level place slot pool rest old new (Err (Fault (Tampered e))) =
    IsPlaceTaken g level place old e × (rest ≡ pool) × PlansNoMore old new
InsertEntryEnds g level place slot pool rest old new (Err (NoMemory lack)) = rest ≡ pool

-- Inserting a slot's entry where the path of a digest ends.
pub record InsertsEntry (g : Layout) (level : Level) (place : Open) (slot : ℕ) (pool rest : Pool) (old new : ViewState)
    (result : Result ℕ GrowthFault) : Type 0 where
  pub cells : new.cells ≡ old.cells
  pub lower : new.lower ≡ old.lower
  pub fresh : new.fresh ≡ old.fresh
  pub base : new.base ≡ old.base
  pub loans : new.loans ≡ old.loans
  pub ends : InsertEntryEnds g level place slot pool rest old new result
