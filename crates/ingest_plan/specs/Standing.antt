-- That all lists stand as they should, before a row of insertions and behind it, and the tree behind a bucket.
use Rattle.std.specs.Prelude.{◌≡◌, ◌≢◌, ◌<◌, ◌≤◌, ◌+◌, ◌⊎◌, ℕ, List, length, take, slice_get, Some, None}
use Rattle.cell_types.specs.Image.{Image, Extends}
use Rattle.cell_types.specs.Layout.{Layout, list_at, pool_at, all_lists}
use Rattle.cell_types.specs.Records.{IsRecordCell}
use Rattle.cell_types.specs.declared.record_cell.RecordCell.TheVariants.{Jump}
use Rattle.volume_meaning.specs.Blocks.{Leads, pointer_at, posting_record}
use Rattle.volume_meaning.specs.Nodes.{AreApart}
use Rattle.volume_meaning.specs.Postings.{ListedPosting}
use Rattle.ingest_laws.specs.ListShapes.{IsWellListed}
use Rattle.ingest_laws.specs.Needs.{PostingsCost}
use Rattle.hash_tree.specs.declared.level.Level.{Level}
use Rattle.hash_tree.specs.declared.path.Open.{Open}
use Rattle.jump_insertion.specs.Costs.{ListHasTrails, HaveKeysBelow}
use Rattle.jump_insertion.specs.Others.{ListsAreApart}
use Rattle.hash_tree.specs.Inserting.{TakesItsNeed}
use Rattle.hash_tree.specs.Rooting.{IsRooted, IsRootedBefore}

-- Each list of the volume has its shape, with blocks before this cell, and its postings have trails and keys below the
-- list's bound; and no block of a list meets one of another.
pub record ListsStand (g : Layout) (image : Image) (next : ℕ) (bound : ℕ → ℕ) : Type 0 where
  pub well : (l : ℕ) → l < all_lists g → IsWellListed image (pool_at g) next (list_at g l)
  pub trails : (l : ℕ) → l < all_lists g → ListHasTrails image (pool_at g) next (list_at g l)
  pub keys : (l : ℕ) → l < all_lists g → HaveKeysBelow image (pool_at g) next (list_at g l) (bound l)
  pub apart : (l k : ℕ) → l < all_lists g → k < all_lists g → l ≢ k
      → ListsAreApart image (pool_at g) next (list_at g l) (list_at g k)

-- In each list the row's keys are not below its bound of before, and are below its bound behind, which is not less.
pub record HasKeysBetween (rows : List ListedPosting) (bound behind : ℕ → ℕ) : Type 0 where
  pub rise : (l : ℕ) → bound l ≤ behind l
  pub from : (i : ℕ) (p : ListedPosting) → slice_get rows i ≡ Some p → bound p.list ≤ p.posting.key
  pub to : (i : ℕ) (p : ListedPosting) → slice_get rows i ≡ Some p → p.posting.key < behind p.list

-- the cell lies in no block of a list
abbrev pub LiesOutside : Layout → Image → ℕ → ℕ → Type 0
LiesOutside g image next cell =
    (l block : ℕ) → l < all_lists g → Leads image (pool_at g) next block (list_at g l) → AreApart block 256 cell 1

-- The cell holds one of the first so many postings of the row, at an entry place of a block of its list; or a pointer of
-- a block of a list, which leads to another block of this list.
pub data IsAddedTo (g : Layout) (rows : List ListedPosting) (count : ℕ) (image : Image) (to cell : ℕ) (value : List ℕ)
    : Type 0 where
  posting : (i : ℕ) (p : ListedPosting) (block place : ℕ) → i < count → slice_get rows i ≡ Some p
      → Leads image (pool_at g) to block (list_at g p.list) → place < 128 → cell ≡ block + place
      → IsRecordCell (posting_record p.posting) cell value
      → IsAddedTo g rows count image to cell value
  pointer : (l block level digit target : ℕ) → l < all_lists g → Leads image (pool_at g) to block (list_at g l)
      → level < 8 → 1 ≤ digit → digit ≤ 15 → cell ≡ pointer_at block level digit
      → Leads image (pool_at g) to target (list_at g l) → IsRecordCell (Jump target) cell value
      → IsAddedTo g rows count image to cell value

-- Behind the first so many postings of the row all lists stand as they should, with keys below these bounds, and these
-- postings cost what they must. What stood stands still, and nothing else has changed outside the blocks of before, and
-- before the new ones. Each cell that was blank and is written is one of these postings, or a pointer.
pub record RowStands (g : Layout) (behind : ℕ → ℕ) (rows : List ListedPosting) (count from to : ℕ) (old new : Image)
    : Type 0 where
  pub extends : Extends old new
  pub more : from ≤ to
  pub lists : ListsStand g new to behind
  pub blocks : (l block : ℕ) → l < all_lists g → Leads new (pool_at g) to block (list_at g l)
      → Leads old (pool_at g) from block (list_at g l) ⊎ (from ≤ block)
  pub outside : (cell : ℕ) → cell < from → LiesOutside g old from cell → new cell ≡ old cell
  pub added : (cell : ℕ) (value : List ℕ) → new cell ≡ Some value → old cell ≡ None
      → IsAddedTo g rows count new to cell value
  pub cost : ℕ
  pub costs : PostingsCost g new to (take count rows) old from cost

-- Behind the first so many postings of the row each list has keys below any that is not below its bound of before, and is
-- greater than these postings' keys in the list.
abbrev pub KeysSoFar : Layout → (ℕ → ℕ) → List ListedPosting → ℕ → Image → ℕ → Type 0
KeysSoFar g bound rows count image next =
    (l key : ℕ) → l < all_lists g → bound l ≤ key
    → ((i : ℕ) (p : ListedPosting) → i < count → slice_get rows i ≡ Some p → p.list ≡ l → p.posting.key < key)
    → HaveKeysBelow image (pool_at g) next (list_at g l) key

-- The row's postings leave this image between, in which all lists stand as they should, with keys below these bounds, at
-- the cost that they must have. Where the tree is well shaped in it the bucket leaves it so, and takes what its
-- identifier needs there, and under a child cell a node.
pub record IndexStands (g : Layout) (n : ℕ) (behind : ℕ → ℕ) (rows : List ListedPosting) (level : Level) (place : Open)
    (from to : ℕ) (old new : Image) : Type 0 where
  pub between : Image
  pub next : ℕ
  pub lists : RowStands g behind rows (length rows) from next old between
  pub more : next ≤ to
  pub node : (child : ℕ) → place.child ≡ Some child → to ≡ next + 32
  pub tree : IsRootedBefore g level place next between → IsRooted g level place n next to between new
  pub need : TakesItsNeed g level place between
