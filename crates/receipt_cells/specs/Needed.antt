-- The cells that a document's being kept rests on, and what it means that a list has just these.
--
-- Each relation says of a cell that it is one of them, along the trail, the path or the slot whose cells they are.
use Rattle.std.specs.Prelude.{◌≡◌, ◌<◌, ◌≤◌, ◌+◌, ◌⊎◌, ℕ, List, Option, Some}
use Rattle.cell_types.specs.Image.{Image}
use Rattle.cell_types.specs.Layout.{Layout, TakesStamps, all_lists, list_at, pool_at, reserve_at, outcome_at, done_at, root_at, spare_at}
use Rattle.cell_types.specs.declared.record_cell.RecordCell.TheVariants.{Bucket}
use Rattle.volume_meaning.specs.Blocks.{PostingFields, InFront, Hop, pointer_at}
use Rattle.volume_meaning.specs.Documents.{Document, document_at}
use Rattle.volume_meaning.specs.HashPaths.{Sought, IsPassed, LeadsDown, fingerprint_of, nibble}
use Rattle.volume_meaning.specs.Keeping.{sought_in}
use Rattle.volume_meaning.specs.Postings.{IsPostingOf}
use Rattle.volume_meaning.specs.Slots.{IsDone, IsStampOf, cells_for}
use Rattle.volume_meaning.specs.Volumes.{Holds, IsWritten}
use Rattle.receipt_text.specs.Listed.{listed_image}

-- Cell c is one that the posting's trail from this block rests on. Of the block that has the posting these are the
-- front's cells from place 0 up to it; of one that leads on the whole front, the jump cell that is taken, and those
-- from its target on. The target's cells up to its first key in the jump cell's span are among the latter: the
-- posting's own key lies in it.
pub data TrailRests (image : Image) (from to : ℕ) (p : PostingFields) (c : ℕ) : ℕ → Type 0 where
  in_front : (block place k : ℕ) → place < 128 → InFront image block place p → k ≤ place → c ≡ block + k
      → TrailRests image from to p c block
  in_full : (block target k : ℕ) → Hop image from to block p.key target → k < 128 → c ≡ block + k
      → TrailRests image from to p c block
  jump_cell : (block target : ℕ) (hop : Hop image from to block p.key target) → c ≡ pointer_at block hop.level hop.digit
      → TrailRests image from to p c block
  from_target : (block target : ℕ) → Hop image from to block p.key target → TrailRests image from to p c target
      → TrailRests image from to p c block

-- Cell c is a log cell of slot n, its stamp cell where the volume's documents are stamped, or a cell of its document.
pub data SlotRests (g : Layout) (image : Image) (n c : ℕ) : Type 0 where
  reserve_cell : c ≡ reserve_at n → SlotRests g image n c
  commit_cell : c ≡ outcome_at n → SlotRests g image n c
  done_cell : c ≡ done_at n → SlotRests g image n c
  stamp_cell : TakesStamps g → c ≡ spare_at n → SlotRests g image n c
  document_cell : (start length bytes journal k : ℕ) → IsDone g image n start length bytes journal → k < cells_for bytes
      → c ≡ document_at start length bytes journal + k → SlotRests g image n c

-- Cell c is one that the path of the sought identifier rests on, from a node of this level down to the slot's bucket:
-- the bucket of the node; and where it is passed, the cells of its slot if it has the same fingerprint, the child
-- cell, and those from the node below on.
pub data PathRests (g : Layout) (image : Image) (s : Sought) (c : ℕ) : ℕ → ℕ → Type 0 where
  bucket_cell : (node level : ℕ) → c ≡ node + nibble s.digest level → PathRests g image s c node level
  passed_slot : (node level n : ℕ) → IsPassed image s (node + nibble s.digest level)
      → Holds image (node + nibble s.digest level) (Bucket n (fingerprint_of s.digest)) → SlotRests g image n c
      → PathRests g image s c node level
  child_cell : (node level target : ℕ) → IsPassed image s (node + nibble s.digest level)
      → LeadsDown image s node level target → c ≡ node + 16 + nibble s.digest level → PathRests g image s c node level
  from_child : (node level target : ℕ) → IsPassed image s (node + nibble s.digest level)
      → LeadsDown image s node level target → PathRests g image s c target (level + 1) → PathRests g image s c node level

-- Cell c is one that the document's being kept rests on, on a device of so many cells.
pub data RestsOn (cells : ℕ) (image : Image) (g : Layout) (d : Document) (c : ℕ) : Type 0 where
  volume_cell : c ≡ 0 → RestsOn cells image g d c
  of_slot : SlotRests g image d.slot c → RestsOn cells image g d c
  of_posting : (stamp : Option ℕ) (l : ℕ) (p : PostingFields) → IsStampOf g image d.slot stamp → l < all_lists g
      → IsPostingOf g stamp d.body d.slot l p → TrailRests image (pool_at g) cells p c (list_at g l)
      → RestsOn cells image g d c
  of_path : PathRests g image (sought_in cells g d.id) c (root_at g) 0 → RestsOn cells image g d c

-- cell c is listed
abbrev pub IsListed : List (ℕ × List ℕ) → ℕ → Type 0
IsListed listed c = IsWritten (listed_image listed) c

-- The new list has the cells of the old one, each of these, and no other; and each with the value that the old one
-- has, or that stands in the image.
pub record ListsJust (These : ℕ → Type 0) (image : Image) (old new : List (ℕ × List ℕ)) : Type 0 where
  pub only : (c : ℕ) → IsListed new c → IsListed old c ⊎ These c
  pub all : (c : ℕ) → These c → IsListed new c
  pub kept : (c : ℕ) → IsListed old c → IsListed new c
  pub stand : (c : ℕ) (value : List ℕ) → listed_image new c ≡ Some value
      → (listed_image old c ≡ Some value) ⊎ (image c ≡ Some value)
