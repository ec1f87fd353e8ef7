-- The hash tree of identifiers: nodes of 16 buckets and 16 child cells, and the path of a digest through them.
use Rattle.std.specs.Prelude.{◌≡◌, ◌≢◌, ◌<◌, ◌≤◌, ◌+◌, ◌/◌, ◌%◌, ◌⊎◌, ◌==◌, if◌then◌else◌, ℕ, List, slice_index, take}
use Rattle.cell_types.specs.Image.{Image}
use Rattle.cell_types.specs.declared.record_cell.RecordCell.TheVariants.{Bucket, Child}
use Rattle.volume_meaning.specs.Volumes.{Holds}
use Rattle.volume_meaning.specs.Documents.{Stands}

-- half byte v of a digest, the high half of each byte first
abbrev pub nibble : List ℕ → ℕ → ℕ
nibble digest v = if v % 2 == 0 then slice_index digest (v / 2) / 16 else slice_index digest (v / 2) % 16

-- the first seven bytes of a digest
abbrev pub fingerprint_of : List ℕ → List ℕ
fingerprint_of digest = take 7 digest

-- An identifier that is sought, by a digest, on a device of so many cells whose pool begins here. `sought_in` makes it
-- with the identifier's own digest.
pub record Sought : Type 0 where
  pub id : List ℕ
  pub digest : List ℕ
  pub cells : ℕ
  pub pool : ℕ

-- The bucket can't be that of the sought identifier: it has another fingerprint, or the slot that it names
-- stands with another identifier.
pub record IsPassed (image : Image) (s : Sought) (at : ℕ) : Type 0 where
  pub slot : ℕ
  pub fingerprint : List ℕ
  pub bucket : Holds image at (Bucket slot fingerprint)
  pub other : (fingerprint ≢ fingerprint_of s.digest)
      ⊎ ((id : List ℕ) × (body : List ℕ) × Stands s.cells image slot id body × (id ≢ s.id))

-- a node's child cell for the sought digest leads to the target, whose cells lie in the pool
pub record LeadsDown (image : Image) (s : Sought) (node level target : ℕ) : Type 0 where
  pub levels : level < 63
  pub child : Holds image (node + 16 + nibble s.digest level) (Child target)
  pub inside_from : s.pool ≤ target
  pub inside_to : target + 32 ≤ s.cells

-- From a node of this level slot n has a hash trail: its bucket stands there, or the bucket there is passed, and
-- it has a hash trail from the node below.
pub data HashTrail (image : Image) (s : Sought) (n : ℕ) : ℕ → ℕ → Type 0 where
  here : (node level : ℕ) → Holds image (node + nibble s.digest level) (Bucket n (fingerprint_of s.digest))
      → HashTrail image s n node level
  below : (node level target : ℕ) → IsPassed image s (node + nibble s.digest level)
      → LeadsDown image s node level target
      → HashTrail image s n target (level + 1) → HashTrail image s n node level

-- Each bucket of the path from the root down to the node of this level, but not the node's own, is passed.
pub data PassedTo (image : Image) (s : Sought) (root : ℕ) : ℕ → ℕ → Type 0 where
  at_root : (node level : ℕ) → node ≡ root → level ≡ 0 → PassedTo image s root node level
  down : (node level above before : ℕ) → level ≡ before + 1 → PassedTo image s root above before
      → IsPassed image s (above + nibble s.digest before) → LeadsDown image s above before node
      → PassedTo image s root node level
