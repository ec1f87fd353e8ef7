-- What it means that documents are kept: they stand, and the index leads to them.
use Rattle.std.specs.Prelude.{◌≡◌, ◌<◌, ℕ, List, Option, Contains}
use Rattle.sha2.specs.Sha256.{sha256}
use Rattle.cell_types.specs.Image.{Image, Extends}
use Rattle.cell_types.specs.Layout.{Layout, all_lists, list_at, root_at, pool_at}
use Rattle.volume_meaning.specs.Blocks.{PostingFields, Trail}
use Rattle.volume_meaning.specs.Documents.{Document, Stands}
use Rattle.volume_meaning.specs.HashPaths.{Sought, HashTrail}
use Rattle.volume_meaning.specs.Slots.{IsStampOf}
use Rattle.volume_meaning.specs.Volumes.{IsVolume}
use Rattle.volume_meaning.specs.Postings.{IsPostingOf, HasPostings}

-- an identifier as the hash tree of this volume looks for it
abbrev pub sought_in : ℕ → Layout → List ℕ → Sought
sought_in cells g id = record { id = id; digest = sha256 id; cells = cells; pool = pool_at g }

-- the document stands, each of its postings has a trail, and it has a hash trail
pub record IsKept (cells : ℕ) (image : Image) (g : Layout) (d : Document) : Type 0 where
  pub stands : Stands cells image d.slot d.id d.body
  pub postings : HasPostings g d.body
  pub stamp : Option ℕ
  pub is_stamp : IsStampOf g image d.slot stamp
  pub trails : (l : ℕ) (p : PostingFields) → l < all_lists g → IsPostingOf g stamp d.body d.slot l p
      → (at : ℕ) × Trail image (pool_at g) cells at p (list_at g l)
  pub path : HashTrail image (sought_in cells g d.id) d.slot (root_at g) 0

-- the image is a volume that keeps each of these documents
pub record Kept (cells : ℕ) (image : Image) (documents : List Document) : Type 0 where
  pub layout : Layout
  pub volume : IsVolume cells image layout
  pub each : (d : Document) → Contains documents d → IsKept cells image layout d

-- documents that are kept are kept in each extending image
abbrev pub KeptHoldsOn : Type 0
KeptHoldsOn = (cells : ℕ) (old new : Image) (documents : List Document) → Extends old new
    → Kept cells old documents → Kept cells new documents

-- of the kept documents one has an identifier
abbrev pub KeptAreApart : Type 0
KeptAreApart =
    (cells : ℕ) (image : Image) (documents : List Document) (d e : Document) → Kept cells image documents
    → Contains documents d → Contains documents e → d.id ≡ e.id → d ≡ e
