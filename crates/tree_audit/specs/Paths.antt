-- Buckets on the path of a digest, and hash trails.
use Rattle.std.specs.Prelude.{◌≡◌, ◌≢◌, ◌⊎◌, ℕ, List}
use Rattle.sha2.specs.Sha256.{sha256}
use Rattle.cell_types.specs.Image.{Image}
use Rattle.cell_types.specs.Layout.{Layout, root_at}
use Rattle.volume_meaning.specs.HashPaths.{HashTrail, fingerprint_of, nibble}
use Rattle.volume_meaning.specs.Keeping.{sought_in}
use Rattle.volume_meaning.specs.Nodes.{IsOnPath}
use Rattle.volume_meaning.specs.Documents.{Stands}
use Rattle.volume_meaning.specs.declared.held_bucket.HeldBucket.{HeldBucket}

-- the digest's path comes to the node, and goes by its bucket x there
pub record GoesBy (g : Layout) (image : Image) (digest : List ℕ) (node x : ℕ) : Type 0 where
  pub level : ℕ
  pub on_path : IsOnPath g image digest level node
  pub here : x ≡ nibble digest level

-- a hash trail passes the bucket: it has another fingerprint, or its slot stands with another identifier
abbrev pub IsOther : Layout → Image → List ℕ → HeldBucket → Type 0
IsOther g image id b =
    (b.fingerprint ≢ fingerprint_of (sha256 id))
    ⊎ ((own : List ℕ) × (body : List ℕ) × Stands g.cells image b.slot own body × (own ≢ id))

-- slot n has a hash trail from the root as that of this identifier
abbrev pub HasRootTrail : Layout → Image → List ℕ → ℕ → Type 0
HasRootTrail g image id n = HashTrail image (sought_in g.cells g id) n (root_at g) 0
