-- What a bucket says, and whose it is.
use Rattle.std.specs.Prelude.{◌≡◌, ℕ, List, Option, Some, None}
use Rattle.cell_types.specs.declared.record_cell.RecordCell.{RecordCell}
use Rattle.cell_types.specs.declared.record_cell.RecordCell.TheVariants.{Bucket}
use Rattle.volume_meaning.specs.HashPaths.{fingerprint_of}
use Rattle.volume_meaning.specs.declared.held_bucket.HeldBucket.{HeldBucket}

-- the record is this bucket, or is none
abbrev pub IsBucketOf : RecordCell → Option HeldBucket → Type 0
IsBucketOf r None = (slot : ℕ) (fingerprint : List ℕ) → r ≡ Bucket slot fingerprint → ⊥
IsBucketOf r (Some b) = r ≡ Bucket b.slot b.fingerprint

-- the bucket is slot n's own, by a digest
abbrev pub IsOwnBucket : HeldBucket → ℕ → List ℕ → Type 0
IsOwnBucket b n digest = (b.slot ≡ n) × (b.fingerprint ≡ fingerprint_of digest)
