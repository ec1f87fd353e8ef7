-- The buckets of nodes.
use Rattle.std.specs.Prelude.{◌≡◌, ◌<◌, ◌+◌, ℕ, List, Option, Some, None}
use Rattle.cell_types.specs.Image.{Image}
use Rattle.cell_types.specs.Layout.{Layout}
use Rattle.cell_types.specs.declared.record_cell.RecordCell.TheVariants as records
use Rattle.volume_meaning.specs.Volumes.{Holds}
use Rattle.tamper_rules.specs.Rules.{IsTrueBucket}
use Rattle.volume_meaning.specs.declared.held_bucket.HeldBucket.{HeldBucket}

-- what a look at a bucket answers
abbrev pub BucketAnswers : Image → ℕ → Option HeldBucket → Type 0
BucketAnswers image at None = (slot : ℕ) (fingerprint : List ℕ) → Holds image at (records.Bucket slot fingerprint) → ⊥
BucketAnswers image at (Some b) = Holds image at (records.Bucket b.slot b.fingerprint)

-- what rule 11 asks of a cell on account of this node
abbrev pub AsksBucket : Layout → Image → ℕ → ℕ → Type 0
AsksBucket g image node cell = (x : ℕ) → x < 16 → cell ≡ node + x → IsTrueBucket g image node x
