-- No record stands there; and what the record is.
use Rattle.std.proofs.Common.{ℕ, Option, Some, None, refl, subst}
use Rattle.cell_types.specs.Image.{Image}
use Rattle.cell_types.specs.declared.record_cell.RecordCell.{RecordCell}
use Rattle.cell_types.specs.declared.record_cell.RecordCell.TheVariants as records
use Rattle.volume_meaning.specs.Buckets.{IsBucketOf}
use Rattle.volume_meaning.specs.Volumes.{Holds}
use Rattle.volume_meaning.specs.declared.held_bucket.HeldBucket.{HeldBucket}
use Rattle.volume_meaning.proofs.Holding.{one_record_holds}
use Rattle.log_audit.specs.Kept.{image_of_kept}
use Rattle.log_audit.proofs.Deciding.{none_held}
use Rattle.tree_audit.specs.Buckets.{BucketAnswers}
use Rattle.tree_audit.proofs.looks.bucket_at.Goals as goal

-- the record that stands there is the bucket, or is none
of_record : (image : Image) (at : ℕ) (held : RecordCell) (result : Option HeldBucket) → Holds image at held
    → IsBucketOf held result → BucketAnswers image at result
of_record image at held None stands none = λ slot fingerprint other.
    none slot fingerprint (one_record_holds image at held (records.Bucket slot fingerprint) stands other)
of_record image at held (Some bucket) stands is = subst (Holds image at) is stands

pub returns-in_default : goal.returns-in_default
returns-in_default c = λ slot fingerprint h. none_held c.record_at.ensures.one c.in_default.is refl h

pub returns : goal.returns
returns c =
    of_record (image_of_kept c.args.kept.now) c.args.at c.in-Some.held c.of.result c.in-Some.ensures.some c.of.ensures
