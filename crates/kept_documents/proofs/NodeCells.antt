-- What was found in a cell of a node, over plain values.
use Rattle.std.proofs.Common.{◌≡◌, ℕ, List, Option, Some, None, Ok, sym, subst, ◌∙◌}
use Rattle.std.proofs.lemmas.Option.{none-some}
use Rattle.cell_types.specs.Records.{IsRecordCell}
use Rattle.cell_types.specs.declared.record_cell.RecordCell.{RecordCell}
use Rattle.cell_types.specs.declared.record_cell.RecordCell.TheVariants as records
use Rattle.volume_meaning.specs.Volumes.{Holds}
use Rattle.volume_meaning.proofs.Extending.{holds_on}
use Rattle.volume_meaning.proofs.Holding.{one_record_holds, some_is}
use Rattle.worm_device.specs.Looks.{IsSeen, LookEnds}
use Rattle.worm_device.specs.Views.{ViewState, Viewed}
use Rattle.worm_device.specs.declared.looks.Found.TheVariants.{Blank, Record, Stray}
use Rattle.kept_documents.specs.NodeCells.{AsksBucketCell, AsksChildCell, IsChildOf}
use Rattle.volume_meaning.specs.Buckets.{IsBucketOf}
use Rattle.volume_meaning.specs.declared.held_bucket.HeldBucket.{HeldBucket}

module _ (at : ℕ) (old new : ViewState) (viewed : Viewed old new) where
  -- a cell in which no record was found held none before
  pub none_in_blank : IsSeen new.image new.image at Blank → (r : RecordCell) → Holds old.image at r → ⊥
  none_in_blank blank r holds = none-some _ (sym blank ∙ (holds_on viewed.image holds).stands)

  pub none_in_stray : (found : List ℕ) → IsSeen new.image new.image at (Stray found) → (r : RecordCell)
      → Holds old.image at r → ⊥
  none_in_stray found seen r holds =
      let now = holds_on viewed.image holds in
      let same : now.cell ≡ found = some_is now.cell found (sym now.stands ∙ seen.0) in
      seen.1 r (subst (λ (c : List ℕ). IsRecordCell r at c) same now.is)

  -- a record that was found is the only one that was there before
  pub one_found : (found : List ℕ) (held r : RecordCell) → IsSeen new.image new.image at (Record found held)
      → Holds old.image at r → held ≡ r
  one_found found held r seen holds =
      one_record_holds new.image at held r (record { cell = found; stands = seen.0; is = seen.1 })
      (holds_on viewed.image holds)

  -- no bucket
  pub blank_bucket : LookEnds at old new (Ok Blank) → AsksBucketCell at old new (Ok None)
  blank_bucket ends = record {
    viewed = viewed;
    ends = λ tells slot fingerprint holds. none_in_blank (ends.2 tells) (records.Bucket slot fingerprint) holds;
  }

  pub stray_bucket : (found : List ℕ) → LookEnds at old new (Ok (Stray found)) → AsksBucketCell at old new (Ok None)
  stray_bucket found ends = record {
    viewed = viewed;
    ends = λ tells slot fingerprint holds. none_in_stray found (ends.2 tells) (records.Bucket slot fingerprint) holds;
  }

  -- a record is a bucket, or none
  pub bucket_found : (found : List ℕ) (held : RecordCell) (result : Option HeldBucket)
      → LookEnds at old new (Ok (Record found held)) → IsBucketOf held result → AsksBucketCell at old new (Ok result)
  bucket_found found held None ends is = record {
    viewed = viewed;
    ends = λ tells slot fingerprint holds. is slot fingerprint
        (one_found found held (records.Bucket slot fingerprint) (ends.2 tells) holds);
  }
  bucket_found found held (Some b) ends is = record {
    viewed = viewed;
    ends = λ tells. let seen = ends.2 tells in
        subst (λ (r : RecordCell). Holds new.image at r) is (record { cell = found; stands = seen.0; is = seen.1 });
  }

  -- no child cell
  pub blank_child : LookEnds at old new (Ok Blank) → AsksChildCell at old new (Ok None)
  blank_child ends = record {
    viewed = viewed;
    ends = λ tells target holds. none_in_blank (ends.2 tells) (records.Child target) holds;
  }

  pub stray_child : (found : List ℕ) → LookEnds at old new (Ok (Stray found)) → AsksChildCell at old new (Ok None)
  stray_child found ends = record {
    viewed = viewed;
    ends = λ tells target holds. none_in_stray found (ends.2 tells) (records.Child target) holds;
  }

  -- a record is a child cell, or none
  pub child_found : (found : List ℕ) (held : RecordCell) (result : Option ℕ)
      → LookEnds at old new (Ok (Record found held)) → IsChildOf held result → AsksChildCell at old new (Ok result)
  child_found found held None ends is = record {
    viewed = viewed;
    ends = λ tells target holds. is target (one_found found held (records.Child target) (ends.2 tells) holds);
  }
  child_found found held (Some target) ends is = record {
    viewed = viewed;
    ends = λ tells. let seen = ends.2 tells in
        subst (λ (r : RecordCell). Holds new.image at r) is (record { cell = found; stands = seen.0; is = seen.1 });
  }
