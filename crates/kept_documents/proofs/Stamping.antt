-- The stamp of a slot, over plain values.
use Rattle.std.proofs.Common.{ℕ, Option, Some, None, Ok, arith}
use Rattle.std.specs.Prelude.{IsTrue}
use Rattle.cell_types.specs.Layout.{Layout, TakesStamps}
use Rattle.volume_meaning.specs.Slots.{IsStampOf}
use Rattle.volume_meaning.proofs.Extending.{holds_on}
use Rattle.worm_device.specs.Views.{ViewState, Viewed}
use Rattle.commit_record.specs.Stamps.{ReadStampEnds}
use Rattle.kept_documents.specs.Stamps.{AsksStamp}

module _ (g : Layout) (n : ℕ) {old new : ViewState} (viewed : Viewed old new) (version : TakesStamps g)
  where
    -- a slot without a stamp in the end had none before
    pub without_stamp : ReadStampEnds n old new (Ok None) → AsksStamp g n old new (Ok None)
    without_stamp ends = record { viewed = viewed; ends = none_before }
      where
        none_before : IsTrue old.base.tells → (stamp : Option ℕ) → IsStampOf g old.image n stamp → ⊥
        none_before tells None is = omega (arith, is, version)
        none_before tells (Some seconds) is = ends.1 tells seconds (holds_on viewed.image is.1)

    pub with_stamp : (seconds : ℕ) → ReadStampEnds n old new (Ok (Some seconds))
        → AsksStamp g n old new (Ok (Some (record { seconds = Some seconds })))
    with_stamp seconds ends = record {
      viewed = viewed;
      ends = (version, λ tells. (version, ends.1 tells));
    }
