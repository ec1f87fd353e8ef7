-- Cell 0, as it was seen directly on a device, tells whether documents are stamped.
use Rattle.std.proofs.Common.{◌≤◌, ◌+◌, ℕ, Result, Ok, Err, arith}
use Rattle.cell_types.specs.Layout.{TakesStamps}
use Rattle.cell_types.specs.declared.geometry.Volume.{Volume}
use Rattle.cell_types.specs.declared.refusal.Refusal.{Refusal}
use Rattle.cell_types.specs.declared.refusal.Refusal.TheVariants.{NoStamps}
use Rattle.volume_meaning.proofs.Extending.{blank_before}
use Rattle.worm_device.specs.State.{DeviceState, IsDevice}
use Rattle.worm_device.specs.Views.{Viewed, seen_directly}
use Rattle.worm_device.proofs.Resting.{rests_of}
use Rattle.commit_record.specs.Opening.{OpenEnds, refusal_of}
use Rattle.commit_record.specs.declared.opening.OpenRefusal.{OpenRefusal}
use Rattle.commit_record.specs.declared.opening.OpenRefusal.TheVariants.{NotFormatted, NotAVolume, WrongSize, ReadFault}
use Rattle.time_index.specs.Asking.{AskStampsEnd, AsksStamps}

module _ (old new : DeviceState) (lent back : ℕ) (device : IsDevice new)
    (viewed : Viewed (seen_directly old lent) (seen_directly new back)) (reads : new.reads ≤ old.reads + 1) where
  asked : (result : Result Unit Refusal) → AskStampsEnd old new result → AsksStamps old new result
  asked result ends = record {
    device = device;
    called = viewed.called;
    quiet = (rests_of viewed).shown;
    reads = reads;
    ends = ends;
  }

  -- no volume stands there
  pub no_volume : (why : OpenRefusal) → OpenEnds (seen_directly old lent) (seen_directly new back) (Err why)
      → AsksStamps old new (Err (refusal_of why))
  no_volume NotFormatted ends = asked _ (λ tells. blank_before viewed.image (ends.1 tells))
  no_volume (NotAVolume found) ends = asked _ ends.1
  no_volume (WrongSize stated real) ends = asked _ (ends.1, ends.2, ends.3)
  no_volume ReadFault ends = asked _ ends

  module _ (volume : Volume) (ends : OpenEnds (seen_directly old lent) (seen_directly new back) (Ok volume)) where
    -- its documents are not stamped
    pub without_stamps : (TakesStamps volume.geometry → ⊥) → AsksStamps old new (Err NoStamps)
    without_stamps other = asked (Err NoStamps) (
      ends.3,
      λ tells. (volume.geometry, ends.4 tells, grind (arith, ends.1.version, other)),
    )

    -- they are
    pub with_stamps : TakesStamps volume.geometry → AsksStamps old new (Ok tt)
    with_stamps is = asked (Ok tt) (ends.3, λ tells. (volume.geometry, ends.4 tells, is))
