-- Whether the last slot of a settled volume was taken, by where its log ends.
use Rattle.std.proofs.Common.{◌≡◌, ◌<◌, ◌-◌, ℕ, List, Option, Some, None, refl, arith}
use Rattle.std.specs.Prelude.{IsTrue}
use Rattle.cell_types.specs.Image.{Image}
use Rattle.cell_types.specs.Layout.{reserve_at}
use Rattle.volume_meaning.specs.Slots.{IsStampFor}
use Rattle.volume_meaning.specs.Volumes.{IsWritten}
use Rattle.volume_meaning.proofs.Extending.{written_on}
use Rattle.worm_device.specs.State.{DeviceState}
use Rattle.recovery_engine.specs.Settling.{HasSettled}
use Rattle.recovery_engine.specs.declared.settling.Ready.{Ready}
use Rattle.ingest_engine.specs.Ingesting.{HasNoSlot, HasFreeSlot, IsLastFree}

-- a cell that is not written is blank
blank_unless : (image : Image) (at : ℕ) (found : Option (List ℕ)) → image at ≡ found → (IsWritten image at → ⊥)
    → image at ≡ None
blank_unless image at None is never = is
blank_unless image at (Some cell) is never = absurd (never (record { found = cell; stands = is }))

-- where a slot is free the last one was
pub last_free : {old new : DeviceState} (r : Ready) → HasSettled old new r → r.horizon < r.volume.geometry.slots
    → IsTrue old.tells → IsLastFree r.volume.geometry old.image
last_free {old} r has less tells =
    let at = reserve_at (r.volume.geometry.slots - 1) in
    blank_unless old.image at (old.image at) refl
    (λ (w : IsWritten old.image at). let full = (has.settles.ends.1 tells).full w in omega (arith, less, full))

abbrev pub has_slot : {stamp : Option ℕ} {old new : DeviceState} (r : Ready) → HasSettled old new r
    → IsStampFor r.volume.geometry stamp → r.horizon < r.volume.geometry.slots → HasFreeSlot stamp old new r
has_slot r has takes less =
    record { settled = has; takes = takes; slot = less; last_free = λ tells. last_free r has less tells }

-- and where none is free the last one is taken
pub has_no_slot : {stamp : Option ℕ} {old new : DeviceState} (r : Ready) → HasSettled old new r
    → IsStampFor r.volume.geometry stamp → r.horizon ≡ r.volume.geometry.slots → HasNoSlot stamp old new
has_no_slot r has takes all = record {
  ready = r;
  settled = has;
  takes = takes;
  taken = all;
  full = λ tells. written_on has.looked.image ((has.settles.ends.1 tells).horizon.below (r.volume.geometry.slots - 1)
      (omega (arith, all, has.settles.ends.0.layout.some_slots)));
}
