-- A volume that was settled and looked at since: what the call at its end knows.
use Rattle.std.proofs.Common.{◌≡◌, ℕ, Ok, refl, sym, subst}
use Rattle.std.specs.Prelude.{IsTrue}
use Rattle.volume_meaning.specs.Volumes.{IsVolume}
use Rattle.volume_meaning.proofs.Extending.{volume_on}
use Rattle.tamper_rules.proofs.Images.{same_image}
use Rattle.worm_device.specs.Counts.{IsStill}
use Rattle.worm_device.specs.State.{DeviceState}
use Rattle.worm_device.specs.Views.{Viewed, seen_directly}
use Rattle.worm_device.proofs.Counting.{still_first, still_second}
use Rattle.worm_device.proofs.Elapsing.{called_self, called_then}
use Rattle.worm_device.proofs.Images.{unchanged_then}
use Rattle.worm_device.proofs.Resting.{rests_of}
use Rattle.recovery_engine.specs.Settling.{HasSettled, IsReady, Settles}
use Rattle.recovery_engine.specs.declared.settling.Ready.{Ready}
use Rattle.record_query.specs.Looking.{HasLooked}

-- settling has just been done
pub looked_from : {r : Ready} {old settled : DeviceState} → Settles old settled (Ok r) → HasLooked r old settled settled
looked_from {r} {old} {settled} s = record { settles = s; looked = called_self settled; quiet = λ still cell. refl }

module _ {r : Ready} {old settled new : DeviceState} (w : HasLooked r old settled new) where
  -- the volume was settled
  pub has_settled : HasSettled old new r
  has_settled = record { settled = settled; settles = w.settles; looked = w.looked; quiet = w.quiet }

  -- one more look
  pub looked_more : {later : DeviceState} {lent back : ℕ}
      → Viewed (seen_directly new lent) (seen_directly later back) → HasLooked r old settled later
  looked_more viewed = record {
    settles = w.settles;
    looked = called_then w.looked viewed.called;
    quiet = λ still. unchanged_then
        (w.quiet (still_first w.looked.foreign_writes viewed.called.foreign_writes still))
        ((rests_of viewed).shown (still_second w.looked.foreign_writes viewed.called.foreign_writes still));
  }

  -- where nobody else wrote since entry, nobody did in settling, nor since
  pub still_settling : IsStill old.foreign_writes new.foreign_writes
      → IsStill old.foreign_writes settled.foreign_writes
  still_settling = still_first w.settles.called.foreign_writes w.looked.foreign_writes

  pub still_looking : IsStill old.foreign_writes new.foreign_writes
      → IsStill settled.foreign_writes new.foreign_writes
  still_looking = still_second w.settles.called.foreign_writes w.looked.foreign_writes

  -- and the image at exit is the settled one
  pub same_since : IsStill old.foreign_writes new.foreign_writes → new.image ≡ settled.image
  same_since still = same_image (w.quiet (still_looking still))

  module _ (tells : IsTrue old.tells) where
    -- the volume is ready
    pub is_ready : IsReady old settled r
    is_ready = w.settles.ends.1 tells

    pub tells_settled : IsTrue settled.tells
    tells_settled = subst IsTrue (sym w.settles.called.tells) tells

    -- its layout is the one that cell 0 states at exit
    pub volume_now : IsVolume new.cells new.image r.volume.geometry
    volume_now = subst (λ (cells : ℕ). IsVolume cells new.image r.volume.geometry) (sym w.looked.cells)
        (volume_on w.looked.image is_ready.volume)
