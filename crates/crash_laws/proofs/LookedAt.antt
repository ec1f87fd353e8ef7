-- A volume that was settled, and looked at since.
use Rattle.std.proofs.Common.{◌≡◌, ℕ, List, Ok, sym, ◌∙◌, inr, ⊎_elim, subst, refl, arith}
use Rattle.std.specs.Prelude.{IsTrue}
use Rattle.cell_types.specs.Image.{Image, Between, Extends}
use Rattle.volume_meaning.specs.Documents.{Document}
use Rattle.tamper_rules.specs.Settling.{Held, Sound, nothing, of_after}
use Rattle.tamper_rules.proofs.Images.{same_both, same_image}
use Rattle.worm_device.specs.Counts.{IsStill}
use Rattle.worm_device.specs.State.{DeviceState, IsDevice, LeftSince}
use Rattle.worm_device.proofs.Counting.{still_first, still_second}
use Rattle.worm_device.proofs.Elapsing.{elapses_of}
use Rattle.worm_device.proofs.Images.{extends_then}
use Rattle.recovery_engine.specs.Settling.{HasSettled}
use Rattle.recovery_engine.specs.declared.settling.Ready.{Ready}
use Rattle.crash_laws.specs.SettlingSteadiness.{CrashesLeaveWhole, EndsAs, IsLeftWhole, IsSteady, StaysSteady}
use Rattle.crash_laws.proofs.EndedAs.{settled_sound, settling_ends}
use Rattle.crash_laws.proofs.LeftWhole.{documents_after, settling_left, stays_steady}

module _ (old new : DeviceState) (r : Ready) (tells : IsTrue old.tells) (h : HasSettled old new r)
    (still : IsStill old.foreign_writes new.foreign_writes) where
  -- nobody wrote in settling, nor since
  first : IsStill old.foreign_writes h.settled.foreign_writes
  first = still_first h.settles.called.foreign_writes h.looked.foreign_writes still

  same : new.image ≡ h.settled.image
  same = same_image (h.quiet (still_second h.settles.called.foreign_writes h.looked.foreign_writes still))

  module _ (lies : Extends new.sure new.image) (sound : Sound old.cells old.image) where
    ends : EndsAs old h.settled sound.after r.step
    ends = settling_ends old h.settled r sound.after
        (subst (λ (i : Image). Extends h.settled.sure i) same (extends_then h.looked.sure lies)) tells h.settles first
        sound.is sound.settled

    -- what lies between is what settling has made
    looked_is : (image : Image) → Between h.settled.sure new.image image → image ≡ sound.after
    looked_is image b = same_both
        (subst (λ (i : Image). Extends i image) ends.sure b.above)
        (subst (λ (i : Image). Extends image i) (same ∙ ends.image) b.below)

    -- so it stands as settling ended it
    pub looked_ends : EndsAs old new sound.after r.step
    looked_ends = record {
      image = same ∙ ends.image;
      sure = looked_is new.sure (record { above = h.looked.sure; below = lies });
      step_is = ends.step_is;
    }

  module _ (device : IsDevice old) (device_new : IsDevice new) (steady : IsSteady old) where
    pub looked_sound : Sound old.cells old.image
    looked_sound = settled_sound old h.settled r device tells h.settles first steady

    -- it holds the documents that stood at entry
    pub looking_keeps : (documents : List Document) → Held old.cells old.image documents
        → Held new.cells new.image documents
    looking_keeps documents held =
        let ends = looked_ends device_new.sure looked_sound in
        let after : Held old.cells looked_sound.after documents =
        of_after looked_sound.after (nothing looked_sound.settled (λ cell. refl))
        (documents_after looked_sound documents held) in
        subst (λ (k : ℕ). Held k new.image documents) (sym (h.looked.cells ∙ h.settles.called.cells))
        (subst (λ (i : Image). Held old.cells i documents) (sym ends.image) after)

    looked_left : (image : Image) → Between h.settled.sure new.image image → IsLeftWhole old image
    looked_left image b =
        let is : image ≡ looked_sound.after = looked_is device_new.sure looked_sound image b in
        let whole : Sound old.cells looked_sound.after = record {
          after = looked_sound.after;
          is = nothing looked_sound.settled (λ cell. refl);
          settled = looked_sound.settled;
        } in
        record {
          sound = inr (subst (Sound old.cells) (sym is) whole);
          holds = inr (λ documents held. subst (λ (i : Image). Held old.cells i documents) (sym is)
              (of_after looked_sound.after whole.is (documents_after looked_sound documents held)));
        }

    pub crashes_looked : CrashesLeaveWhole old new
    crashes_looked since image le left = ⊎_elim
        (λ (before : LeftSince h.settled since image).
        settling_left old h.settled (Ok r) device tells h.settles first steady since image le before)
        (λ (b : Between h.settled.sure new.image image). inr (looked_left image b))
        ((elapses_of h.looked).adds since image (omega (arith, le, (elapses_of h.settles.called).later)) left)

    -- a crash leaves nothing more of the looks
    pub looking_steady : StaysSteady old new
    looking_steady = stays_steady old new device steady (h.looked.cells ∙ h.settles.called.cells) crashes_looked
