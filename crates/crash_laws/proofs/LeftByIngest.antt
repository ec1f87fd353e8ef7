-- What a crash leaves, of calls that add no document and of those that add one; and that a device is steady behind
-- them.
use Rattle.std.proofs.Common.{◌≡◌, ◌≤◌, ◌<◌, ℕ, List, inl, inr, ⊎_elim, sym, subst, arith, Option}
use Rattle.cell_types.specs.Image.{Image, Between}
use Rattle.tamper_rules.specs.Settling.{IsBlankOrSound}
use Rattle.worm_device.specs.State.{DeviceState, LeftSince}
use Rattle.crash_laws.specs.SettlingSteadiness.{IsLeftWhole, IsSteady, StaysSteady}
use Rattle.crash_laws.specs.Steadiness.{CrashesLeaveIngest, IsLeftByIngest, StaysSteadyBy}

module _ (id : List ℕ) (stamp : Option ℕ) (body : List ℕ) (old new : DeviceState) where
  -- what is left of calls that add no document could be left of an ingest
  pub of_whole : (image : Image) → IsLeftWhole old image → IsLeftByIngest id stamp body old image
  of_whole image l = record { sound = l.sound; holds = inl l.holds }

  pub by_whole : StaysSteady old new → StaysSteadyBy id stamp body old new
  by_whole stays = record {
    crashes = λ since image le left. ⊎_elim inl (λ (l : IsLeftWhole old image). inr (of_whole image l))
        (stays.crashes since image le left);
    steady = stays.steady;
  }

  module _ (steady : IsSteady old) (crashes : CrashesLeaveIngest id stamp body old new) where
    left_now : (image : Image) → LeftSince new old.moment image → IsBlankOrSound old.cells image
    left_now image left = ⊎_elim
        (λ (before : LeftSince old old.moment image). ⊎_elim
        (λ (b : Between old.sure old.image image). steady.each image b)
        (λ (m : (m : ℕ) × (old.moment ≤ m) × (m < old.moment) × Between (old.past m).sure (old.past m).image image).
        absurd (omega (arith, m.1, m.2)))
        before)
        (λ (l : IsLeftByIngest id stamp body old image). l.sound)
        (crashes old.moment image (omega arith) left)

    -- the device is steady behind an ingest, as now is one of the moments
    pub stays_by : new.cells ≡ old.cells → StaysSteadyBy id stamp body old new
    stays_by cells = record {
      crashes = crashes;
      steady = record {
        each = λ image b. subst (λ (k : ℕ). IsBlankOrSound k image) (sym cells) (left_now image (inl b));
      };
    }

-- nothing was done
pub nothing_done : (id : List ℕ) (stamp : Option ℕ) (body : List ℕ) (old new : DeviceState) → new ≡ old → IsSteady old
    → StaysSteadyBy id stamp body old new
nothing_done id stamp body old new same steady = record {
  crashes = λ since image le left. inl (subst (λ (s : DeviceState). LeftSince s since image) same left);
  steady = subst IsSteady (sym same) steady;
}
