-- What settling knows of the last slot, when it has looked at it and at its journal.
use Rattle.std.proofs.Common.{◌≡◌, ◌+◌, ℕ, sym, subst}
use Rattle.std.specs.Prelude.{IsTrue}
use Rattle.cell_types.specs.Image.{Image, IsUnchanged}
use Rattle.cell_types.specs.Layout.{Layout}
use Rattle.commit_record.specs.States.{IsState}
use Rattle.commit_record.specs.declared.slot.SlotState.{SlotState}
use Rattle.volume_meaning.specs.Slots.{IsHorizon}
use Rattle.volume_meaning.specs.Volumes.{IsVolume}
use Rattle.volume_meaning.proofs.Extending.{horizon_further}
use Rattle.worm_device.specs.Calls.{Called}
use Rattle.worm_device.specs.Counts.{IsStill}
use Rattle.worm_device.specs.State.{DeviceState}
use Rattle.worm_device.proofs.Counting.{still_first, still_second}
use Rattle.worm_device.proofs.Elapsing.{called_then}
use Rattle.worm_device.proofs.Images.{extends_self, unchanged_then}
use Rattle.tamper_rules.specs.Settling.{Settled}
use Rattle.tamper_rules.proofs.Images.{same_image}
use Rattle.recovery_engine.specs.Ending.{HasJournal, end_phases}
use Rattle.recovery_engine.specs.LastSlot.{IsLastSlot}
use Rattle.recovery_engine.specs.Settling.{IsEnding}
use Rattle.recovery_engine.proofs.HalfDone.{settled_is_whole}
use Rattle.recovery_engine.proofs.InOrder.{state_further}
use Rattle.recovery_engine.proofs.Licensed.{last_on, volume_later}
use Rattle.recovery_engine.proofs.Looked.{Looked, looked_more}

-- Settling began at s0, and has only looked since. At s3 it knew where the log ends, which is behind slot n; from there
-- to s4 it found this slot in this state.
pub record LastLooked (g : Layout) (n : ℕ) (state : SlotState) (s0 s3 s4 : DeviceState) : Type 0 where
  pub looked : Looked s0 s4
  pub before : Called s0 s3
  pub since : Called s3 s4
  pub quiet : IsStill s3.foreign_writes s4.foreign_writes → IsUnchanged s3.image s4.image
  pub volume : IsTrue s0.tells → IsVolume s4.cells s4.image g
  pub horizon : IsTrue s0.tells → IsHorizon g s0.image s4.image (n + 1)
  pub last : IsTrue s4.tells → IsLastSlot g s3.image s4.image n state

module _ {g : Layout} {n : ℕ} {state : SlotState} {s0 s3 s4 : DeviceState} (has : LastLooked g n state s0 s3 s4) where
  pub told : IsTrue s0.tells → IsTrue s4.tells
  told tells = subst IsTrue (sym has.looked.called.tells) tells

  -- the same, after one look more
  pub last_more : (s5 : DeviceState) → Called s4 s5
      → (IsStill s4.foreign_writes s5.foreign_writes → IsUnchanged s4.image s5.image) → LastLooked g n state s0 s3 s5
  last_more s5 called quiet = record {
    looked = looked_more s0 s4 s5 has.looked called quiet;
    before = has.before;
    since = called_then has.since called;
    quiet = λ still. unchanged_then
        (has.quiet (still_first has.since.foreign_writes called.foreign_writes still))
        (quiet (still_second has.since.foreign_writes called.foreign_writes still));
    volume = λ tells. volume_later s4 s5 g called (has.volume tells);
    horizon = λ tells. horizon_further (extends_self s0.image) called.image (has.horizon tells);
    last = λ tells. last_on g s3.image s4.image s5.image n state called.image
        (has.last (subst IsTrue called.tells tells));
  }

  since_entry : IsTrue s0.tells → IsState g s0.image s4.image n state
  since_entry tells = state_further g s3.image s0.image s4.image s4.image n state has.before.image
      (extends_self s4.image) (has.last (told tells)).is

  -- it is the slot that settling is to end
  pub ending_of : HasJournal g state s4.image → IsTrue s0.tells → IsEnding s0.cells s0.image s4.image n state
  ending_of journal tells = record {
    layout = g;
    volume = subst (λ (k : ℕ). IsVolume k s4.image g) has.looked.called.cells (has.volume tells);
    horizon = has.horizon tells;
    is = since_entry tells;
    journal = journal;
  }

  -- and nothing of it is to be ended where the volume was settled, and nobody else wrote
  pub none_to_end : IsTrue s0.tells → Settled s0.cells s0.image → IsStill s0.foreign_writes s4.foreign_writes
      → end_phases state ≡ 0
  none_to_end tells settled still =
      let same : s4.image ≡ s0.image = same_image (has.looked.quiet still) in
      settled_is_whole {cells = s0.cells} {more = s4.cells} g n state settled
      (subst (λ (i : Image). IsVolume s4.cells i g) same (has.volume tells))
      (subst (λ (i : Image). IsHorizon g s0.image i (n + 1)) same (has.horizon tells))
      (subst (λ (i : Image). IsState g s0.image i n state) same (since_entry tells))
