-- What a sync of a device over a file does.
use Rattle.std.specs.Prelude.{◌≡◌, ◌≤◌, ℕ, Option, Some, None, Result, Ok, Err, MatchResult}
use Rattle.std.proofs.Common.{refl, ap, sym, subst, arith, inl, inr}
use Rattle.std.proofs.lemmas.Bool.{false≢true}
use Rattle.cell_types.specs.Image.{Extends, Between}
use Rattle.worm_device.specs.Calls.{Syncs}
use Rattle.worm_device.specs.Counts.{Rose}
use Rattle.worm_device.specs.declared.device.Failed.{Failed}
use Rattle.worm_device.proofs.Images.{extends_self, extends_then}
use Rattle.worm_device.proofs.Elapsing.{leaves_all}
use Rattle.host_files.specs.Cells.{image_of_bytes}
use Rattle.host_files.specs.Device.{held_instant, device_at, device_over, SureStands}
use Rattle.host_files.specs.File.{FileState, HeldBytes, Told, MakesSure, Flushes}
use Rattle.host_files.proofs.Time.{called_same, called_step, Left}

-- a sync
syncs_at : (cells reads faults faults' parts : ℕ) (told told' : Option Told) (result : Result Unit Failed)
    → SureStands cells told → faults ≤ faults'
    → MatchResult result (λ _. faults' ≡ faults) (λ _. Rose faults faults')
    → MatchResult result (λ _. MakesSure told told') (λ _. told' ≡ told)
    → Syncs (device_at cells reads faults parts told) (device_at cells reads faults' parts told') result
syncs_at cells reads faults faults' parts told told' (Err failed) stands later cause step =
    subst (λ t. Syncs (device_at cells reads faults parts told) (device_at cells reads faults' parts t) (Err failed))
    (sym step) (record {
      called = called_same cells reads reads faults faults' parts parts told (omega arith) later (omega arith);
      leaves = leaves_all _ _ (λ image between. inl between);
      only = λ still cell. refl;
      answer = λ tells. tt;
      step = λ tells. tt;
      cause = cause;
      count = refl;
    })
syncs_at cells reads faults faults' parts None None (Ok done) stands later cause step = record {
  called = called_same cells reads reads faults faults' parts parts None (omega arith) later (omega arith);
  leaves = leaves_all _ _ (λ image between. inl between);
  only = λ still cell. refl;
  answer = λ tells. absurd (false≢true tells);
  step = λ tells. absurd (false≢true tells);
  cause = cause;
  count = refl;
}
syncs_at cells reads faults faults' parts None (Some new) (Ok done) stands later cause step = absurd step
syncs_at cells reads faults faults' parts (Some old) None (Ok done) stands later cause step = absurd step
syncs_at cells reads faults faults' parts (Some old) (Some new) (Ok done) stands later cause step =
    let bytes : new.now.bytes ≡ old.now.bytes = ap (λ (h : HeldBytes). h.bytes) step.now in
    let sure : new.now.sure ≡ old.now.bytes = ap (λ (h : HeldBytes). h.sure) step.now in
    let now : Extends (image_of_bytes cells old.now.bytes) (image_of_bytes cells new.now.sure) =
    subst (λ b. Extends (image_of_bytes cells old.now.bytes) (image_of_bytes cells b)) (sym sure)
    (extends_self (image_of_bytes cells old.now.bytes)) in record {
      called = called_step cells reads faults faults' parts parts old new _ step
          (subst (λ b. Extends (image_of_bytes cells old.now.bytes) (image_of_bytes cells b)) (sym bytes)
          (extends_self (image_of_bytes cells old.now.bytes)))
          (extends_then stands.now now) later (omega arith);
      leaves = leaves_all _ _ (λ image between. inr (
        old.moment,
        omega arith,
        omega (arith, step.later),
        subst (λ (h : HeldBytes). Left image (held_instant cells h)) (sym step.last)
            (subst (λ b. Between (image_of_bytes cells old.now.sure) (image_of_bytes cells b) image) bytes between),
      ));
      only = λ still cell. ap (λ b. image_of_bytes cells b cell) bytes;
      answer = λ tells. now;
      step = λ tells. omega (arith, step.later);
      cause = cause;
      count = refl;
    }

pub syncs_over : (cells reads : ℕ) (old new : FileState) (result : Result Unit Failed) → SureStands cells old.told
    → Flushes old new result → Syncs (device_over cells reads old) (device_over cells reads new) result
syncs_over cells reads old new result stands flushes =
    subst (λ parts. Syncs (device_over cells reads old) (device_at cells reads new.faults parts new.told) result)
    (sym flushes.parts)
    (syncs_at cells reads old.faults new.faults old.parts old.told new.told result stands flushes.later flushes.cause
    flushes.told)
