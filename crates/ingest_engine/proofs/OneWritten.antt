-- A device whose cells are looked at, and of which one is written then.
use Rattle.std.proofs.Common.{◌≡◌, ◌⊎◌, ℕ, List, Result, None, Some, inl, inr, sym, ◌∙◌}
use Rattle.cell_types.specs.Image.{Image, ChangesOnly, IsUnchanged}
use Rattle.cell_types.specs.declared.refusal.Refusal.{Refusal}
use Rattle.worm_device.specs.Calls.{Called, Syncs, Writes}
use Rattle.worm_device.specs.Counts.{IsStill}
use Rattle.worm_device.specs.State.{DeviceState}
use Rattle.worm_device.specs.declared.device.Failed.{Failed}
use Rattle.worm_device.specs.declared.device.Written.{Written}
use Rattle.worm_device.proofs.Counting.{still_first, still_second}
use Rattle.worm_device.proofs.Elapsing.{called_then}
use Rattle.ingest_engine.specs.Formats.{Looks}

-- nothing changes, and then this cell alone
changes_after : {at : ℕ} {value : List ℕ} {a b c : Image} → IsUnchanged a b → ChangesOnly at value b c
    → ChangesOnly at value a c
changes_after {at} {value} {a} {b} {c} same changes cell = by_case (changes cell)
  where
    by_case : (c cell ≡ b cell) ⊎ ((cell ≡ at) × (b cell ≡ None) × (c cell ≡ Some value))
        → (c cell ≡ a cell) ⊎ ((cell ≡ at) × (a cell ≡ None) × (c cell ≡ Some value))
    by_case (inl e) = inl (e ∙ same cell)
    by_case (inr h) = inr (h.0, sym (same cell) ∙ h.1, h.2)

-- this cell changes, and then nothing
changes_before : {at : ℕ} {value : List ℕ} {a b c : Image} → ChangesOnly at value a b → IsUnchanged b c
    → ChangesOnly at value a c
changes_before {at} {value} {a} {b} {c} changes same cell = by_case (changes cell)
  where
    by_case : (b cell ≡ a cell) ⊎ ((cell ≡ at) × (a cell ≡ None) × (b cell ≡ Some value))
        → (c cell ≡ a cell) ⊎ ((cell ≡ at) × (a cell ≡ None) × (c cell ≡ Some value))
    by_case (inl e) = inl (same cell ∙ e)
    by_case (inr h) = inr (h.0, h.1, same cell ∙ h.2)

module _ {at : ℕ} {value : List ℕ} {old mid now : DeviceState} {looked : Result Unit Refusal}
    {written : Result Written Failed}
    (looks : Looks old mid looked) (writes : Writes at value mid now written) where
  pub wrote_called : Called old now
  wrote_called = called_then looks.called writes.called

  pub wrote_only : IsStill old.foreign_writes now.foreign_writes → ChangesOnly at value old.image now.image
  wrote_only still =
      let first = looks.called.foreign_writes in
      let second = writes.called.foreign_writes in
      changes_after (looks.only (still_first first second still)) (writes.only (still_second first second still))

  module _ {new : DeviceState} {synced : Result Unit Failed} (syncs : Syncs now new synced) where
    pub synced_called : Called old new
    synced_called = called_then wrote_called syncs.called

    pub synced_only : IsStill old.foreign_writes new.foreign_writes → ChangesOnly at value old.image new.image
    synced_only still =
        let first = wrote_called.foreign_writes in
        let second = syncs.called.foreign_writes in
        changes_before (wrote_only (still_first first second still)) (syncs.only (still_second first second still))
