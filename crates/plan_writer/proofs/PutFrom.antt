-- A volume that was settled, and has only been looked at since, as a plan finds it.
use Rattle.std.proofs.Common.{◌≡◌, ◌<◌, ℕ, List, Some, None, sym, ◌∙◌, subst}
use Rattle.std.specs.Prelude.{IsTrue}
use Rattle.cell_types.specs.Image.{IsUnchanged}
use Rattle.cell_types.specs.Layout.{reserve_at}
use Rattle.recovery_engine.specs.Settling.{HasSettled, IsReady}
use Rattle.recovery_engine.specs.declared.settling.Ready.{Ready}
use Rattle.volume_meaning.specs.Slots.{EndsBelow}
use Rattle.volume_meaning.specs.Volumes.{IsVolume}
use Rattle.volume_meaning.proofs.Extending.{ends_on, volume_on}
use Rattle.worm_device.specs.Calls.{Called}
use Rattle.worm_device.specs.Counts.{IsStill}
use Rattle.worm_device.specs.State.{DeviceState}
use Rattle.worm_device.proofs.Counting.{still_first, still_second}
use Rattle.worm_device.proofs.Elapsing.{called_then}
use Rattle.worm_device.proofs.Images.{extends_self}
use Rattle.plan_writer.proofs.SettledBefore.{IsAhead, ends_before, stood_ahead, volume_before}

module _ {s0 s2 : DeviceState} (r : Ready) (has : HasSettled s0 s2 r) where
  pub called : Called s0 s2
  called = called_then has.settles.called has.looked

  still_1 : IsStill s0.foreign_writes s2.foreign_writes → IsStill s0.foreign_writes has.settled.foreign_writes
  still_1 still = still_first has.settles.called.foreign_writes has.looked.foreign_writes still

  same : IsStill s0.foreign_writes s2.foreign_writes → IsUnchanged has.settled.image s2.image
  same still = has.quiet (still_second has.settles.called.foreign_writes has.looked.foreign_writes still)

  pub tells_2 : IsTrue s0.tells → IsTrue s2.tells
  tells_2 tells = subst IsTrue (sym called.tells) tells

  module _ (tells : IsTrue s0.tells) where
    ready : IsReady s0 has.settled r
    ready = has.settles.ends.1 tells

    pub volume_2 : IsVolume s2.cells s2.image r.volume.geometry
    volume_2 = subst (λ (k : ℕ). IsVolume k s2.image r.volume.geometry) (sym has.looked.cells)
        (volume_on has.looked.image ready.volume)

    pub ends_2 : EndsBelow r.volume.geometry s2.image r.horizon r.edge
    ends_2 = ends_on {before = has.settled.image} {before' = has.settled.image} (extends_self has.settled.image)
        has.looked.image ready.edge

    module _ (less : r.horizon < r.volume.geometry.slots) where
      -- the slot was free before
      pub free_0 : s0.image (reserve_at r.horizon) ≡ None
      free_0 = ready.horizon.free less

      module _ (still : IsStill s0.foreign_writes s2.foreign_writes) where
        -- and is
        pub free_2 : s2.image (reserve_at r.horizon) ≡ None
        free_2 = same still (reserve_at r.horizon) ∙ ready.free (still_1 still) less

        -- and what stands ahead of the log stood there before
        pub ahead_0 : (cell : ℕ) (v : List ℕ) → IsAhead r.volume.geometry r.horizon r.edge cell
            → s2.image cell ≡ Some v → s0.image cell ≡ Some v
        ahead_0 cell v ahead here = stood_ahead r ready has.settles.ends.0 less (has.settles.writes tells)
            (still_1 still) cell v ahead (sym (same still cell) ∙ here)

        pub volume_0 : IsVolume s0.cells s0.image r.volume.geometry
        volume_0 = volume_before r ready has.settles.ends.0 less (has.settles.writes tells) (still_1 still)
            has.settles.called.cells

        pub ends_0 : EndsBelow r.volume.geometry s0.image r.horizon r.edge
        ends_0 = ends_before r ready has.settles.ends.0 less (has.settles.writes tells) (still_1 still)
