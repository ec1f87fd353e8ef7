-- How putting a plan ends, once the free slot was looked at.
use Rattle.std.proofs.Common.{◌<◌, Ok, Err, refl, arith}
use Rattle.std.specs.Prelude.{IsTrue}
use Rattle.cell_types.specs.Image.{Extends}
use Rattle.cell_types.specs.Layout.{IsLayout}
use Rattle.cell_types.specs.declared.refusal.Fault.{Fault}
use Rattle.cell_types.specs.declared.refusal.Fault.TheVariants.{Tampered, Failed}
use Rattle.recovery_engine.specs.Putting.{PutsPhases}
use Rattle.recovery_engine.specs.Settling.{HasSettled}
use Rattle.recovery_engine.specs.declared.settling.Ready.{Ready}
use Rattle.volume_meaning.specs.Slots.{IsUnused}
use Rattle.volume_meaning.proofs.Extending.{blank_before}
use Rattle.worm_device.specs.State.{DeviceState}
use Rattle.worm_device.proofs.Images.{extends_then}
use Rattle.plan_writer.specs.Blank.{IsSlotFree}
use Rattle.plan_writer.specs.Planned.{INGEST_PHASES, Suits, ingest_phases, reserved_by}
use Rattle.plan_writer.specs.PuttingPlans.{PutPlanEnds}
use Rattle.plan_writer.specs.declared.plan.Plan.{Plan}
use Rattle.plan_writer.proofs.CarriedOut.{carried_out}
use Rattle.plan_writer.proofs.PutFrom.{called, free_0, free_2, tells_2, volume_2}
use Rattle.plan_writer.proofs.TakenCells.{taken_found}

module _ (p : Plan) {s0 s2 : DeviceState} (r : Ready) (has : HasSettled s0 s2 r) (layout : IsLayout r.volume.geometry)
    (less : r.horizon < r.volume.geometry.slots) (suits : Suits r.volume.geometry p)
    (free : IsTrue s2.tells → IsSlotFree s2.image r.horizon (reserved_by p)) where
  -- what was blank at entry was blank before the volume was settled
  free_before : IsTrue s0.tells → IsSlotFree s0.image r.horizon (reserved_by p)
  free_before tells =
      let f = free (tells_2 r has tells) in
      let on = (called r has).image in
      record {
        outcome = blank_before on f.outcome;
        done = blank_before on f.done;
        spare = blank_before on f.spare;
        reserved = λ cell is. blank_before on (f.reserved cell is);
      }

  unused : IsTrue s0.tells → IsUnused r.volume.geometry s0.image r.horizon
  unused tells =
      let f = free_before tells in
      record { slot = less; reserve = free_0 r has tells less; outcome = f.outcome; done = f.done }

  -- the plan is carried out
  pub plan_done : {s4 : DeviceState} (u : Unit {0}) → PutsPhases (ingest_phases r.horizon p) INGEST_PHASES s2 s4 (Ok u)
      → PutPlanEnds r.volume.geometry p r.horizon s0 s2 s4 (Ok r.horizon)
  plan_done u phases = (
    refl,
    λ tells.
        let ready = has.settles.ends.1 tells in
        carried_out r.volume.geometry r.horizon p s0.image layout less suits u phases (tells_2 r has tells)
        (volume_2 r has tells) (unused tells) (free_before tells) (extends_then ready.synced has.looked.sure),
  )

  -- or a cell was taken, or a call failed
  pub plan_refused : {s4 : DeviceState} (fault : Fault)
      → PutsPhases (ingest_phases r.horizon p) INGEST_PHASES s2 s4 (Err fault)
      → Extends s4.sure s4.image → PutPlanEnds r.volume.geometry p r.horizon s0 s2 s4 (Err fault)
  plan_refused Failed phases proper = omega (arith, phases.puts.ends, (called r has).faults)
  plan_refused (Tampered e) phases proper = λ tells.
      let now = tells_2 r has tells in
      taken_found r.volume.geometry r.horizon p layout less suits (called r has) phases.puts.called
      (volume_2 r has tells) (free now) (λ still. free_2 r has tells less still) e (phases.sure now)
      (phases.puts.only now) proper
