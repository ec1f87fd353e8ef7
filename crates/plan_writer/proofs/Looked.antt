-- The phases of a plan, seen from before looks that came first.
use Rattle.std.proofs.Common.{◌≡◌, ◌≤◌, ◌+◌, ◌-◌, ℕ, Ok, Err, inl, inr, ⊎_elim, subst, arith}
use Rattle.std.specs.Prelude.{Result}
use Rattle.cell_types.specs.Image.{IsUnchanged}
use Rattle.cell_types.specs.declared.refusal.Fault.{Fault}
use Rattle.recovery_engine.specs.declared.put.Put.{Put}
use Rattle.recovery_engine.specs.Putting.{LeavesPhases, PutsPhases}
use Rattle.recovery_engine.proofs.Phasing.{changes_same, crashes_looked, phases_append, phases_append_ended, phases_looked, phases_none}
use Rattle.worm_device.specs.Calls.{Called}
use Rattle.worm_device.specs.Counts.{IsStill}
use Rattle.worm_device.specs.State.{DeviceState}
use Rattle.plan_writer.specs.Planned.{INGEST_PHASES, ingest_phases}
use Rattle.plan_writer.specs.PuttingPlans.{PutsPlan}
use Rattle.plan_writer.specs.declared.plan.Plan.{Plan}

-- phases of a plan are all that putting it does
pub put_by_phases : (n : ℕ) (p : Plan) (old new : DeviceState) (result : Result (Unit {0}) Fault)
    → PutsPhases (ingest_phases n p) INGEST_PHASES old new result → PutsPlan n p old new
put_by_phases n p old new result phases =
    record { called = phases.puts.called; only = phases.puts.only; crashes = phases.crashes }

module _ (n : ℕ) (p : Plan) {a b : DeviceState} (ab : Called a b)
    (quiet : IsStill a.foreign_writes b.foreign_writes → IsUnchanged a.image b.image) where
  -- looks alone put nothing
  pub put_by_looks : PutsPlan n p a b
  put_by_looks = record {
    called = ab;
    only = λ tells still. changes_same _ a.image b.image (quiet still);
    crashes = λ tells since image le left. ⊎_elim inl
        (λ (l : LeavesPhases (ingest_phases n p) 0 a b image). inr (record {
          phase = l.phase;
          begun = omega (arith, l.begun);
          all = l.all;
          sure = l.sure;
          synced = l.synced;
          only = l.only;
        }))
        (crashes_looked (ingest_phases n p) 0 tt (phases_none (ingest_phases n p) a) ab quiet tells since image le left);
  }

  to : (j : ℕ) (put : Put) → ingest_phases n p j put → ingest_phases n p (0 + j) put
  to j put h = subst (λ (i : ℕ). ingest_phases n p i put) (omega arith) h

  back : (j : ℕ) (put : Put) → 0 ≤ j → ingest_phases n p j put → ingest_phases n p (j - 0) put
  back j put from h = subst (λ (i : ℕ). ingest_phases n p i put) (omega arith) h

  module _ (none : b.faults ≡ a.faults) where
    none_yet : PutsPhases (ingest_phases n p) 0 a b (Ok tt)
    none_yet = phases_looked (ingest_phases n p) 0 tt (phases_none (ingest_phases n p) a) tt ab quiet none

    -- and phases behind them are the plan's
    pub phases_behind : {c : DeviceState} (result : Result (Unit {0}) Fault)
        → PutsPhases (ingest_phases n p) INGEST_PHASES b c result
        → PutsPhases (ingest_phases n p) INGEST_PHASES a c result
    phases_behind (Ok u) phases =
        phases_append (ingest_phases n p) (ingest_phases n p) 0 5 to back tt none_yet u u phases
    phases_behind (Err fault) phases =
        phases_append_ended (ingest_phases n p) (ingest_phases n p) 0 5 to back tt none_yet fault phases
