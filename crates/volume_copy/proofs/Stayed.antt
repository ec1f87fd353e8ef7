-- What a crash leaves of one row of calls after another.
use Rattle.std.proofs.Common.{◌≡◌, ℕ, List, Result, inl, inr, ⊎_elim, sym, subst, arith, Option}
use Rattle.std.specs.Prelude.{IsTrue}
use Rattle.cell_types.specs.declared.refusal.Refusal.{Refusal}
use Rattle.tamper_rules.specs.Settling.{IsBlankOrSound}
use Rattle.worm_device.specs.Calls.{Called}
use Rattle.worm_device.specs.State.{DeviceState, IsDevice, LeftSince}
use Rattle.worm_device.proofs.Counting.{still_first, still_second}
use Rattle.worm_device.proofs.Elapsing.{called_self, elapses_of}
use Rattle.ingest_engine.specs.Ingesting.{Ingests}
use Rattle.crash_laws.specs.SettlingSteadiness.{IsLeftWhole, IsSteady}
use Rattle.crash_laws.specs.Steadiness.{IsLeftByIngest}
use Rattle.crash_laws.proofs.Steady.{comes_steady}
use Rattle.command_laws.specs.Begins.{BeginsSteady}
use Rattle.command_laws.specs.Telling.{LeavesHeld}
use Rattle.command_laws.proofs.LeavesThen.{leaves_then}
use Rattle.command_laws.proofs.LookedFirst.{looked_leaves}
use Rattle.cell_types.specs.Layout.{Layout}
use Rattle.recovery_engine.specs.Settling.{Settles}
use Rattle.recovery_engine.specs.declared.settling.Ready.{Ready}
use Rattle.ingest_engine.specs.Formats.{Formats}
use Rattle.volume_audit.specs.Audits.{Audits}
use Rattle.volume_audit.specs.declared.report.AuditReport.{AuditReport}
use Rattle.volume_audit.proofs.Comes.{settles_first}
use Rattle.command_laws.proofs.Formatting.{format_leaves}
use Rattle.command_laws.proofs.Queries.{query_leaves, settling_leaves}
use Rattle.volume_copy.specs.Reading.{IsOnlyRead}
use Rattle.volume_copy.specs.Staying.{IsHeldThroughout, IsSoundThroughout, StaysSound}

-- what leaves the documents that were held leaves what is sound
sound_from : {old new : DeviceState} → LeavesHeld old new → StaysSound old new
sound_from {old} {new} leaves = record {
  crashes = λ since image le left. ⊎_elim inl
      (λ (l : IsLeftWhole old image). inr l.sound)
      (leaves.stays.crashes since image le left);
  steady = leaves.stays.steady;
}

-- nothing was done
pub sound_self : (s : DeviceState) → IsSoundThroughout s s
sound_self s = λ begins. record { crashes = λ since image le left. inl left; steady = begins.steady }

-- the device was only read
pub read_held : {old new : DeviceState} → IsDevice old → IsDevice new → IsOnlyRead old new → IsHeldThroughout old new
read_held {old} {new} device device_new read = λ begins.
    looked_leaves old new new device read.called (called_self new) read.only begins device_new

-- one row of calls after another
begins_first : {a b c : DeviceState} → Called a b → Called b c → BeginsSteady a c → BeginsSteady a b
begins_first p q begins = record {
  tells = begins.tells;
  steady = begins.steady;
  alone = still_first p.foreign_writes q.foreign_writes begins.alone;
}

begins_second : {a b c : DeviceState} → Called a b → Called b c → BeginsSteady a c → IsSteady b → BeginsSteady b c
begins_second p q begins steady = record {
  tells = subst IsTrue (sym p.tells) begins.tells;
  steady = steady;
  alone = still_second p.foreign_writes q.foreign_writes begins.alone;
}

both : {a b c : DeviceState} → Called a b → StaysSound a b → StaysSound b c → StaysSound a c
both {a} {b} {c} p first second = record {
  crashes = λ since image le left. ⊎_elim
      (λ (before : LeftSince b since image). first.crashes since image le before)
      (λ (sound : IsBlankOrSound b.cells image). inr (subst (λ (k : ℕ). IsBlankOrSound k image) p.cells sound))
      (second.crashes since image (omega (arith, le, (elapses_of p).later)) left);
  steady = second.steady;
}

pub sound_then : {a b c : DeviceState} → Called a b → Called b c → IsSoundThroughout a b → IsSoundThroughout b c → IsSoundThroughout a c
sound_then p q first second = λ begins.
    let one = first (begins_first p q begins) in
    both p one (second (begins_second p q begins one.steady))

pub held_then : {a b c : DeviceState} → IsDevice a → IsDevice b → Called a b → Called b c → IsHeldThroughout a b
    → IsHeldThroughout b c → IsHeldThroughout a c
held_then device device_b p q first second = λ begins.
    let one = first (begins_first p q begins) in
    leaves_then device p begins.steady device_b one (second (begins_second p q begins one.stays.steady))

pub sound_of : {a b : DeviceState} → IsHeldThroughout a b → IsSoundThroughout a b
sound_of whole = λ begins. sound_from (whole begins)

-- an audit, whatever it answers
pub audit_held : {old new : DeviceState} (result : Result AuditReport Refusal) → IsDevice old → IsDevice new
    → Audits old new result → IsHeldThroughout old new
audit_held {old} {new} result device device_new audits = λ begins.
    query_leaves old new device device_new begins (settles_first audits.comes)

-- settling
pub settle_held : {old new : DeviceState} (result : Result Ready Refusal) → IsDevice old → IsDevice new
    → Settles old new result → IsHeldThroughout old new
settle_held {old} {new} result device device_new settles = λ begins.
    settling_leaves old new device device_new begins result settles

-- formatting
pub format_held : (g : Layout) {old new : DeviceState} (result : Result Unit Refusal) → g.cells ≡ old.cells
    → IsDevice old → Formats g old new result → IsHeldThroughout old new
format_held g {old} {new} result size device formats = λ begins.
    format_leaves g old new size device begins formats.called formats.only result formats.ends

-- an ingest, whatever it answers
pub ingest_sound : {id : List ℕ} {stamp : Option ℕ} {body : List ℕ} {old new : DeviceState} (result : Result ℕ Refusal)
    → IsDevice old → IsDevice new → Ingests id stamp body old new result → IsSoundThroughout old new
ingest_sound {id} {stamp} {body} {old} {new} result device device_new ingests = λ begins.
    let stays = comes_steady id stamp body old new device device_new begins.tells begins.alone begins.steady ingests.comes
    in
    record {
      crashes = λ since image le left. ⊎_elim inl
          (λ (l : IsLeftByIngest id stamp body old image). inr l.sound)
          (stays.crashes since image le left);
      steady = stays.steady;
    }
