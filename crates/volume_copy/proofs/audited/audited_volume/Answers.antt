-- Who refuses, and what is known where none does.
use Rattle.std.proofs.Common.{subst}
use Rattle.std.specs.Prelude.{IsTrue}
use Rattle.cell_types.proofs.Passed.{handed}
use Rattle.volume_copy.specs.Auditing.{by_audit, by_settling}
use Rattle.volume_copy.proofs.Unhindered.{audit_steady, read_steady, settle_steady}
use Rattle.volume_copy.proofs.WholeVolumes.{has_audited, settled_new, volume_b, walk_refuses}
use Rattle.worm_device.proofs.Elapsing.{called_then}
use Rattle.volume_copy.proofs.Stayed.{audit_held, held_then, read_held, settle_held}
use Rattle.volume_copy.proofs.audited.audited_volume.Goals as goal

pub returns-in_err-_report-clause-ends : goal.returns-in_err-_report-clause-ends
returns-in_err-_report-clause-ends g c =
    let refusal = c.in_err-_report.field-0.0 in
    rw (handed c.from_residual.result refusal c.from_residual.ensures.1) (by_audit c.in_err-_report.ensures)

pub returns-in_err-ready-clause-ends : goal.returns-in_err-ready-clause-ends
returns-in_err-ready-clause-ends g c =
    let refusal = c.in_err-ready.field-0.0 in
    rw (handed c.from_residual-in_err-ready.result refusal c.from_residual-in_err-ready.ensures.1)
    (by_settling _ c.in_ok-_report._report c.in_ok-_report.ensures c.in_err-ready.ensures)

pub returns-in_err-parts-clause-ends : goal.returns-in_err-parts-clause-ends
returns-in_err-parts-clause-ends g c =
    let refusal = c.in_err-parts.field-0.0 in
    rw (handed c.from_residual-in_err-parts.result refusal c.from_residual-in_err-parts.ensures.1)
    (walk_refuses c.in_ok-ready.ready c.in_ok-_report.ensures c.in_ok-ready.ensures c.done_parts.ensures.read
    (g.met.D.Device.proper c.settle.new.device) (g.met.D.Device.proper c.done_parts.new.device) refusal
    c.in_err-parts.ensures.ends)

pub returns-clause-ends : goal.returns-clause-ends
returns-clause-ends g c =
    has_audited c.in_ok-ready.ready c.in_ok-_report.ensures c.in_ok-ready.ensures c.done_parts.ensures.read
    (g.met.D.Device.proper c.settle.new.device) (g.met.D.Device.proper c.done_parts.new.device) c.in_ok-parts.parts
    c.in_ok-parts.ensures.ends

-- where nothing hinders
pub returns-in_err-_report-clause-steady : goal.returns-in_err-_report-clause-steady
returns-in_err-_report-clause-steady g c =
    let refusal = c.in_err-_report.field-0.0 in
    rw (handed c.from_residual.result refusal c.from_residual.ensures.1)
    (audit_steady (g.met.D.Device.proper c.args.device.now) (g.met.D.Device.proper c.audit_metered.new.device) refusal
    c.in_err-_report.ensures)

pub returns-in_err-ready-clause-steady : goal.returns-in_err-ready-clause-steady
returns-in_err-ready-clause-steady g c =
    let refusal = c.in_err-ready.field-0.0 in
    rw (handed c.from_residual-in_err-ready.result refusal c.from_residual-in_err-ready.ensures.1)
    (settle_steady (g.met.D.Device.proper c.args.device.now) (g.met.D.Device.proper c.audit_metered.new.device)
    (g.met.D.Device.proper c.settle.new.device) c.in_ok-_report.ensures c.settle.ensures.called refusal
    c.in_err-ready.ensures)

pub returns-in_err-parts-clause-steady : goal.returns-in_err-parts-clause-steady
returns-in_err-parts-clause-steady g c =
    let refusal = c.in_err-parts.field-0.0 in
    rw (handed c.from_residual-in_err-parts.result refusal c.from_residual-in_err-parts.ensures.1)
    (read_steady (called_then c.audit_metered.ensures.called c.settle.ensures.called) c.done_parts.ensures.read.called
    (settled_new c.in_ok-ready.ready c.in_ok-_report.ensures c.in_ok-ready.ensures c.done_parts.ensures.read
    (g.met.D.Device.proper c.settle.new.device) (g.met.D.Device.proper c.done_parts.new.device))
    refusal
    (λ tells. c.in_err-parts.ensures.ends (λ also. volume_b c.in_ok-ready.ready c.in_ok-_report.ensures
    c.in_ok-ready.ensures c.done_parts.ensures.read (g.met.D.Device.proper c.settle.new.device)
    (g.met.D.Device.proper c.done_parts.new.device)
    (subst IsTrue (called_then c.audit_metered.ensures.called c.settle.ensures.called).tells also))))

pub returns-clause-steady : goal.returns-clause-steady
returns-clause-steady g c = λ layout log refusal same. absurd cc

-- what a crash leaves of each
pub returns-in_err-_report-clause-held : goal.returns-in_err-_report-clause-held
returns-in_err-_report-clause-held g c =
    audit_held c.audit_metered.result (g.met.D.Device.proper c.args.device.now) (g.met.D.Device.proper c.audit_metered.new.device)
    c.audit_metered.ensures

pub returns-in_err-ready-clause-held : goal.returns-in_err-ready-clause-held
returns-in_err-ready-clause-held g c =
    held_then (g.met.D.Device.proper c.args.device.now) (g.met.D.Device.proper c.audit_metered.new.device) c.audit_metered.ensures.called
    c.settle.ensures.called
    (audit_held c.audit_metered.result (g.met.D.Device.proper c.args.device.now) (g.met.D.Device.proper c.audit_metered.new.device)
    c.audit_metered.ensures)
    (settle_held c.settle.result (g.met.D.Device.proper c.audit_metered.new.device) (g.met.D.Device.proper c.settle.new.device)
    c.settle.ensures)

pub returns-in_err-parts-clause-held : goal.returns-in_err-parts-clause-held
returns-in_err-parts-clause-held g c =
    held_then (g.met.D.Device.proper c.args.device.now) (g.met.D.Device.proper c.settle.new.device)
    (called_then c.audit_metered.ensures.called c.settle.ensures.called) c.done_parts.ensures.read.called
    (held_then (g.met.D.Device.proper c.args.device.now) (g.met.D.Device.proper c.audit_metered.new.device) c.audit_metered.ensures.called
    c.settle.ensures.called
    (audit_held c.audit_metered.result (g.met.D.Device.proper c.args.device.now) (g.met.D.Device.proper c.audit_metered.new.device)
    c.audit_metered.ensures)
    (settle_held c.settle.result (g.met.D.Device.proper c.audit_metered.new.device) (g.met.D.Device.proper c.settle.new.device)
    c.settle.ensures))
    (read_held (g.met.D.Device.proper c.settle.new.device) (g.met.D.Device.proper c.done_parts.new.device)
    c.done_parts.ensures.read)

pub returns-clause-held : goal.returns-clause-held
returns-clause-held g c =
    held_then (g.met.D.Device.proper c.args.device.now) (g.met.D.Device.proper c.settle.new.device)
    (called_then c.audit_metered.ensures.called c.settle.ensures.called) c.done_parts.ensures.read.called
    (held_then (g.met.D.Device.proper c.args.device.now) (g.met.D.Device.proper c.audit_metered.new.device) c.audit_metered.ensures.called
    c.settle.ensures.called
    (audit_held c.audit_metered.result (g.met.D.Device.proper c.args.device.now) (g.met.D.Device.proper c.audit_metered.new.device)
    c.audit_metered.ensures)
    (settle_held c.settle.result (g.met.D.Device.proper c.audit_metered.new.device) (g.met.D.Device.proper c.settle.new.device)
    c.settle.ensures))
    (read_held (g.met.D.Device.proper c.settle.new.device) (g.met.D.Device.proper c.done_parts.new.device)
    c.done_parts.ensures.read)
