-- Settling was ended; not each cell was read; cell 0 is no volume cell; the rules were checked.
use Rattle.std.proofs.Common.{Err, Ok, Option, List, ℕ, subst}
use Rattle.cell_types.proofs.Passed.{handed}
use Rattle.commit_record.specs.Opening.{StatedBy, refusal_of}
use Rattle.log_audit.specs.Kept.{count_of}
use Rattle.volume_audit.proofs.Audited.{audits, no_volume, stated_volume, unkept, unsettled}
use Rattle.volume_audit.proofs.auditing.audit_metered.Goals as goal

pub returns-in_err-_ready : goal.returns-in_err-_ready
returns-in_err-_ready g c =
    let refusal = c.in_err-_ready.field-0.0 in
    rw (handed c.from_residual.result refusal c.from_residual.ensures.1) (unsettled refusal c.in_err-_ready.ensures)

pub returns-in_err-kept : goal.returns-in_err-kept
returns-in_err-kept g c =
    let refusal = c.in_err-kept.field-0.0 in
    rw (handed c.from_residual-in_err-kept.result refusal c.from_residual-in_err-kept.ensures.1)
    (unkept c.in_ok-_ready._ready c.in_ok-_ready.ensures (g.met.D.Device.proper c.settle.new.device)
    c.in_err-kept.ensures.called c.in_err-kept.ensures.quiet refusal c.in_err-kept.ensures.ends)

pub returns-in_err-volume : goal.returns-in_err-volume
returns-in_err-volume g c =
    let why = c.in_err-volume.field-0.0 in
    rw (handed c.from_residual-in_err-volume.result (refusal_of why) c.from_residual-in_err-volume.ensures.1)
    (no_volume c.in_ok-_ready._ready c.in_ok-_ready.ensures (g.met.D.Device.proper c.settle.new.device)
    c.in_ok-kept.ensures.called c.in_ok-kept.ensures.quiet c.in_ok-kept.kept c.in_ok-kept.ensures.ends why
    (subst (λ (found : Option (List ℕ)). StatedBy found (count_of c.in_ok-kept.kept) (Err why)) c.at.ensures
    (subst (λ (n : ℕ). StatedBy c.at.result n (Err why)) c.count.ensures c.in_err-volume.ensures)))

pub returns : goal.returns
returns g c =
    audits c.in_ok-_ready._ready c.in_ok-_ready.ensures (g.met.D.Device.proper c.settle.new.device)
    c.in_ok-kept.ensures.called c.in_ok-kept.ensures.quiet c.in_ok-kept.kept c.in_ok-kept.ensures.ends
    c.in_ok-volume.volume.geometry (stated_volume (subst (λ (found : Option (List ℕ)). StatedBy found c.count.result
    (Ok c.in_ok-volume.volume)) c.at.ensures c.in_ok-volume.ensures)) c.judge.result c.judge.ensures
