-- The source was audited, the target began, and the rest was copied.
use Rattle.volume_copy.proofs.AddedOn.{can_on}
use Rattle.volume_copy.proofs.Begun.{can_audited}
use Rattle.volume_copy.proofs.Copied.{not_audited, not_begun, not_rested, rested}
use Rattle.volume_copy.proofs.WholeVolumes.{refuses_called}
use Rattle.volume_copy.proofs.copying.copy_metered.Goals as goal

-- the source was not audited
pub returns-in-Err : goal.returns-in-Err
returns-in-Err g c = rw c.from_source.ensures (not_audited c.args.slots c.args.lists _ _ _ c.in-Err.refusal
    (refuses_called c.in-Err.ensures.ends) (g.met.E.Device.proper c.args.to.now) c.audited_volume.ensures.held
    c.in-Err.ensures.steady c.in-Err.ensures.ends)

pub begin-requires-clause-source : goal.begin-requires-clause-source
begin-requires-clause-source g c = can_audited c.in-Ok.ensures.ends

-- the target did not begin
pub returns-in-Err-begin : goal.returns-in-Err-begin
returns-in-Err-begin g c = not_begun c.in-Ok.ensures.ends c.audited_volume.ensures.held
    (g.met.D.Device.proper c.args.from.now) (g.met.D.Device.proper c.audited_volume.new.device)
    (g.met.D.Device.proper c.begin.new.from) (g.met.E.Device.proper c.args.to.now) c.in-Err-begin.refusal
    c.in-Err-begin.ensures

pub copy_rest-requires : goal.copy_rest-requires
copy_rest-requires g c = record {
  source = can_on c.in-Ok-begin.ensures.from_read.called (can_audited c.in-Ok.ensures.ends);
}

-- all was copied
pub returns-in-Ok-copy_rest : goal.returns-in-Ok-copy_rest
returns-in-Ok-copy_rest g c = rested c.in-Ok.ensures.ends c.audited_volume.ensures.held
    (g.met.D.Device.proper c.args.from.now) (g.met.D.Device.proper c.audited_volume.new.device)
    (g.met.D.Device.proper c.begin.new.from) (g.met.E.Device.proper c.args.to.now)
    (g.met.D.Device.proper c.copy_rest.new.from) c.in-Ok-begin.moved c.in-Ok-begin.ensures c.copy_rest.new.moved
    c.in-Ok-copy_rest.ensures

-- a document was not
pub returns : goal.returns
returns g c = not_rested c.in-Ok.ensures.ends c.audited_volume.ensures.held
    (g.met.D.Device.proper c.args.from.now) (g.met.D.Device.proper c.audited_volume.new.device)
    (g.met.D.Device.proper c.begin.new.from) (g.met.E.Device.proper c.args.to.now)
    (g.met.D.Device.proper c.copy_rest.new.from) c.in-Ok-begin.moved c.in-Ok-begin.ensures _
    c.in-Err-copy_rest.refusal c.in-Err-copy_rest.ensures
