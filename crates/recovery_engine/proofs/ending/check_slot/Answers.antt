-- The journal of a slot that is committed.
use Rattle.recovery_engine.proofs.Licensed.{journal_checked}
use Rattle.recovery_engine.proofs.ending.check_slot.Goals as goal

pub returns-in-Committed-clause-ends : goal.returns-in-Committed-clause-ends
returns-in-Committed-clause-ends g c =
    journal_checked c.args.geometry.now c.args.slot c.in-Committed.start c.in-Committed.length c.in-Committed.bytes
    c.in-Committed.journal (g.D.Device.state c.args.device.now) (g.D.Device.state c.check_journal.new.device)
    c.args.state.now c.journal_of.result c.check_journal.result
    c.in-Committed.is c.journal_of.ensures c.check_journal.ensures.ends
