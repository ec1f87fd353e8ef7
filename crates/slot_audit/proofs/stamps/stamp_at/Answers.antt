-- No record is there.
use Rattle.log_audit.proofs.Deciding.{none_held}
use Rattle.slot_audit.proofs.stamps.stamp_at.Goals as goal

pub returns-in_default-clause-none : goal.returns-in_default-clause-none
returns-in_default-clause-none c = λ seconds has.
    none_held c.record_at.ensures.one c.in_default.is c.spare_at.ensures.at has
