-- No record stands there.
use Rattle.log_audit.proofs.Deciding.{none_held}
use Rattle.log_audit.proofs.looks.reservation.Goals as goal

pub returns-in_default-clause-none : goal.returns-in_default-clause-none
returns-in_default-clause-none c = λ start length r. none_held c.record_at.ensures.one c.in_default.is c.reserve_at.ensures.at r.reserve
