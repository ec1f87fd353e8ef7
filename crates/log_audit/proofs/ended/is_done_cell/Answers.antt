-- No record stands there.
use Rattle.log_audit.proofs.Deciding.{no, none_held}
use Rattle.log_audit.proofs.ended.is_done_cell.Goals as goal

pub returns-in_default : goal.returns-in_default
returns-in_default c = no (none_held c.record_at.ensures.one c.in_default.is c.done_at.ensures.at)
