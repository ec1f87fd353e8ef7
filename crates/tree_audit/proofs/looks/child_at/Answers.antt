-- No record stands there.
use Rattle.std.proofs.Common.{refl}
use Rattle.log_audit.proofs.Deciding.{none_held}
use Rattle.tree_audit.proofs.looks.child_at.Goals as goal

pub returns-in_default : goal.returns-in_default
returns-in_default c = λ target h. none_held c.record_at.ensures.one c.in_default.is refl h.held
