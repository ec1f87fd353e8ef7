-- No record is there.
use Rattle.std.proofs.Common.{refl}
use Rattle.log_audit.proofs.Deciding.{none_held}
use Rattle.tree_audit.proofs.leads.jump_at.Goals as goal

pub returns-in_default-clause-none : goal.returns-in_default-clause-none
returns-in_default-clause-none c = λ target h. none_held c.record_at.ensures.one c.in_default.is refl h
