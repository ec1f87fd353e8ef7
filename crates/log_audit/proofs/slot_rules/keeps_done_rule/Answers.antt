-- The slot has no outcome.
use Rattle.log_audit.proofs.Deciding.{no, none_held}
use Rattle.log_audit.proofs.slot_rules.keeps_done_rule.Goals as goal

pub returns-in_default : goal.returns-in_default
returns-in_default c = no (λ h. none_held c.record_at.ensures.one c.in_default.is c.outcome_at.ensures.at h.commit)
