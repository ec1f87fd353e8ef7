-- The reserve cell holds no record, and asks nothing.
use Rattle.log_audit.proofs.Deciding.{yes, none_held}
use Rattle.log_audit.proofs.slot_rules.fits_reserved.Goals as goal

pub returns-in_default : goal.returns-in_default
returns-in_default c = yes (λ start reserved r. absurd (none_held c.record_at.ensures.one c.in_default.is c.reserve_at.ensures.at r))
