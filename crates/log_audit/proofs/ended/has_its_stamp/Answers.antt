-- No record stands in the spare cell, so no stamp does.
use Rattle.log_audit.proofs.Deciding.{no, none_held}
use Rattle.log_audit.proofs.ended.has_its_stamp.Goals as goal

pub returns-in_default : goal.returns-in_default
returns-in_default c = no (λ stamped.
    let is = stamped (c.is_stamped.ensures.stamped.0 c.if-not-is_stamped.false) in
    none_held c.record_at.ensures.one c.in_default.is c.spare_at.ensures.at is.stamp)
