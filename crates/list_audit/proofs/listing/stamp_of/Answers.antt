-- A stored slot of a volume of stamped documents has a stamp, so a record stands in its spare cell.
use Rattle.log_audit.proofs.Deciding.{none_held}
use Rattle.list_audit.proofs.listing.stamp_of.Goals as goal

pub unreachable-requires : goal.unreachable-requires
unreachable-requires c =
    let is = c.requires.done.commits.stamped (c.is_stamped.ensures.stamped.0 c.if-not-is_stamped.false) in
    none_held c.record_at.ensures.one c.in_default.is c.spare_at.ensures.at is.stamp
