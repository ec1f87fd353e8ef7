-- Documents are not stamped; or the stamp was read.
use Rattle.kept_documents.proofs.Stamping.{with_stamp, without_stamp}
use Rattle.kept_documents.proofs.stamps.slot_stamp.Goals as goal

-- there is none
pub returns-in_default : goal.returns-in_default
returns-in_default g c =
    without_stamp c.args.volume.now.geometry c.args.slot c.stamp_of.ensures.viewed
    (c.is_stamped.ensures.stamped.0 c.if-not-is_stamped.false)
    (rw c.in_default.is at c.in_ok-found.ensures.ends)

-- there is one
pub returns : goal.returns
returns g c =
    with_stamp c.args.volume.now.geometry c.args.slot c.stamp_of.ensures.viewed
    (c.is_stamped.ensures.stamped.0 c.if-not-is_stamped.false) c.in-Some.seconds
    (rw c.in-Some.is at c.in_ok-found.ensures.ends)
