-- A stamp is in order where it is greater than the greatest of the done slots below, and where none of them has one.
use Rattle.std.proofs.Common.{subst}
use Rattle.log_audit.specs.Kept.{image_of_kept}
use Rattle.log_audit.proofs.Deciding.{written_by}
use Rattle.slot_audit.specs.Strays.{IsLatest}
use Rattle.slot_audit.proofs.Stamping.{first_is_true, greater_is_true}
use Rattle.slot_audit.proofs.stamps.is_true_stamp.Goals as goal

pub returns-in-Some-latest : goal.returns-in-Some-latest
returns-in-Some-latest c =
    greater_is_true c.args.geometry.now (image_of_kept c.args.kept.now) c.args.slot c.in-Some.seconds
    (c.is_stamped.ensures.stamped.0 c.if-not-is_stamped.false)
    (written_by c.at.ensures c.if-is_none.ensures c.reserve_at.ensures.at) c.in-Some.ensures.some c.in-Some-latest.lower
    (subst (IsLatest c.args.geometry.now (image_of_kept c.args.kept.now) c.args.slot) c.in-Some-latest.is c.requires.latest)

pub returns-in-None : goal.returns-in-None
returns-in-None c =
    first_is_true c.args.geometry.now (image_of_kept c.args.kept.now) c.args.slot c.in-Some.seconds
    (c.is_stamped.ensures.stamped.0 c.if-not-is_stamped.false)
    (written_by c.at.ensures c.if-is_none.ensures c.reserve_at.ensures.at) c.in-Some.ensures.some
    (subst (IsLatest c.args.geometry.now (image_of_kept c.args.kept.now) c.args.slot) c.in-None.is c.requires.latest)
