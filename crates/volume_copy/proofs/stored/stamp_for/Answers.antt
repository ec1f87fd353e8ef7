-- A done slot has a stamp where documents are stamped.
use Rattle.document_store.proofs.Holding.{part_is_done}
use Rattle.volume_copy.proofs.Slots.{has_stamp, never_named}
use Rattle.volume_copy.proofs.stored.stamp_for.Goals as goal

pub returns-in_default-found-clause-ends : goal.returns-in_default-found-clause-ends
returns-in_default-found-clause-ends g c =
    let ends = rw c.in_default-found.is at c.in-Ok.ensures.ends in
    let part = c.args.part.now in
    rw c.from.ensures
    (rw c.name_commit.ensures
    (never_named c.args.volume.now.geometry part.slot (g.V.View.seen c.args.view.now) (g.V.View.seen c.stamp_of.new.view)
    part (has_stamp c.args.volume.now.geometry part.slot c.stamp_of.ensures.viewed
    (c.is_stamped.ensures.stamped.0 c.if-not-is_stamped.false)
    (λ tells. part_is_done (c.requires.part.is tells)) ends.1)))
