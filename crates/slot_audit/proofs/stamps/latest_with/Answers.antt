-- A slot that is not done, one without a stamp, the first stamp, and the greater of two.
use Rattle.std.proofs.Common.{inr, subst}
use Rattle.log_audit.specs.KeptVolumes.{image_in}
use Rattle.slot_audit.specs.Strays.{IsLatest}
use Rattle.slot_audit.proofs.Stamping.{done_stored, latest_first, latest_more, latest_same}
use Rattle.slot_audit.proofs.stamps.latest_with.Goals as goal

pub returns-in_default : goal.returns-in_default
returns-in_default c = let volume = c.args.volume.now in
    latest_same volume.geometry (image_in volume) c.args.slot c.args.latest c.requires.latest
    (λ seconds done stamp. c.in_default.ensures.none done.start done.length done.bytes done.journal
    (record { commits = done.done.commits; done = inr done.done.done }))

pub returns-in_default-stamp_at : goal.returns-in_default-stamp_at
returns-in_default-stamp_at c = let volume = c.args.volume.now in
    latest_same volume.geometry (image_in volume) c.args.slot c.args.latest c.requires.latest
    (λ seconds done stamp. c.in_default-stamp_at.ensures.none seconds stamp)

pub returns-in_default-latest : goal.returns-in_default-latest
returns-in_default-latest c = let volume = c.args.volume.now in
    latest_first volume.geometry (image_in volume) c.args.slot c.in-Some-stamp_at.seconds
    (done_stored c.in-Some.ensures.some c.in-Some.ensures.same) c.in-Some-stamp_at.ensures.some
    (subst (IsLatest volume.geometry (image_in volume) c.args.slot) c.in_default-latest.is c.requires.latest)

pub returns : goal.returns
returns c = let volume = c.args.volume.now in
    latest_more volume.geometry (image_in volume) c.args.slot c.in-Some-stamp_at.seconds
    (done_stored c.in-Some.ensures.some c.in-Some.ensures.same) c.in-Some-stamp_at.ensures.some
    c.in-Some-latest.lower c.max.result c.max.ensures
    (subst (IsLatest volume.geometry (image_in volume) c.args.slot) c.in-Some-latest.is c.requires.latest)
