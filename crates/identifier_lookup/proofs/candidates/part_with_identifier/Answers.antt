-- The slot is done, and its document was compared.
use Rattle.std.proofs.Common.{Ok, Err, true, false, arith}
use Rattle.cell_types.proofs.Passed.{handed}
use Rattle.document_store.proofs.Checking.{found_part}
use Rattle.identifier_lookup.proofs.Comparing.{compared}
use Rattle.identifier_lookup.proofs.candidates.part_with_identifier.Goals as goal

-- the part that was found can be asked
pub same_identifier-requires-clause-part : goal.same_identifier-requires-clause-part
same_identifier-requires-clause-part g c =
    found_part c.args.volume.now.geometry c.args.named.now.slot (g.V.View.seen c.args.view.now)
    (g.V.View.seen c.slot_part.new.view) c.in-Some.part c.in_ok-found.ensures.viewed
    (rw c.in-Some.is at c.in_ok-found.ensures.ends) (omega (arith, c.if-named-horizon.false, c.requires.horizon))

-- its document was not read
pub returns-in_err-same : goal.returns-in_err-same
returns-in_err-same g c =
    rw (handed c.from_residual-in_err-same.result c.in_err-same.field-0.0 c.from_residual-in_err-same.ensures.1)
    (compared c.args.volume.now.geometry c.args.horizon c.args.named.now c.args.id.now (g.V.View.seen c.args.view.now)
    (g.V.View.seen c.slot_part.new.view) (g.V.View.seen c.same_identifier.new.view) c.in-Some.part
    c.in_ok-found.ensures.viewed (rw c.in-Some.is at c.in_ok-found.ensures.ends)
    (omega (arith, c.if-named-horizon.false)) c.requires.horizon c.same_identifier.ensures.viewed
    (Err c.in_err-same.field-0.0) c.in_err-same.ensures.ends c.in_ok-found.ensures.reads c.same_identifier.ensures.reads)

-- it has another identifier
pub returns-then-not-same : goal.returns-then-not-same
returns-then-not-same g c =
    compared c.args.volume.now.geometry c.args.horizon c.args.named.now c.args.id.now (g.V.View.seen c.args.view.now)
    (g.V.View.seen c.slot_part.new.view) (g.V.View.seen c.same_identifier.new.view) c.in-Some.part
    c.in_ok-found.ensures.viewed (rw c.in-Some.is at c.in_ok-found.ensures.ends)
    (omega (arith, c.if-named-horizon.false)) c.requires.horizon c.same_identifier.ensures.viewed (Ok false)
    (rw c.if-not-same.true at c.in_ok-same.ensures.ends) c.in_ok-found.ensures.reads c.same_identifier.ensures.reads

-- or this one
pub returns : goal.returns
returns g c =
    compared c.args.volume.now.geometry c.args.horizon c.args.named.now c.args.id.now (g.V.View.seen c.args.view.now)
    (g.V.View.seen c.slot_part.new.view) (g.V.View.seen c.same_identifier.new.view) c.in-Some.part
    c.in_ok-found.ensures.viewed (rw c.in-Some.is at c.in_ok-found.ensures.ends)
    (omega (arith, c.if-named-horizon.false)) c.requires.horizon c.same_identifier.ensures.viewed (Ok true)
    (rw c.if-not-same.false at c.in_ok-same.ensures.ends) c.in_ok-found.ensures.reads c.same_identifier.ensures.reads
