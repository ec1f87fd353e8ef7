-- The block is full; its greatest key is lower; the pointer leads on, or there is none.
use Rattle.std.proofs.Common.{arith}
use Rattle.log_audit.specs.Kept.{image_of_kept}
use Rattle.volume_meaning.proofs.Fronts.{front_holds}
use Rattle.list_audit.proofs.Stepping.{full_of, no_way, leads_on_to}
use Rattle.list_audit.proofs.steps.step_on.Goals as goal

pub unreachable-requires : goal.unreachable-requires
unreachable-requires c =
    let w = c.requires.full.lower 127 (omega arith) in c.in_default.ensures.none w.0 (front_holds w.1)

pub span-keys-requires : goal.span-keys-requires
span-keys-requires c =
    let f = full_of c.args.geometry.now (image_of_kept c.args.kept.now) c.args.listed.now.list c.args.listed.now.block c.args.posting.now
    c.in-Some.greatest c.requires.block c.requires.full c.in-Some.ensures.some in
    omega (arith, f.1)

pub returns-in-Some-pointer_target : goal.returns-in-Some-pointer_target
returns-in-Some-pointer_target c = leads_on_to c.args.geometry.now (image_of_kept c.args.kept.now) c.args.listed.now.list c.args.listed.now.block
    c.args.posting.now c.in-Some.greatest c.requires.block c.requires.full c.in-Some.ensures.some
    c.span-keys.result c.span-keys.ensures.is
    (omega (arith, c.span-keys.ensures.low)) (omega (arith, c.span-keys.ensures.high))
    _ (omega (arith, c.from.ensures, c.from-2.ensures)) c.in-Some-pointer_target.target c.in-Some-pointer_target.ensures c.requires.pointers

pub returns-in-None : goal.returns-in-None
returns-in-None c = no_way c.args.geometry.now (image_of_kept c.args.kept.now) c.args.listed.now.list c.args.listed.now.block
    c.args.posting.now c.in-Some.greatest c.requires.block c.requires.full c.in-Some.ensures.some
    c.span-keys.result c.span-keys.ensures.is
    (omega (arith, c.span-keys.ensures.low)) (omega (arith, c.span-keys.ensures.high))
    _ (omega (arith, c.from.ensures, c.from-2.ensures)) c.in-None.ensures
