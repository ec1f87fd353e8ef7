-- The place in the middle holds no posting, one with a lower key, or one with no lower key.
use Rattle.std.proofs.Common.{arith}
use Rattle.list_audit.proofs.Placing.{in_the_front, ends_before, stands_below, stands_above, stands_there}
use Rattle.list_audit.proofs.places.place_of.Goals as goal

pub loop-low-preserved-in_default : goal.loop-low-preserved-in_default
loop-low-preserved-in_default c = ends_before c.loop-low.invariant _ c.place_between-middle.ensures.from c.place_between-middle.ensures.below
    c.in_default.ensures.none

pub returns-then-posting-key : goal.returns-then-posting-key
returns-then-posting-key c = stands_there c.loop-low.invariant _ c.in-Some.posting c.place_between-middle.ensures.below
    (in_the_front c.requires.front (omega (arith, c.place_between-middle.ensures.below, c.loop-low.invariant.most)) c.in-Some.ensures.some)
    (omega (arith, c.if-posting-key.true))

pub loop-low-preserved-then-posting-key-2 : goal.loop-low-preserved-then-posting-key-2
loop-low-preserved-then-posting-key-2 c = stands_below c.loop-low.invariant _ c.in-Some.posting c.place_between-middle.ensures.below
    (in_the_front c.requires.front (omega (arith, c.place_between-middle.ensures.below, c.loop-low.invariant.most)) c.in-Some.ensures.some)
    (omega (arith, c.if-posting-key-2.true))

pub loop-low-preserved : goal.loop-low-preserved
loop-low-preserved c = stands_above c.loop-low.invariant _ c.in-Some.posting c.place_between-middle.ensures.from c.place_between-middle.ensures.below
    (in_the_front c.requires.front (omega (arith, c.place_between-middle.ensures.below, c.loop-low.invariant.most)) c.in-Some.ensures.some)
    (omega (arith, c.if-posting-key-2.false))
