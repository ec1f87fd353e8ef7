-- None is taken yet; one more; one that does not end where those behind it begin; and none is left.
use Rattle.std.proofs.Common.{arith}
use Rattle.std.specs.Ordering.{nat_cmp}
use Rattle.std.specs.BTreeMap.{get}
use Rattle.log_audit.proofs.Deciding.{no}
use Rattle.slot_audit.proofs.Following.{none_taken, one_taken, not_taken, all_taken, is_last, was_left, stays_left, none_left, not_some, same_place}
use Rattle.slot_audit.proofs.back.follow.Goals as goal

pub loop-target-init : goal.loop-target-init
loop-target-init c = none_taken (λ t. get nat_cmp c.args.tiles t) c.args.from c.args.to c.requires.order c.requires.within

pub loop-target-preserved : goal.loop-target-preserved
loop-target-preserved c =
    let e = c.in-Some.ensures in
    let less = (c.loop-target.invariant.kept c.in-Some.target c.in-Some.size e.value).1 in
    one_taken c.requires.within c.loop-target.invariant c.in-Some.target c.in-Some.size e.value
    (is_last c.loop-target.left c.pop_last.new.self c.in-Some.target e.greatest e.updates)
    (λ t. get nat_cmp c.pop_last.new.self t)
    (was_left c.loop-target.left c.pop_last.new.self c.in-Some.target e.greatest e.updates)
    (stays_left c.loop-target.left c.pop_last.new.self c.in-Some.target e.greatest e.updates)
    (omega (arith, less, c.if-behind-target.false))

pub returns-then-behind-target : goal.returns-then-behind-target
returns-then-behind-target c =
    let e = c.in-Some.ensures in
    let less = (c.loop-target.invariant.kept c.in-Some.target c.in-Some.size e.value).1 in
    no (not_taken c.requires.within c.loop-target.invariant c.in-Some.target c.in-Some.size e.value
    (is_last c.loop-target.left c.pop_last.new.self c.in-Some.target e.greatest e.updates)
    (λ ends. c.if-behind-target.true (omega (arith, ends, less))))

pub returns : goal.returns
returns c = same_place (λ t. get nat_cmp c.args.tiles t) c.args.from c.args.to c.loop-target.behind
    c.loop-target.invariant.follow
    (all_taken c.requires.within c.loop-target.invariant (none_left c.loop-target.left
    (λ some. not_some c.in_default.is (c.pop_last.ensures.variant.1 some))))
