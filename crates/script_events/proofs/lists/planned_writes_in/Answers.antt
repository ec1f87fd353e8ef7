use Rattle.std.proofs.Common.{sym}
use Rattle.script_events.specs.Grammar.{SaysTimed}
use Rattle.script_events.proofs.OneByOne.{one_more, none_such}
use Rattle.script_events.proofs.lists.planned_writes_in.Goals as goal

pub returns-in_default : goal.returns-in_default
returns-in_default c = λ x h.
    none_such (SaysTimed c.args.cells) c.timed.result x c.args.array.now.items c.deref-value-items.result.now c.loop-value.value-index c.value-item.result
    c.loop-value-test.true c.value-item.is (sym c.deref-value-items.ensures.value) c.in_default.not-Some c.timed.ensures h

pub loop-value-preserved : goal.loop-value-preserved
loop-value-preserved c =
    one_more (SaysTimed c.args.cells) c.loop-value.found.items _ _ _ _ c.value-item.result c.loop-value-test.true c.value-item.is c.loop-value.invariant c.in-Some.ensures c.in_ok-push.ensures.items
