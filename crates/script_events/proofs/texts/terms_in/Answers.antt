use Rattle.std.proofs.Common.{sym}
use Rattle.serde_json.specs.View.{view}
use Rattle.script_events.specs.Grammar.{SaysTerm}
use Rattle.script_events.proofs.OneByOne.{one_more, none_such, is_such}
use Rattle.script_events.proofs.texts.terms_in.Goals as goal

pub returns-in_default : goal.returns-in_default
returns-in_default c = λ x h.
    none_such (SaysTerm c.args.rule) c.in_ok-next.field-0 x c.args.array.now.items c.deref-value-items.result.now c.loop-value.value-index c.value-item.result
    c.loop-value-test.true c.value-item.is (sym c.deref-value-items.ensures.value) c.in_default.not-Some c.in_ok-next.ensures h

pub loop-value-preserved : goal.loop-value-preserved
loop-value-preserved c =
    one_more (SaysTerm c.args.rule) c.loop-value.found.items _ _ _ _ c.value-item.result c.loop-value-test.true c.value-item.is c.loop-value.invariant
    (is_such (λ t. SaysTerm c.args.rule t (view c.value-item.result)) _ _ c.in_ok-next.ensures c.in-Some.is) c.in_ok-push.ensures.items
