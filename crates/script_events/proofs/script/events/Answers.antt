use Rattle.std.proofs.Common.{◌≡◌, ◌+◌, suc, inr, refl, sym, arith}
use Rattle.serde_json.specs.View.{view}
use Rattle.script_events.specs.Grammar.{SaysEvent}
use Rattle.script_events.proofs.OneByOne.{one_more, first_other, is_such}
use Rattle.script_events.proofs.script.events.Goals as goal

pub returns-in_default-clause-other : goal.returns-in_default-clause-other
returns-in_default-clause-other c =
    let count : c.loop-value.passed + 1 ≡ suc c.loop-value.value-index = omega (arith, c.loop-value.invariant.counted) in
    inr (
      c.loop-value.passed + 1,
      refl,
      omega arith,
      first_other (SaysEvent c.args.cells c.args.version) c.in_ok-next.next c.loop-value.found.items c.args.array.now.items c.deref-value-items.result.now c.loop-value.value-index _ c.value-item.result
          c.loop-value-test.true c.value-item.is (sym c.deref-value-items.ensures.value) c.loop-value.invariant.found c.in_default.not-Some c.in_ok-next.ensures count,
    )

pub loop-value-preserved : goal.loop-value-preserved
loop-value-preserved c =
    record {
      found =
          one_more (SaysEvent c.args.cells c.args.version) c.loop-value.found.items _ _ _ _ c.value-item.result c.loop-value-test.true c.value-item.is c.loop-value.invariant.found
          (is_such (λ e. SaysEvent c.args.cells c.args.version e (view c.value-item.result)) _ _ c.in_ok-next.ensures c.in-Some.is) c.in_ok-push.ensures.items;
      counted = omega (arith, c.loop-value.invariant.counted);
    }
