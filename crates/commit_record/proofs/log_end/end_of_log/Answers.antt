-- A slot in the middle is taken, or free; and in the end one slot is left.
use Rattle.std.proofs.Common.{◌+◌, ◌-◌, ◌/◌, arith}
use Rattle.commit_record.proofs.HorizonSoFar.{free_more, last_halving, one_left, taken_more}
use Rattle.commit_record.proofs.log_end.end_of_log.Goals as goal

pub returns-then-low-high-clause-ends : goal.returns-then-low-high-clause-ends
returns-then-low-high-clause-ends g c =
    one_left c.args.volume.now.geometry c.loop-halving.low c.loop-halving.high c.loop-halving._halving
    c.loop-halving.last _ _ c.loop-halving.invariant (omega (arith, c.if-low-high.true))

pub loop-halving-preserved-in_default-2 : goal.loop-halving-preserved-in_default-2
loop-halving-preserved-in_default-2 g c =
    free_more c.args.volume.now.geometry c.loop-halving.low c.loop-halving.high c.loop-halving._halving
    (c.loop-halving.low + (c.loop-halving.high - c.loop-halving.low) / 2) c.reserve_at-in-loop-halving.result
    c.in_ok-taken-2.field-0 c.loop-halving.last _ _ _ c.loop-halving.invariant c.in_ok-taken-2.ensures c.in_default-2.is
    c.reserve_at-in-loop-halving.ensures.at c.loop-halving-test.true (omega arith) (omega (arith, c.if-low-high.false))

pub loop-halving-preserved : goal.loop-halving-preserved
loop-halving-preserved g c =
    taken_more c.args.volume.now.geometry c.loop-halving.low c.loop-halving.high c.loop-halving._halving
    (c.loop-halving.low + (c.loop-halving.high - c.loop-halving.low) / 2) c.reserve_at-in-loop-halving.result
    c.in-Some-2.taken c.in_ok-taken-2.field-0 c.loop-halving.last _ _ _ c.loop-halving.invariant c.in_ok-taken-2.ensures
    c.in-Some-2.is c.reserve_at-in-loop-halving.ensures.at c.loop-halving-test.true (omega arith)
    (omega (arith, c.if-low-high.false))

pub returns-clause-ends : goal.returns-clause-ends
returns-clause-ends g c =
    let inv = c.loop-halving.invariant in
    one_left c.args.volume.now.geometry c.loop-halving.low c.loop-halving.high c.loop-halving._halving
    c.loop-halving.last _ _ inv (last_halving c.loop-halving.low c.loop-halving.high c.loop-halving._halving
    (omega (arith, c.loop-halving-test.false)) inv.narrow)
