-- Each ending, by the lemma of its kind.
use Rattle.std.proofs.Common.{ap, arith, ◌+◌}
use Rattle.cell_types.proofs.Passed.{handed}
use Rattle.jump_block.proofs.FrontReads.{fault_ends, open_ends, does_not_rise_ends, at_ends, more_read, full_ends}
use Rattle.jump_block.proofs.fronts.read_on.Goals as goal
use Rattle.jump_block.proofs.fronts.read_on.Goals.{else-front-gt0-via-then-front-gt0+else-next-front, else-front-gt0-via-else-front-gt0}

pub returns-in_err-next : goal.returns-in_err-next
returns-in_err-next g c =
    rw (handed c.from_residual.result c.in_err-next.field-0.0 c.from_residual.ensures.1)
    (fault_ends c.loop-front.invariant c.loop-front-test.true
    c.in_err-next.field-0.0 c.in_err-next.ensures)

pub returns-in_default : goal.returns-in_default
returns-in_default g c =
    open_ends c.loop-front.invariant c.loop-front-test.true _
    c.greatest_of.ensures (rw c.in_default.is at c.in_ok-next.ensures)

pub returns-then-next-front : goal.returns-then-next-front
returns-then-next-front g c =
    rw c.breach.ensures
    (does_not_rise_ends c.loop-front.invariant c.loop-front-test.true
    c.in-Some.next (c.loop-front.front.block + c.from.result) c.cell.result c.if-front-gt0.true c.if-next-front.true
    (ap (λ n. c.loop-front.front.block + n) c.from.ensures) c.cell.ensures (rw c.in-Some.is at c.in_ok-next.ensures))

pub returns-then-next-x : goal.returns-then-next-x
returns-then-next-x g c =
    at_ends c.loop-front.invariant c.loop-front-test.true c.in-Some.next
    (λ some. elim c.else-front-gt0.branch [
      | else-front-gt0-via-then-front-gt0+else-next-front w ↦ omega arith
      | else-front-gt0-via-else-front-gt0 w ↦ absurd (omega arith)
    ])
    c.if-next-x.true (rw c.in-Some.is at c.in_ok-next.ensures)

pub loop-front-preserved : goal.loop-front-preserved
loop-front-preserved g c =
    more_read c.loop-front.invariant c.loop-front-test.true c.in-Some.next
    (λ some. elim c.else-front-gt0.branch [
      | else-front-gt0-via-then-front-gt0+else-next-front w ↦ omega arith
      | else-front-gt0-via-else-front-gt0 w ↦ absurd (omega arith)
    ])
    c.if-next-x.false (rw c.in-Some.is at c.in_ok-next.ensures)

pub returns : goal.returns
returns g c = full_ends c.loop-front.invariant c.loop-front-test.false
