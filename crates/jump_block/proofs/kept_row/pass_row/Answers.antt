-- One entry more is passed.
use Rattle.std.proofs.Common.{arith}
use Rattle.jump_block.proofs.KeptRowing.{passes_more}
use Rattle.jump_block.proofs.kept_row.pass_row.Goals as goal
use Rattle.jump_block.proofs.kept_row.pass_row.Goals.{else-front-gt0-via-then-front-gt0+else-next-front, else-front-gt0-via-else-front-gt0}

pub loop-front-preserved : goal.loop-front-preserved
loop-front-preserved c =
    passes_more c.args.x c.args.row.now c.args.front.now c.loop-front.front c.in-Some.next c.loop-front.invariant
    c.loop-front-test.true (rw c.in-Some.is at c.entry.ensures)
    (λ some. elim c.else-front-gt0.branch [
      | else-front-gt0-via-then-front-gt0+else-next-front w ↦ omega arith
      | else-front-gt0-via-else-front-gt0 w ↦ absurd (omega arith)
    ])
    (omega (arith, c.if-next-x.false))
