-- One cell after another.
use Rattle.std.proofs.Common.{◌+◌, List, Option, Some, ℕ, ap, sym, ◌∙◌, arith}
use Rattle.std.proofs.lemmas.Option.{slice_get-get_or}
use Rattle.jump_block.proofs.Rowing.{row_more, row_starts}
use Rattle.jump_block.proofs.row_fronts.know_row.Goals as goal
use Rattle.jump_block.proofs.row_fronts.know_row.Goals.{else-front-gt0-via-then-front-gt0+else-key-front, else-front-gt0-via-else-front-gt0}

pub loop-k-init : goal.loop-k-init
loop-k-init c = (omega arith, row_starts c.args.x c.args.row.now c.args.front.now)

pub loop-k-preserved : goal.loop-k-preserved
loop-k-preserved c =
    let there = slice_get-get_or c.args.row.now c.loop-k.k _ c.loop-k-test.true
    ∙ ap (λ (v : Option (List ℕ)). Some v) (sym c.index-row-k.is ∙ c.in-Some.is) in (
      omega (arith, c.loop-k.invariant.0),
      row_more c.args.x c.args.row.now c.loop-k.k c.args.front.now c.loop-k.front c.in-Some.cell
          (c.loop-k.front.block + c.from.result) c.in-Some-key_at.key c.loop-k-test.true c.loop-k.invariant.0 there
          (ap (λ n. c.loop-k.front.block + n) c.from.ensures) c.in-Some-key_at.ensures (omega (arith, c.if-key-x.false))
          (λ some. elim c.else-front-gt0.branch [
            | else-front-gt0-via-then-front-gt0+else-key-front w ↦ omega arith
            | else-front-gt0-via-else-front-gt0 w ↦ absurd (omega arith)
          ])
          c.loop-k.invariant.1,
    )
