-- Row after row.
use Rattle.std.proofs.Common.{◌+◌, ◌*◌, refl, arith}
use Rattle.cell_types.proofs.Passed.{handed}
use Rattle.jump_block.proofs.Rowing.{row_read, row_all, row_failed}
use Rattle.jump_block.proofs.row_fronts.read_rows.Goals as goal

pub returns-then-front-first : goal.returns-then-front-first
returns-then-front-first g c = row_read c.args.x (32 * c.loop-turn.turn) (c.loop-turn.front.block + c.from.result) 32 _
    c.read_row.new.cells _ (g.V.View.seen c.loop-turn.view) (g.V.View.seen c.read_row.new.self) c.args.front.now c.loop-turn.front
    c.loop-turn.invariant (omega arith) refl (omega (arith, c.from.ensures, c.loop-turn.invariant.all))
    c.in_ok-read_row.ensures c.know_row.new.front c.know_row.ensures

pub loop-turn-preserved : goal.loop-turn-preserved
loop-turn-preserved g c = row_all c.args.x (32 * c.loop-turn.turn) (c.loop-turn.front.block + c.from.result) 32 _
    c.read_row.new.cells _ (g.V.View.seen c.loop-turn.view) (g.V.View.seen c.read_row.new.self) c.args.front.now c.loop-turn.front
    c.loop-turn.invariant (omega arith) refl (omega (arith, c.from.ensures, c.loop-turn.invariant.all))
    c.in_ok-read_row.ensures c.know_row.new.front c.know_row.ensures (32 * (c.loop-turn.turn + 1)) (omega arith)
    (omega (arith, c.if-front-first.false))

pub returns-in_err-read_row : goal.returns-in_err-read_row
returns-in_err-read_row g c =
    rw (handed c.from_residual.result c.in_err-read_row.field-0.0 c.from_residual.ensures.1)
    (row_failed c.args.x (32 * c.loop-turn.turn) (c.loop-turn.front.block + c.from.result) 32 _
    c.read_row.new.cells _ (g.V.View.seen c.loop-turn.view) (g.V.View.seen c.read_row.new.self) c.args.front.now c.loop-turn.front
    c.loop-turn.invariant (omega arith) refl (omega (arith, c.from.ensures, c.loop-turn.invariant.all))
    c.in_err-read_row.field-0.0 c.in_err-read_row.ensures)
