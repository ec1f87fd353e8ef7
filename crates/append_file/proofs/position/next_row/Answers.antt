-- The bytes that are given.
use Rattle.std.proofs.Common.{refl, arith}
use Rattle.append_file.proofs.RowsOn.{rest_ends, row_ends}
use Rattle.append_file.proofs.position.next_row.Goals as goal

-- of the cells of a row
pub returns-in-Ok-clause-ends : goal.returns-in-Ok-clause-ends
returns-in-Ok-clause-ends g c =
    row_ends (g.V.View.seen c.args.view.now) (g.V.View.seen c.read_cells.new.view) c.args.position.now c.pass.new.self
    c.read_cells.new.into c.min-count.result c.in-Ok.length c.in-Ok.ensures.viewed
    (omega (arith, c.if-position.false))
    (omega (arith, c.if-count-eq0.false)) (omega (arith, c.min-count.ensures, c.cells_for.ensures, c.requires.is.read))
    c.pass.ensures c.in-Ok.ensures.ends

-- of the cell that was begun
pub returns-then-position-clause-ends : goal.returns-then-position-clause-ends
returns-then-position-clause-ends g c =
    rest_ends (g.V.View.seen c.args.view.now) (g.V.View.seen c.args.view.now) c.args.position.now c.give_rest.new.self
    c.give_rest.new.into c.give_rest.result refl c.requires.is c.if-position.true c.give_rest.ensures.count
    c.give_rest.ensures.rest c.give_rest.ensures.all
