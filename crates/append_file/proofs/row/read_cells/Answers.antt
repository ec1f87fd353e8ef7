-- What was read of the row.
use Rattle.std.proofs.Common.{◌*◌, [], arith}
use Rattle.std.proofs.lemmas.List.{length-take-le}
use Rattle.append_file.proofs.RowsOn.{row_broken, row_held}
use Rattle.append_file.proofs.row.read_cells.Goals as goal

-- a cell is not whole
pub returns-in_default-clause-ends : goal.returns-in_default-clause-ends
returns-in_default-clause-ends g c =
    row_broken c.args.start c.args.bytes c.args.place c.args.count (g.V.View.seen c.args.view.now)
    (g.V.View.seen c.read_bytes.new.self) c.in_ok-read_bytes.ensures
    (length-take-le (16 * c.args.count) _ (omega (arith, c.requires.few))) c.requires.places []
    c.in_default.ensures.none

-- all are
pub returns-clause-ends : goal.returns-clause-ends
returns-clause-ends g c =
    row_held c.args.start c.args.bytes c.args.place c.args.count (g.V.View.seen c.args.view.now)
    (g.V.View.seen c.read_bytes.new.self) c.in_ok-read_bytes.ensures
    (length-take-le (16 * c.args.count) _ (omega (arith, c.requires.few))) c.requires.places c.in-Some.length
    c.gather.new.row _ c.in-Some.ensures.count.0 c.in-Some.ensures.count.1 c.in-Some.ensures.some
