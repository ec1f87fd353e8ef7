-- A row that was read.
use Rattle.std.proofs.lemmas.List.{length-take-le}
use Rattle.plan_writer.proofs.BlankSoFar.{row_looked}
use Rattle.plan_writer.proofs.blank.look_at_row.Goals as goal

pub returns : goal.returns
returns g c =
    row_looked c.args.cells (g.D.Device.state c.args.device.now) (g.D.Device.state c.read_row.new.self)
    (length-take-le c.args.cells.length _ c.requires.few) c.in_ok-read_row.ensures c.check_row.result c.check_row.ensures
