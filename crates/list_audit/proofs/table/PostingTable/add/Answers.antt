-- One posting more.
use Rattle.std.proofs.Common.{arith}
use Rattle.list_audit.proofs.Tabling.{adds_row}
use Rattle.list_audit.proofs.table.PostingTable.add.Goals as goal

pub returns : goal.returns
returns c = adds_row c.args.row.now c.args.self.now.rows.items c.push.new.items.items c.number_of-number.result c.tag.result
    (record { list = omega (arith, c.list.ensures); key = omega (arith, c.key.ensures); last = omega (arith, c.last.ensures) })
    (omega (arith, c.number_of-number.ensures, c.list.ensures, c.key.ensures, c.last.ensures)) c.tag.ensures c.in_ok-push.ensures.items
