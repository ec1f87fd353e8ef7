-- One posting more.
use Rattle.std.proofs.Common.{take, ◌+◌, List, subst, arith}
use Rattle.std.proofs.lemmas.List.{take_all}
use Rattle.volume_meaning.specs.Postings.{ListedPosting}
use Rattle.list_audit.specs.Tables.{AddsRows}
use Rattle.list_audit.proofs.Tabling.{one_added, taken}
use Rattle.list_audit.proofs.table.PostingTable.add_all.Goals as goal

pub loop-row-preserved : goal.loop-row-preserved
loop-row-preserved c = one_added (take c.loop-row.row-index c.args.rows.now) (take (c.loop-row.row-index + 1) c.args.rows.now) c.row-item.result
    c.args.self.now.rows.items c.loop-row.self.rows.items c.add.new.self.rows.items (taken c.args.rows.now c.loop-row.row-index c.row-item.result c.loop-row-test.true c.row-item.is) c.loop-row.invariant c.in_ok-add.ensures

pub returns : goal.returns
returns c = subst (λ (rows : List ListedPosting). AddsRows rows c.args.self.now.rows.items c.loop-row.self.rows.items)
    (take_all c.loop-row.row-index c.args.rows.now (omega (arith, c.loop-row-test.false))) c.loop-row.invariant
