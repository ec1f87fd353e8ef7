-- It is there already; and it is added.
use Rattle.log_audit.proofs.Deciding.{decided_no, decided_yes}
use Rattle.slot_audit.proofs.Tabling.{with_same, with_new}
use Rattle.slot_audit.proofs.table.add_tile.Goals as goal

pub returns-then-has_at_least : goal.returns-then-has_at_least
returns-then-has_at_least c = with_same (decided_yes _ c.has_at_least.ensures c.if-has_at_least.true)

pub returns : goal.returns
returns c = with_new c.args.tiles.now c.insert.new.map c.args.tile
    (decided_no _ c.has_at_least.ensures c.if-has_at_least.false) c.in_ok-_before.ensures.updates
