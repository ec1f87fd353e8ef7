-- The walk found none.
use Rattle.identifier_lookup.proofs.Finding.{none_at_end, none_at_full}
use Rattle.identifier_lookup.proofs.walks.lookup.Goals as goal

-- the path ends
pub returns-in-End : goal.returns-in-End
returns-in-End g c =
    none_at_end c.args.volume.now.geometry c.args.horizon c.args.edge c.args.id.now _ _ c.in-End._place c.in-End._level
    (rw c.in-End.is at c.in_ok-found.ensures)

-- it is full
pub returns-in-PathFull : goal.returns-in-PathFull
returns-in-PathFull g c =
    none_at_full c.args.volume.now.geometry c.args.horizon c.args.edge c.args.id.now _ _
    (rw c.in-PathFull.is at c.in_ok-found.ensures)
