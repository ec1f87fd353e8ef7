-- The slot's stamp, and then the trails.
use Rattle.receipt_cells.proofs.Bodying.{no_stamp, with_stamp}
use Rattle.receipt_cells.proofs.bodies.list_body.Goals as goal

-- the slot has no stamp
pub returns-in_default-found : goal.returns-in_default-found
returns-in_default-found g c =
    no_stamp c.args.volume.now.geometry c.args.slot c.args.body.now _ _ _ (rw c.in_default-found.is at c.in-Ok.ensures)

-- the trails of its postings were listed
pub returns : goal.returns
returns g c =
    with_stamp c.args.volume.now.geometry c.args.slot c.args.body.now _ _ _ c.in-Some.stamp _ _ c.list_postings.result
    (rw c.in-Some.is at c.in-Ok.ensures) c.list_postings.ensures
