-- What was found in the spare cell is the slot's stamp, or it has none.
use Rattle.commit_record.proofs.StampRead.{stamp_read}
use Rattle.commit_record.proofs.stamp_cell.stamp_of.Goals as goal

pub returns : goal.returns
returns g c =
    stamp_read c.args.slot c.spare_at.result c.look.ensures.viewed c.look.ensures.reads c.spare_at.ensures.at
    c.in_ok-found.found c.in_ok-found.ensures.ends c.stamp_found.result c.stamp_found.ensures
