-- Each look in turn.
use Rattle.document_store.proofs.Checking.{found_part}
use Rattle.kept_documents.proofs.Holding.{and_then, look_fails, part_none}
use Rattle.std.proofs.Common.{arith}
use Rattle.kept_documents.proofs.kept.kept_in.Goals as goal

-- the slot's cells are no state
pub returns-in-Err : goal.returns-in-Err
returns-in-Err g c =
    let h = c.in-Err.ensures in
    look_fails c.args.volume c.args.slot c.args.id.now _ _ h.viewed c.in-Err.fault c.refused.result
    h.ends c.refused.ensures

-- the slot is not done
pub returns-in_default : goal.returns-in_default
returns-in_default g c =
    let h = c.in-Ok.ensures in
    part_none c.args.volume c.args.slot c.args.id.now _ _ h.viewed (rw c.in_default.is at h.ends)

-- the part that was found can be asked
pub kept_part-requires-clause-part : goal.kept_part-requires-clause-part
kept_part-requires-clause-part g c =
    let h = c.in-Ok.ensures in
    found_part c.args.volume.geometry c.args.slot _ _ c.in-Some.part h.viewed (rw c.in-Some.is at h.ends)
    (omega arith)

pub returns : goal.returns
returns g c =
    let h = c.in-Ok.ensures in
    let found = rw c.in-Some.is at h.ends in
    and_then c.args.volume c.args.slot c.args.id.now _ _ h.viewed c.in-Some.part.slot found.0 _ c.kept_part.result
    c.kept_part.ensures
