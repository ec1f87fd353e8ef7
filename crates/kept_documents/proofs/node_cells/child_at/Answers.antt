-- Nothing, no record, or a record.
use Rattle.kept_documents.proofs.NodeCells.{blank_child, child_found, stray_child}
use Rattle.kept_documents.proofs.node_cells.child_at.Goals as goal

pub returns-in-Blank : goal.returns-in-Blank
returns-in-Blank g c =
    blank_child c.args.at _ _ c.in_ok-seen.ensures.viewed (rw c.in-Blank.is at c.in_ok-seen.ensures.ends)

pub returns-in-Stray : goal.returns-in-Stray
returns-in-Stray g c =
    stray_child c.args.at _ _ c.in_ok-seen.ensures.viewed _ (rw c.in-Stray.is at c.in_ok-seen.ensures.ends)

pub returns-in-Record : goal.returns-in-Record
returns-in-Record g c =
    child_found c.args.at _ _ c.in_ok-seen.ensures.viewed _ c.in-Record.held c.child_of.result
    (rw c.in-Record.is at c.in_ok-seen.ensures.ends) c.child_of.ensures
