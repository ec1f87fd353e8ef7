-- Nothing, no record, or a record.
use Rattle.kept_documents.proofs.NodeCells.{blank_bucket, bucket_found, stray_bucket}
use Rattle.kept_documents.proofs.node_cells.bucket_at.Goals as goal

pub returns-in-Blank : goal.returns-in-Blank
returns-in-Blank g c =
    blank_bucket c.args.at _ _ c.in_ok-seen.ensures.viewed (rw c.in-Blank.is at c.in_ok-seen.ensures.ends)

pub returns-in-Stray : goal.returns-in-Stray
returns-in-Stray g c =
    stray_bucket c.args.at _ _ c.in_ok-seen.ensures.viewed _ (rw c.in-Stray.is at c.in_ok-seen.ensures.ends)

pub returns-in-Record : goal.returns-in-Record
returns-in-Record g c =
    bucket_found c.args.at _ _ c.in_ok-seen.ensures.viewed _ c.in-Record.held c.of.result
    (rw c.in-Record.is at c.in_ok-seen.ensures.ends) c.of.ensures
