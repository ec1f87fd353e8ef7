-- Each part in turn.
use Rattle.kept_documents.proofs.Indexing.{no_stamp, no_trails, path_fails, postings_fail, then_path}
use Rattle.kept_documents.proofs.indexed.is_indexed.Goals as goal

-- the slot has no stamp
pub returns-in_default-found : goal.returns-in_default-found
returns-in_default-found g c =
    no_stamp c.args.volume.now.geometry c.args.slot c.args.id.now c.args.body.now _ _
    (rw c.in_default-found.is at c.in-Ok.ensures)

-- whether its postings have trails could not be asked
pub returns-in-Err : goal.returns-in-Err
returns-in-Err g c =
    postings_fail c.args.volume.now.geometry c.args.slot c.args.id.now c.args.body.now _ _ c.in-Some.stamp
    (rw c.in-Some.is at c.in-Ok.ensures) _ c.in-Err.why c.in-Err.ensures

-- they don't exist, or have no trails
pub returns-then-not-listed : goal.returns-then-not-listed
returns-then-not-listed g c =
    no_trails c.args.volume.now.geometry c.args.slot c.args.id.now c.args.body.now _ _ c.in-Some.stamp
    (rw c.in-Some.is at c.in-Ok.ensures) _ (rw c.if-not-listed.true at c.in-Ok-has_postings.ensures)

-- a read on the path failed
pub returns-in_default-has_hash_trail : goal.returns-in_default-has_hash_trail
returns-in_default-has_hash_trail g c =
    path_fails c.args.volume.now.geometry c.args.slot c.args.id.now c.args.body.now _ _ c.in-Some.stamp
    (rw c.in-Some.is at c.in-Ok.ensures) _ (rw c.if-not-listed.false at c.in-Ok-has_postings.ensures) _
    c.in_default-has_hash_trail.ensures

-- the path was asked
pub returns : goal.returns
returns g c =
    then_path c.args.volume.now.geometry c.args.slot c.args.id.now c.args.body.now _ _ c.in-Some.stamp
    (rw c.in-Some.is at c.in-Ok.ensures) _ (rw c.if-not-listed.false at c.in-Ok-has_postings.ensures) _
    c.in-Ok-has_hash_trail.led c.in-Ok-has_hash_trail.ensures
