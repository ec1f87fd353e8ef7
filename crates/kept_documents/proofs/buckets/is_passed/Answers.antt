-- Each ending of a bucket with the digest's fingerprint, by the lemma of its kind.
use Rattle.std.proofs.Common.{Ok, Err, true, false, arith}
use Rattle.worm_device.proofs.Resting.{viewed_then}
use Rattle.document_store.proofs.Checking.{found_part, same_then}
use Rattle.kept_documents.proofs.PassedBuckets.{look_refutes, not_done, same_no, same_yes}
use Rattle.kept_documents.proofs.buckets.is_passed.Goals as goal

-- the slot's cells are no state
pub returns-in-Err : goal.returns-in-Err
returns-in-Err g c =
    let h = c.in-Err.ensures in
    look_refutes c.args.volume.now.geometry c.args.id.now c.args.digest.now c.args.bucket.now _ c.requires.digest
    c.if-not-has_fingerprint.ensures _ h.viewed c.in-Err.fault c.refuted.result h.ends c.refuted.ensures

-- the slot is not done
pub returns-in_default : goal.returns-in_default
returns-in_default g c =
    let h = rw c.in_default.is at c.in-Ok.ensures in
    not_done c.args.volume.now.geometry c.args.id.now c.args.digest.now c.args.bucket.now _ c.requires.digest
    c.if-not-has_fingerprint.ensures _ h.viewed h.ends

-- the part that was found can be asked
pub same_identifier-requires-clause-part : goal.same_identifier-requires-clause-part
same_identifier-requires-clause-part g c =
    let h = c.in-Ok.ensures in
    found_part c.args.volume.now.geometry c.args.bucket.now.slot _ _ c.in-Some.part h.viewed
    (rw c.in-Some.is at h.ends) (omega arith)

-- its document has the identifier
pub returns-in-Ok-true : goal.returns-in-Ok-true
returns-in-Ok-true g c =
    let h = c.in-Ok.ensures in
    let s = c.in-Ok-true.ensures in
    same_yes c.args.volume.now.geometry c.args.id.now c.args.digest.now c.args.bucket.now _ c.requires.digest
    c.if-not-has_fingerprint.ensures _ (viewed_then h.viewed s.viewed)
    (same_then c.args.volume.now.geometry c.args.bucket.now.slot _ _ _ c.in-Some.part h.viewed s.viewed
    (rw c.in-Some.is at h.ends) c.args.id.now (Ok true) (rw c.in-Ok-true.field-0-test at s.ends))

-- its document has another one
pub returns-in-Ok-false : goal.returns-in-Ok-false
returns-in-Ok-false g c =
    let h = c.in-Ok.ensures in
    let s = c.in-Ok-false.ensures in
    same_no c.args.volume.now.geometry c.args.id.now c.args.digest.now c.args.bucket.now _ c.requires.digest
    c.if-not-has_fingerprint.ensures _ (viewed_then h.viewed s.viewed)
    (same_then c.args.volume.now.geometry c.args.bucket.now.slot _ _ _ c.in-Some.part h.viewed s.viewed
    (rw c.in-Some.is at h.ends) c.args.id.now (Ok false) (rw c.in-Ok-false.field-0-test at s.ends))

-- its document is broken
pub returns-in-Err-same_identifier : goal.returns-in-Err-same_identifier
returns-in-Err-same_identifier g c =
    let h = c.in-Ok.ensures in
    let s = c.in-Err-same_identifier.ensures in
    look_refutes c.args.volume.now.geometry c.args.id.now c.args.digest.now c.args.bucket.now _ c.requires.digest
    c.if-not-has_fingerprint.ensures _ (viewed_then h.viewed s.viewed) c.in-Err-same_identifier.fault
    c.refuted-in-Err-same_identifier.result
    (same_then c.args.volume.now.geometry c.args.bucket.now.slot _ _ _ c.in-Some.part h.viewed s.viewed
    (rw c.in-Some.is at h.ends) c.args.id.now (Err c.in-Err-same_identifier.fault) s.ends) c.refuted-in-Err-same_identifier.ensures
