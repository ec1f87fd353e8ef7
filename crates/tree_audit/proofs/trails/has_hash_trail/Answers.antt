-- No bucket; the slot's own; one that is not passed; no child cell; and one that leads on.
use Rattle.std.proofs.Common.{◌≡◌, ◌∙◌, ap}
use Rattle.sha2.specs.Sha256.{sha256}
use Rattle.volume_meaning.specs.Buckets.{IsOwnBucket}
use Rattle.volume_meaning.specs.HashPaths.{nibble}
use Rattle.document_store.specs.Heads.{id_of}
use Rattle.log_audit.proofs.Deciding.{no, yes, decided_no, decided_yes}
use Rattle.tree_audit.proofs.Trailing.{no_bucket, own_bucket, not_passed, no_child, onward}
use Rattle.tree_audit.proofs.trails.has_hash_trail.Goals as goal
use Rattle.tree_audit.proofs.trails.has_hash_trail.Goals.{After-from-x, After-is_passed}

-- the level's half byte is that of the identifier
half : (c : After-from-x) → c.from-x.result ≡ nibble (sha256 (id_of c.args.head.now)) c.loop-level.level
half c =
    c.from-x.ensures ∙ c.nibble_of.ensures.same
    ∙ ap (λ d. nibble d c.loop-level.level) (c.digest_of-digest.ensures ∙ ap sha256 c.identifier.ensures)

-- the bucket is not the slot's own
other : (c : After-is_passed) → IsOwnBucket c.in-Some.bucket c.args.slot (sha256 (id_of c.args.head.now)) → ⊥
other c = rw (c.digest_of-digest.ensures ∙ ap sha256 c.identifier.ensures) at (decided_no _ c.is_own.ensures c.if-is_own.false)

pub returns-in_default : goal.returns-in_default
returns-in_default c = no (no_bucket c.loop-level.invariant c.loop-level-test.true (λ slot fingerprint h.
    c.in_default.ensures slot fingerprint (rw (half (goal.at.returns-in_default c).After-from-x) h)))

pub returns-then-is_own : goal.returns-then-is_own
returns-then-is_own c =
    yes (own_bucket c.loop-level.invariant c.loop-level-test.true c.in-Some.bucket
    (rw (half (goal.at.returns-then-is_own c).After-from-x) at c.in-Some.ensures)
    (rw (c.digest_of-digest.ensures ∙ ap sha256 c.identifier.ensures) at
    (decided_yes _ c.is_own.ensures c.if-is_own.true)))

pub returns-then-not-is_passed : goal.returns-then-not-is_passed
returns-then-not-is_passed c =
    let at = goal.at.returns-then-not-is_passed c in
    no (not_passed c.loop-level.invariant c.loop-level-test.true c.in-Some.bucket
    (rw (half at.After-from-x) at c.in-Some.ensures) (other at.After-is_passed)
    (decided_no _ c.is_passed.ensures c.if-not-is_passed.true))

pub returns-in_default-child_at : goal.returns-in_default-child_at
returns-in_default-child_at c =
    let at = goal.at.returns-in_default-child_at c in
    no (no_child c.loop-level.invariant c.loop-level-test.true c.in-Some.bucket
    (rw (half at.After-from-x) at c.in-Some.ensures) (other at.After-is_passed)
    (λ target h. c.in_default-child_at.ensures target (rw (half at.After-from-x) h)))

pub loop-level-preserved : goal.loop-level-preserved
loop-level-preserved c =
    let at = goal.at.loop-level-preserved c in
    onward c.loop-level.invariant c.loop-level-test.true c.in-Some.bucket
    (rw (half at.After-from-x) at c.in-Some.ensures) (other at.After-is_passed) (decided_yes _ c.is_passed.ensures c.if-not-is_passed.false) c.in-Some-child_at.under
    (rw (half at.After-from-x) at c.in-Some-child_at.ensures)
