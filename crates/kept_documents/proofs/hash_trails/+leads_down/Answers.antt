-- Each ending, by the lemma of its kind.
use Rattle.std.proofs.Common.{◌+◌, ℕ, ap, inl, inr, arith, ◌∙◌}
use Rattle.kept_documents.proofs.Pathing.{last_level, leads_out, no_bucket, no_child, not_passed, onward, own_bucket}
use Rattle.kept_documents.proofs.hash_trails.+leads_down.Goals as goal

-- no bucket stands there
pub returns-in_default-found : goal.returns-in_default-found
returns-in_default-found g t c =
    no_bucket c.args.volume.now.geometry c.args.id.now c.args.digest.now c.args.slot c.args.node c.args.level _ _ _
    c.requires.digest (ap (λ (x : ℕ). c.args.node + x) (c.from-x.ensures ∙ c.nibble_of.ensures.same))
    (rw c.in_default-found.is at c.in-Ok.ensures)

-- it is the slot's own
pub returns-then-is_own : goal.returns-then-is_own
returns-then-is_own g t c =
    own_bucket c.args.volume.now.geometry c.args.id.now c.args.digest.now c.args.slot c.args.node c.args.level _ _ _
    c.requires.digest (ap (λ (x : ℕ). c.args.node + x) (c.from-x.ensures ∙ c.nibble_of.ensures.same))
    c.in-Some.bucket (rw c.in-Some.is at c.in-Ok.ensures) c.if-is_own.ensures

-- it is not passed
pub returns-then-not-passed : goal.returns-then-not-passed
returns-then-not-passed g t c =
    not_passed c.args.volume.now.geometry c.args.id.now c.args.digest.now c.args.slot c.args.node c.args.level _ _ _
    c.requires.digest (ap (λ (x : ℕ). c.args.node + x) (c.from-x.ensures ∙ c.nibble_of.ensures.same))
    c.in-Some.bucket (rw c.in-Some.is at c.in-Ok.ensures) c.if-is_own.ensures _
    (rw c.if-not-passed.true at c.in-Ok-is_passed.ensures)

-- there is no level below
pub returns-then-level-eq-LAST_LEVEL : goal.returns-then-level-eq-LAST_LEVEL
returns-then-level-eq-LAST_LEVEL g t c =
    last_level c.args.volume.now.geometry c.args.id.now c.args.digest.now c.args.slot c.args.node c.args.level _ _ _
    c.requires.digest (ap (λ (x : ℕ). c.args.node + x) (c.from-x.ensures ∙ c.nibble_of.ensures.same))
    c.in-Some.bucket (rw c.in-Some.is at c.in-Ok.ensures) c.if-is_own.ensures _
    (rw c.if-not-passed.false at c.in-Ok-is_passed.ensures) c.if-level-eq-LAST_LEVEL.true

-- no child cell stands there
pub returns-in_default-under : goal.returns-in_default-under
returns-in_default-under g t c =
    no_child c.args.volume.now.geometry c.args.id.now c.args.digest.now c.args.slot c.args.node c.args.level _ _ _
    c.requires.digest (ap (λ (x : ℕ). c.args.node + x) (c.from-x.ensures ∙ c.nibble_of.ensures.same))
    c.in-Some.bucket (rw c.in-Some.is at c.in-Ok.ensures) c.if-is_own.ensures _
    (rw c.if-not-passed.false at c.in-Ok-is_passed.ensures) _ _ (ap (λ (x : ℕ). c.args.node + 16 + x) (c.from-x.ensures ∙ c.nibble_of.ensures.same))
    (rw c.in_default-under.is at c.in-Ok-child_at.ensures)

-- it leads below the pool
pub returns-then-target-pool_at : goal.returns-then-target-pool_at
returns-then-target-pool_at g t c =
    leads_out c.args.volume.now.geometry c.args.id.now c.args.digest.now c.args.slot c.args.node c.args.level _ _ _
    c.requires.digest (ap (λ (x : ℕ). c.args.node + x) (c.from-x.ensures ∙ c.nibble_of.ensures.same))
    c.in-Some.bucket (rw c.in-Some.is at c.in-Ok.ensures) c.if-is_own.ensures _
    (rw c.if-not-passed.false at c.in-Ok-is_passed.ensures) _ _ (ap (λ (x : ℕ). c.args.node + 16 + x) (c.from-x.ensures ∙ c.nibble_of.ensures.same))
    c.in-Some-under.target (rw c.in-Some-under.is at c.in-Ok-child_at.ensures)
    (inl (omega (arith, c.pool_at.ensures.at)))

-- or past the device's end
pub returns-then-from : goal.returns-then-from
returns-then-from g t c =
    leads_out c.args.volume.now.geometry c.args.id.now c.args.digest.now c.args.slot c.args.node c.args.level _ _ _
    c.requires.digest (ap (λ (x : ℕ). c.args.node + x) (c.from-x.ensures ∙ c.nibble_of.ensures.same))
    c.in-Some.bucket (rw c.in-Some.is at c.in-Ok.ensures) c.if-is_own.ensures _
    (rw c.if-not-passed.false at c.in-Ok-is_passed.ensures) _ _ (ap (λ (x : ℕ). c.args.node + 16 + x) (c.from-x.ensures ∙ c.nibble_of.ensures.same))
    c.in-Some-under.target (rw c.in-Some-under.is at c.in-Ok-child_at.ensures)
    (inr (omega (arith, c.cells.ensures.cells)))

-- it leads on
pub returns : goal.returns
returns g t c =
    onward c.args.volume.now.geometry c.args.id.now c.args.digest.now c.args.slot c.args.node c.args.level _ _ _
    c.requires.digest (ap (λ (x : ℕ). c.args.node + x) (c.from-x.ensures ∙ c.nibble_of.ensures.same))
    c.in-Some.bucket (rw c.in-Some.is at c.in-Ok.ensures) c.if-is_own.ensures _
    (rw c.if-not-passed.false at c.in-Ok-is_passed.ensures) _ _ (ap (λ (x : ℕ). c.args.node + 16 + x) (c.from-x.ensures ∙ c.nibble_of.ensures.same))
    c.in-Some-under.target (rw c.in-Some-under.is at c.in-Ok-child_at.ensures) _ c.leads_down.result
    (omega (arith, c.requires.level)) (omega (arith, c.pool_at.ensures.at)) (omega (arith, c.cells.ensures.cells))
    c.leads_down.ensures
