-- Each ending, by the lemma of its kind.
use Rattle.std.proofs.Common.{arith, ◌∙◌}
use Rattle.receipt_cells.proofs.PathListing.{bucket_fails, bucket_lacks, child_fails, child_lacks, level_ends, mate_fails, own_listed, path_listed, target_ends}
use Rattle.receipt_cells.proofs.path.+list_down.Goals as goal

-- the bucket was not listed
pub returns-in-Err : goal.returns-in-Err
returns-in-Err g t c =
    bucket_fails _ _ _ _ _ _ (c.from-x.ensures ∙ c.nibble_of.ensures.same) _ _ _ _ c.in-Err.why c.in-Err.ensures

-- there is none
pub returns-in_default : goal.returns-in_default
returns-in_default g t c =
    bucket_lacks _ _ _ _ _ _ (c.from-x.ensures ∙ c.nibble_of.ensures.same) _ _ _ _ (rw c.in_default.is at c.in-Ok.ensures)

-- it is the slot's own
pub returns-then-is_own : goal.returns-then-is_own
returns-then-is_own g t c =
    own_listed _ _ _ _ _ _ (c.from-x.ensures ∙ c.nibble_of.ensures.same) _ _ _ _ _
    (rw c.in-Some.is at c.in-Ok.ensures) c.if-is_own.ensures

-- its slot was not listed
pub returns-in-Err-list_mate : goal.returns-in-Err-list_mate
returns-in-Err-list_mate g t c =
    mate_fails _ _ _ _ _ _ (c.from-x.ensures ∙ c.nibble_of.ensures.same) _ _ _ _ _
    (rw c.in-Some.is at c.in-Ok.ensures) c.if-is_own.ensures _ _ c.in-Err-list_mate.why c.in-Err-list_mate.ensures

-- the child cell was not listed
pub returns-in-Err-list_child : goal.returns-in-Err-list_child
returns-in-Err-list_child g t c =
    child_fails _ _ _ _ _ _ (c.from-x.ensures ∙ c.nibble_of.ensures.same) _ _ _ _ _
    (rw c.in-Some.is at c.in-Ok.ensures) c.if-is_own.ensures _ _ c.in_default-list_mate.ensures _ _
    c.in-Err-list_child.why c.in-Err-list_child.ensures

-- there is none
pub returns-in_default-under : goal.returns-in_default-under
returns-in_default-under g t c =
    child_lacks _ _ _ _ _ _ (c.from-x.ensures ∙ c.nibble_of.ensures.same) _ _ _ _ _
    (rw c.in-Some.is at c.in-Ok.ensures) c.if-is_own.ensures _ _ c.in_default-list_mate.ensures _ _
    (rw c.in_default-under.is at c.in-Ok-list_child.ensures)

-- there is no level below
pub returns-then-level-eq-LAST_LEVEL : goal.returns-then-level-eq-LAST_LEVEL
returns-then-level-eq-LAST_LEVEL g t c =
    level_ends _ _ _ _ _ _ (c.from-x.ensures ∙ c.nibble_of.ensures.same) _ _ _ _ _
    (rw c.in-Some.is at c.in-Ok.ensures) c.if-is_own.ensures _ _ c.in_default-list_mate.ensures _ _
    _ (rw c.in-Some-under.is at c.in-Ok-list_child.ensures)
    c.if-level-eq-LAST_LEVEL.true

-- the node below lies past the device's end
pub returns-then-from : goal.returns-then-from
returns-then-from g t c =
    target_ends _ _ _ _ _ _ (c.from-x.ensures ∙ c.nibble_of.ensures.same) _ _ _ _ _
    (rw c.in-Some.is at c.in-Ok.ensures) c.if-is_own.ensures _ _ c.in_default-list_mate.ensures _ _
    _ (rw c.in-Some-under.is at c.in-Ok-list_child.ensures)
    (omega (arith, c.cells.ensures.cells))

-- the path goes on
pub returns : goal.returns
returns g t c =
    path_listed _ _ _ _ _ _ (c.from-x.ensures ∙ c.nibble_of.ensures.same) _ _ _ _ _
    (rw c.in-Some.is at c.in-Ok.ensures) c.if-is_own.ensures _ _ c.in_default-list_mate.ensures _ _
    _ (rw c.in-Some-under.is at c.in-Ok-list_child.ensures)
    _ _ c.list_down.result c.list_down.ensures
