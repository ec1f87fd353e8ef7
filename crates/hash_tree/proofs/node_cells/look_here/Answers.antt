-- The bucket is no candidate, and the child cell was read.
use Rattle.cell_types.proofs.Passed.{handed}
use Rattle.hash_tree.proofs.LookingHere.{bucket_is, bucket_read, child_is, child_read, ends_below, fails_below, half_byte, leads_on}
use Rattle.hash_tree.proofs.node_cells.look_here.Goals as goal

-- it leads on
pub returns : goal.returns
returns g c =
    let geometry = c.args.volume.now.geometry in
    let level = c.args.level.now in
    let half = half_byte geometry level c.nibble_of.ensures.same c.nibble_of.ensures.below in
    let at = bucket_is geometry level c.node-node.ensures c.from-x.ensures c.nibble_of.ensures.same in
    let under = child_is geometry level c.node-node.ensures c.from-x.ensures c.nibble_of.ensures.same in
    leads_on geometry c.args.edge level c.in-Some.held _ _ _ c.requires.level.number c.if-level-eq-LAST_LEVEL.false half
    (bucket_read at (rw c.in-Some.is at c.in_ok-held.ensures)) c.if-is_candidate.ensures c.in-Some-2.led
    (child_read under c.pool_at.ensures.at (rw c.in-Some-2.is at c.in_ok-led.ensures))

-- it is blank
pub returns-in_default-2 : goal.returns-in_default-2
returns-in_default-2 g c =
    let geometry = c.args.volume.now.geometry in
    let level = c.args.level.now in
    let half = half_byte geometry level c.nibble_of.ensures.same c.nibble_of.ensures.below in
    let at = bucket_is geometry level c.node-node.ensures c.from-x.ensures c.nibble_of.ensures.same in
    let under = child_is geometry level c.node-node.ensures c.from-x.ensures c.nibble_of.ensures.same in
    ends_below geometry c.args.edge level c.in-Some.held _ _ _ c.requires.level.number c.if-level-eq-LAST_LEVEL.false half
    (bucket_read at (rw c.in-Some.is at c.in_ok-held.ensures)) c.if-is_candidate.ensures _ _ at under
    (child_read under c.pool_at.ensures.at (rw c.in_default-2.is at c.in_ok-led.ensures))

-- it is no child cell
pub returns-in_err-led : goal.returns-in_err-led
returns-in_err-led g c =
    let geometry = c.args.volume.now.geometry in
    let level = c.args.level.now in
    let half = half_byte geometry level c.nibble_of.ensures.same c.nibble_of.ensures.below in
    let at = bucket_is geometry level c.node-node.ensures c.from-x.ensures c.nibble_of.ensures.same in
    let under = child_is geometry level c.node-node.ensures c.from-x.ensures c.nibble_of.ensures.same in
    rw (handed c.from_residual-in_err-led.result c.in_err-led.field-0.0 c.from_residual-in_err-led.ensures.1)
    (fails_below geometry c.args.edge level c.in-Some.held _ _ _ c.requires.level.number c.if-level-eq-LAST_LEVEL.false half
    (bucket_read at (rw c.in-Some.is at c.in_ok-held.ensures)) c.if-is_candidate.ensures c.in_err-led.field-0.0
    (child_read under c.pool_at.ensures.at c.in_err-led.ensures))
