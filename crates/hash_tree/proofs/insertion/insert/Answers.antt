-- The bucket alone, or with a new node.
use Rattle.std.proofs.Common.{◌+◌, ◌∙◌, ℕ, Some, None, ap, arith, refl}
use Rattle.worm_device.specs.Overlaying.{overlay_shows}
use Rattle.worm_device.specs.Overlays.{of_overlay}
use Rattle.hash_tree.proofs.Inserting.{inserts_alone, inserts_nothing, inserts_with_node}
use Rattle.hash_tree.proofs.insertion.insert.Goals as goal

pub returns-in-Ok : goal.returns-in-Ok
returns-in-Ok g c =
    let o = c.args.overlay.now in
    let view = overlay_shows g.V.View.seen g.met.V.View.proper o in
    inserts_alone c.args.volume.now.geometry c.args.level.now c.args.place c.args.slot c.args.pool.now
    (of_overlay g.V.View.seen c.args.overlay.now) view c.requires.ready
    (rw c.nibble_of-half.ensures.same at c.nibble_of-half.ensures.below)
    (of_overlay g.V.View.seen c.plan_record.new.overlay) c.fingerprint_of.result c.fingerprint_of.ensures c.in_default.is
    (rw (c.root_at-root.ensures.at, c.node.ensures) at c.in-Ok.ensures)

pub returns-in-Err : goal.returns-in-Err
returns-in-Err g c =
    let o = c.args.overlay.now in
    let view = overlay_shows g.V.View.seen g.met.V.View.proper o in
    inserts_nothing c.args.volume.now.geometry c.args.level.now c.args.place c.args.slot c.args.pool.now
    (of_overlay g.V.View.seen c.args.overlay.now) view c.requires.ready
    (rw c.nibble_of-half.ensures.same at c.nibble_of-half.ensures.below)
    c.args.place.bucket None _ _ (of_overlay g.V.View.seen c.plan_record.new.overlay) c.in-Err.fault c.refusal.result
    c.in_default.is refl c.refusal.ensures c.in-Err.ensures

pub returns-in-Err-plan_record : goal.returns-in-Err-plan_record
returns-in-Err-plan_record g c =
    let o = c.args.overlay.now in
    let view = overlay_shows g.V.View.seen g.met.V.View.proper o in
    inserts_nothing c.args.volume.now.geometry c.args.level.now c.args.place c.args.slot c.args.pool.now
    (of_overlay g.V.View.seen c.args.overlay.now) view c.requires.ready
    (rw c.nibble_of-half.ensures.same at c.nibble_of-half.ensures.below)
    c.in-Some.child (Some c.in-Some.child) _ _ (of_overlay g.V.View.seen c.plan_record-2.new.overlay)
    c.in-Err-plan_record.fault c.refusal-in-Err-plan_record.result c.in-Some.is refl
    c.refusal-in-Err-plan_record.ensures c.in-Err-plan_record.ensures

pub overflow_add-bucket : goal.overflow_add-bucket
overflow_add-bucket g c =
    omega (arith, c.next-node.ensures, c.from.ensures, c.nibble_of.ensures.below, c.requires.room)

pub plan_record-requires-3-clause-inside : goal.plan_record-requires-3-clause-inside
plan_record-requires-3-clause-inside g c =
    omega (arith, c.next-node.ensures, c.from.ensures, c.nibble_of.ensures.below, c.requires.room)

pub returns : goal.returns
returns g c =
    let o = c.args.overlay.now in
    let view = overlay_shows g.V.View.seen g.met.V.View.proper o in
    inserts_with_node c.args.volume.now.geometry c.args.level.now c.args.place c.args.slot c.args.pool.now
    (of_overlay g.V.View.seen c.args.overlay.now) view c.requires.ready
    (rw c.nibble_of-half.ensures.same at c.nibble_of-half.ensures.below)
    c.grant.new.self (of_overlay g.V.View.seen c.plan_record-2.new.overlay)
    (of_overlay g.V.View.seen c.plan_record-3.new.overlay) c.in-Some.child c.next-node.result
    (c.next-node.result + c.from.result) c.fingerprint_of.result
    (rw c.nibble_of.ensures.same at c.nibble_of.ensures.below) c.fingerprint_of.ensures c.in-Some.is c.next-node.ensures
    (ap (λ (n : ℕ). c.next-node.result + n) (c.from.ensures ∙ c.nibble_of.ensures.same))
    c.in-Some-grant.ensures.granted.next c.in-Some-grant.ensures.granted.end
    (rw (c.root_at-root.ensures.at, c.node.ensures) at c.in_default-plan_record.ensures)
    (rw c.root_at-root.ensures.at at c.in-Ok-plan_record.ensures)
