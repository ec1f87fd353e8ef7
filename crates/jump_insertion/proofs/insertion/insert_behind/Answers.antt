-- Each ending, by the lemma of its kind.
use Rattle.std.proofs.Common.{arith, inl, inr, refl, ap, ◌∙◌}
use Rattle.cell_types.proofs.Passed.{handed}
use Rattle.cell_pool.specs.declared.fault.GrowthFault.TheVariants as growth
use Rattle.cell_types.specs.Image.{Image}
use Rattle.worm_device.specs.Overlays.{of_overlay}
use Rattle.jump_insertion.proofs.Adding.{grows_both, grown_in_tail, grown_in_new}
use Rattle.jump_insertion.proofs.Lasting.{is_last, is_last_full}
use Rattle.jump_insertion.proofs.Placing.{both_places, new_target, read_fault, tail_target}
use Rattle.jump_insertion.proofs.Planned.{planned_both}
use Rattle.jump_insertion.proofs.Showing.{is_view}
use Rattle.jump_insertion.proofs.insertion.insert_behind.Goals as goal

-- a fault of the search for the tail
pub returns-in_err-found-clause-places : goal.returns-in_err-found-clause-places
returns-in_err-found-clause-places g c =
    rw (handed c.from_residual.result (growth.Fault c.in_err-found.field-0.0) c.from_residual.ensures.1)
    (read_fault c.args.insertion.list.head c.args.insertion.list.floor c.args.pool.now.next c.args.home.visit.block
    c.args.insertion.entry c.args.home.visit.within.low c.args.home.visit.within.high
    (of_overlay g.V.View.seen c.args.overlay.now) (of_overlay g.V.View.seen c.tail.new.overlay)
    c.in_err-found.field-0.0 c.in_err-found.ensures.finds.viewed c.in_err-found.ensures.finds.ends)

-- a new block
pub returns-in_default-clause-places : goal.returns-in_default-clause-places
returns-in_default-clause-places g c =
    let viewed = c.tail.ensures.finds.viewed in
    both_places c.args.pool.now c.args.insertion c.args.home c.grant.new.self.next
    (of_overlay g.V.View.seen c.args.overlay.now) (of_overlay g.V.View.seen c.tail.new.overlay)
    (of_overlay g.V.View.seen c.put_both.new.overlay) (record { block = c.in-Some-grant.target; place = 0 })
    (is_view g.V.View.seen g.met.V.View.proper c.args.overlay.now) c.requires
    (new_target c.args.pool.now c.grant.new.self c.args.insertion c.args.home c.in-Some-grant.target
    (of_overlay g.V.View.seen c.args.overlay.now) (of_overlay g.V.View.seen c.tail.new.overlay)
    (is_view g.V.View.seen g.met.V.View.proper c.tail.new.overlay) c.requires viewed c.in-Some-grant.ensures.granted)
    viewed c.put_both.result c.put_both.ensures.puts

-- the tail
pub returns-clause-places : goal.returns-clause-places
returns-clause-places g c =
    let viewed = c.tail.ensures.finds.viewed in
    both_places c.args.pool.now c.args.insertion c.args.home c.args.pool.now.next
    (of_overlay g.V.View.seen c.args.overlay.now) (of_overlay g.V.View.seen c.tail.new.overlay)
    (of_overlay g.V.View.seen c.put_both-2.new.overlay) c.in-Some.spot
    (is_view g.V.View.seen g.met.V.View.proper c.args.overlay.now) c.requires
    (tail_target c.args.insertion c.args.pool.now.next c.args.home.visit.block
    (of_overlay g.V.View.seen c.args.overlay.now) (of_overlay g.V.View.seen c.tail.new.overlay) c.in-Some.spot
    (is_view g.V.View.seen g.met.V.View.proper c.tail.new.overlay) viewed
    (rw c.in-Some.is at c.in_ok-found.ensures.finds).ends)
    viewed c.put_both-2.result c.put_both-2.ensures.puts

pub returns-in_default-clause-grows : goal.returns-in_default-clause-grows
returns-in_default-clause-grows g c =
    let home = c.requires in
    let posting = c.requires.visit.posting in
    let viewed = c.tail.ensures.finds.viewed in
    let granted = c.in-Some-grant.ensures.granted in
    let view = is_view g.V.View.seen g.met.V.View.proper c.tail.new.overlay in
    grows_both c.args.pool.now c.args.insertion c.args.home c.grant.new.self.next 258
    (of_overlay g.V.View.seen c.args.overlay.now) (of_overlay g.V.View.seen c.tail.new.overlay)
    (of_overlay g.V.View.seen c.put_both.new.overlay) (record { block = c.in-Some-grant.target; place = 0 })
    (is_view g.V.View.seen g.met.V.View.proper c.args.overlay.now) home
    (new_target c.args.pool.now c.grant.new.self c.args.insertion c.args.home c.in-Some-grant.target
    (of_overlay g.V.View.seen c.args.overlay.now) (of_overlay g.V.View.seen c.tail.new.overlay) view home viewed granted)
    viewed
    (λ tells same still puts. grown_in_new c.args.insertion.list.floor c.args.pool.now.next c.grant.new.self.next
    c.args.home.visit.block c.in-Some-grant.target c.args.insertion.entry
    (of_overlay g.V.View.seen c.tail.new.overlay) (of_overlay g.V.View.seen c.put_both.new.overlay)
    granted.first granted.next
    (λ x past. view.beyond x (ap (λ (f : Image). f x) viewed.planned ∙ posting.free x past)
    (omega (arith, past, posting.fresh, viewed.fresh)))
    (is_last_full c.args.insertion.list.floor c.args.pool.now.next c.args.home.visit.block c.args.home.greatest_key
    c.args.insertion.entry.key c.args.home.to
    (of_overlay g.V.View.seen c.args.overlay.now) (of_overlay g.V.View.seen c.tail.new.overlay)
    home.span home.below (home.full tells) (home.blank tells) tells still same
    (rw c.in_default.is at c.in_ok-found.ensures.last)) puts)
    c.put_both.result c.put_both.ensures.puts

pub returns-clause-grows : goal.returns-clause-grows
returns-clause-grows g c =
    let home = c.requires in
    let viewed = c.tail.ensures.finds.viewed in
    let found = (rw c.in-Some.is at c.in_ok-found.ensures.finds).ends in
    let led = rw c.in-Some.is at c.in_ok-found.ensures.leads in
    grows_both c.args.pool.now c.args.insertion c.args.home c.args.pool.now.next 2
    (of_overlay g.V.View.seen c.args.overlay.now) (of_overlay g.V.View.seen c.tail.new.overlay)
    (of_overlay g.V.View.seen c.put_both-2.new.overlay) c.in-Some.spot
    (is_view g.V.View.seen g.met.V.View.proper c.args.overlay.now) home
    (tail_target c.args.insertion c.args.pool.now.next c.args.home.visit.block
    (of_overlay g.V.View.seen c.args.overlay.now) (of_overlay g.V.View.seen c.tail.new.overlay) c.in-Some.spot
    (is_view g.V.View.seen g.met.V.View.proper c.tail.new.overlay) viewed found)
    viewed
    (λ tells same still puts. grown_in_tail c.args.insertion.list.floor c.args.pool.now.next c.args.home.visit.block
    c.args.insertion.entry
    (of_overlay g.V.View.seen c.tail.new.overlay) (of_overlay g.V.View.seen c.put_both-2.new.overlay) c.in-Some.spot
    (led tells) found.1 found.2
    (is_last c.args.insertion.list.floor c.args.pool.now.next c.args.home.visit.block c.args.home.greatest_key
    c.args.insertion.entry.key c.args.home.to c.in-Some.spot
    (of_overlay g.V.View.seen c.args.overlay.now) (of_overlay g.V.View.seen c.tail.new.overlay)
    home.span home.below (home.full tells) (home.blank tells) tells still same
    (rw c.in-Some.is at c.in_ok-found.ensures.last)) puts)
    c.put_both-2.result c.put_both-2.ensures.puts

pub returns-in_default-clause-planned : goal.returns-in_default-clause-planned
returns-in_default-clause-planned g c =
    let viewed = c.tail.ensures.finds.viewed in
    let granted = c.in-Some-grant.ensures.granted in
    planned_both c.args.pool.now c.args.insertion c.args.home c.grant.new.self.next
    (of_overlay g.V.View.seen c.args.overlay.now) (of_overlay g.V.View.seen c.tail.new.overlay)
    (of_overlay g.V.View.seen c.put_both.new.overlay) (record { block = c.in-Some-grant.target; place = 0 }) c.requires
    (new_target c.args.pool.now c.grant.new.self c.args.insertion c.args.home c.in-Some-grant.target
    (of_overlay g.V.View.seen c.args.overlay.now) (of_overlay g.V.View.seen c.tail.new.overlay)
    (is_view g.V.View.seen g.met.V.View.proper c.tail.new.overlay) c.requires viewed granted)
    viewed (inr (granted.first, granted.next)) c.put_both.result c.put_both.ensures.puts

pub returns-clause-planned : goal.returns-clause-planned
returns-clause-planned g c =
    let viewed = c.tail.ensures.finds.viewed in
    planned_both c.args.pool.now c.args.insertion c.args.home c.args.pool.now.next
    (of_overlay g.V.View.seen c.args.overlay.now) (of_overlay g.V.View.seen c.tail.new.overlay)
    (of_overlay g.V.View.seen c.put_both-2.new.overlay) c.in-Some.spot c.requires
    (tail_target c.args.insertion c.args.pool.now.next c.args.home.visit.block
    (of_overlay g.V.View.seen c.args.overlay.now) (of_overlay g.V.View.seen c.tail.new.overlay) c.in-Some.spot
    (is_view g.V.View.seen g.met.V.View.proper c.tail.new.overlay) viewed
    (rw c.in-Some.is at c.in_ok-found.ensures.finds).ends)
    viewed (inl refl) c.put_both-2.result c.put_both-2.ensures.puts
