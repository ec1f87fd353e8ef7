-- The slot before, and how the last one follows it.
use Rattle.std.proofs.Common.{refl, ◌≡◌, ◌+◌, ◌-◌, sym, ◌∙◌, arith}
use Rattle.worm_device.proofs.Resting.{viewed_then}
use Rattle.recovery_engine.proofs.InOrder.{elsewhere, follows_on, first_elsewhere}
use Rattle.recovery_engine.proofs.Phasing.{false_true}
use Rattle.recovery_engine.proofs.ordered.last_slot.Goals as goal

-- the first slot does not begin where the pool does
pub returns-then-cells-pool_at-clause-ends : goal.returns-then-cells-pool_at-clause-ends
returns-then-cells-pool_at-clause-ends g c =
    first_elsewhere c.args.volume.now.geometry c.args.last (g.V.View.seen c.args.view.now)
    (g.V.View.seen c.slot_state_of.new.view) c.in_ok-state.state c.in-Some.cells c.out_of_order.result
    c.if-last-eq0.true c.requires.slot (sym c.reservation.ensures ∙ c.in-Some.is)
    (λ same. c.if-cells-pool_at.true (same ∙ sym c.pool_at.ensures.at)) c.out_of_order.ensures
    c.in_ok-state.ensures.ends

pub returns-then-not-is_followed-clause-viewed : goal.returns-then-not-is_followed-clause-viewed
returns-then-not-is_followed-clause-viewed g c = viewed_then c.in_ok-state.ensures.viewed c.in_ok-before.ensures.viewed

-- the slot before has not ended, or ends elsewhere
pub returns-then-not-is_followed-clause-ends : goal.returns-then-not-is_followed-clause-ends
returns-then-not-is_followed-clause-ends g c =
    let v0 = g.V.View.seen c.args.view.now in
    let v1 = g.V.View.seen c.slot_state_of.new.view in
    let v2 = g.V.View.seen c.slot_state.new.view in
    let next : c.args.last ≡ (c.args.last - 1) + 1 = omega (arith, c.if-last-eq0.false) in
    elsewhere c.args.volume.now.geometry c.args.last (c.args.last - 1) next c.requires.slot v0 v1 v2
    c.in_ok-state.ensures.viewed c.in_ok-before.ensures.viewed c.in_ok-state.state c.in_ok-before.before c.in-Some.cells
    (sym c.reservation.ensures ∙ c.in-Some.is) c.in_ok-state.ensures.ends c.in_ok-before.ensures.ends
    c.out_of_order-then-not-is_followed.result c.out_of_order-then-not-is_followed.ensures
    (λ h. false_true (c.if-not-is_followed.ensures.1 h))

pub returns-in_err-before-clause-viewed : goal.returns-in_err-before-clause-viewed
returns-in_err-before-clause-viewed g c = viewed_then c.in_ok-state.ensures.viewed c.in_err-before.ensures.viewed

pub returns-clause-viewed : goal.returns-clause-viewed
returns-clause-viewed g c = viewed_then c.in_ok-state.ensures.viewed c.in_ok-before.ensures.viewed

-- the slot follows the one before
pub returns-clause-ends : goal.returns-clause-ends
returns-clause-ends g c =
    let v0 = g.V.View.seen c.args.view.now in
    let v1 = g.V.View.seen c.slot_state_of.new.view in
    let v2 = g.V.View.seen c.slot_state.new.view in
    let next : c.args.last ≡ (c.args.last - 1) + 1 = omega (arith, c.if-last-eq0.false) in
    follows_on c.args.volume.now.geometry c.args.last (c.args.last - 1) next c.requires.slot v0 v1 v2
    c.in_ok-state.ensures.viewed c.in_ok-before.ensures.viewed c.in_ok-state.state c.in_ok-before.before c.in-Some.cells
    (sym c.reservation.ensures ∙ c.in-Some.is) c.in_ok-state.ensures.ends c.in_ok-before.ensures.ends
    (c.if-not-is_followed.ensures.0 refl)
