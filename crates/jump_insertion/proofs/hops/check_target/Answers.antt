-- Outside, planned, new, met, or below.
use Rattle.std.proofs.Common.{◌≡◌, ◌≤◌, ◌+◌, inl, inr, arith, sym, ◌∙◌, subst, Some, None}
use Rattle.worm_device.specs.Overlays.{of_overlay}
use Rattle.jump_insertion.proofs.Hopping.{check_fault, outside_hop, new_hop, met_hop, reached_below, owned_is_planned, planned_jump}
use Rattle.jump_insertion.proofs.Showing.{is_view}
use Rattle.jump_insertion.proofs.hops.check_target.Goals as goal
use Rattle.jump_insertion.proofs.hops.check_target.Goals.{then-target-walk-via-then-target-walk, then-target-walk-via-else-target-walk+then-from}

-- the target lies outside
pub returns-then-target-walk : goal.returns-then-target-walk
returns-then-target-walk g c =
    let s = of_overlay g.V.View.seen c.args.overlay.now in
    let view = is_view g.V.View.seen g.met.V.View.proper c.args.overlay.now in
    check_fault s c.args.walk.list.head c.args.walk.list.floor c.args.walk.next c.args.walk.key c.args.pointer.block c.args.pointer.target c.args.pointer.span
    c.leads_nowhere.result c.leads_nowhere.ensures
    (λ e names tells. outside_hop s view c.args.walk.list.head c.args.walk.list.floor c.args.walk.next c.args.walk.key c.args.pointer.block
    (c.requires.at tells)
    c.args.pointer.span.level c.args.pointer.span.digit c.args.pointer.target
    c.requires.place.levels c.requires.place.some c.requires.place.digits (c.requires.jump tells) c.requires.fresh
    (elim c.then-target-walk.branch [
      | then-target-walk-via-then-target-walk w ↦ inl (omega (arith, w.if-target-walk))
      | then-target-walk-via-else-target-walk+then-from w ↦ inr (omega (arith, w.if-from))
    ])
    e names)

-- the pointer is planned
pub returns-in-Some : goal.returns-in-Some
returns-in-Some g c = (
  omega (arith, c.if-target-walk.false),
  omega (arith, c.if-from.false),
  λ tells.
      let s = of_overlay g.V.View.seen c.args.overlay.now in
      let view = is_view g.V.View.seen g.met.V.View.proper c.args.overlay.now in
      let owns = subst (λ n. s.owners n ≡ Some c.in-Some._owner) c.pointer_cell.ensures
      (sym c.owner.ensures ∙ c.in-Some.is) in
      let planned = owned_is_planned s view c.args.walk.list.head c.args.walk.list.floor c.args.walk.next c.args.walk.key c.args.pointer.block
      (c.requires.at tells)
      _ c.in-Some._owner (omega arith) (omega (arith, c.requires.place.levels, c.requires.place.digits)) owns in
      let on = planned_jump s view c.args.walk.list.head c.args.walk.list.floor c.args.walk.next c.args.walk.key c.args.pointer.block (c.requires.at tells)
      c.args.pointer.span.level c.args.pointer.span.digit c.args.pointer.target
      c.requires.place.levels c.requires.place.some c.requires.place.digits (c.requires.jump tells) planned in
      record { own_block = on.own_block; reached = on.reached; pointer = inl planned },
)

-- the target is new
pub returns-then-from-2 : goal.returns-then-from-2
returns-then-from-2 g c =
    let s = of_overlay g.V.View.seen c.args.overlay.now in
    let view = is_view g.V.View.seen g.met.V.View.proper c.args.overlay.now in
    let none = subst (λ n. s.owners n ≡ None) c.pointer_cell.ensures (sym c.owner.ensures ∙ c.in_default.is) in
    check_fault s c.args.walk.list.head c.args.walk.list.floor c.args.walk.next c.args.walk.key c.args.pointer.block c.args.pointer.target c.args.pointer.span
    c.leads_nowhere-then-from-2.result c.leads_nowhere-then-from-2.ensures
    (λ e names tells. new_hop s view c.args.walk.list.head c.args.walk.list.floor c.args.walk.next c.args.walk.key c.args.pointer.block (c.requires.at tells)
    c.args.pointer.span.level c.args.pointer.span.digit c.args.pointer.target
    c.requires.place.levels c.requires.place.some c.requires.place.digits (c.requires.jump tells) (view.unplanned _ none)
    (omega (arith, c.if-from-2.true, c.from-3.ensures, c.fresh.ensures, c.from-2.ensures)) e names)

-- it meets what is planned for another
pub returns-then-is_met : goal.returns-then-is_met
returns-then-is_met g c =
    let s = of_overlay g.V.View.seen c.args.overlay.now in
    let view = is_view g.V.View.seen g.met.V.View.proper c.args.overlay.now in
    let none = subst (λ n. s.owners n ≡ None) c.pointer_cell.ensures (sym c.owner.ensures ∙ c.in_default.is) in
    check_fault s c.args.walk.list.head c.args.walk.list.floor c.args.walk.next c.args.walk.key c.args.pointer.block c.args.pointer.target c.args.pointer.span
    c.leads_nowhere-then-is_met.result c.leads_nowhere-then-is_met.ensures
    (λ e names tells. met_hop s view c.args.walk.list.head c.args.walk.list.floor c.args.walk.next c.args.walk.key c.args.pointer.block (c.requires.at tells)
    c.args.pointer.span.level c.args.pointer.span.digit c.args.pointer.target
    c.requires.place.levels c.requires.place.some c.requires.place.digits (c.requires.jump tells) (view.unplanned _ none)
    (omega (arith, c.if-target-walk.false))
    (omega (arith, c.if-from-2.false, c.from-3.ensures, c.fresh.ensures, c.from-2.ensures))
    (c.is_met.ensures.met c.if-is_met.true) e names)

-- it stands below
pub returns : goal.returns
returns g c = (
  omega (arith, c.if-target-walk.false),
  omega (arith, c.if-from.false),
  λ tells.
      let s = of_overlay g.V.View.seen c.args.overlay.now in
      let view = is_view g.V.View.seen g.met.V.View.proper c.args.overlay.now in
      let none = subst (λ n. s.owners n ≡ None) c.pointer_cell.ensures (sym c.owner.ensures ∙ c.in_default.is) in
      let free = view.unplanned _ none in
      let old : c.args.pointer.target + 256 ≤ s.fresh =
      omega (arith, c.if-from-2.false, c.from-3.ensures, c.fresh.ensures, c.from-2.ensures) in
      let below = reached_below s view c.args.walk.list.head c.args.walk.list.floor c.args.walk.next c.args.walk.key c.args.pointer.block
      (c.requires.at tells)
      c.args.pointer.span.level c.args.pointer.span.digit c.args.pointer.target
      c.requires.place.levels c.requires.place.some c.requires.place.digits (c.requires.jump tells) free
      (omega (arith, c.if-target-walk.false)) old in
      record {
        own_block = c.is_met.ensures.own c.if-is_met.false tells;
        reached = below.0;
        pointer = inr (record { to = old; free = free; before = below.1; leads = below.2 });
      },
)

pub leads_nowhere-requires-clause-level : goal.leads_nowhere-requires-clause-level
leads_nowhere-requires-clause-level g c = c.requires.place.levels

pub leads_nowhere-requires-clause-some : goal.leads_nowhere-requires-clause-some
leads_nowhere-requires-clause-some g c = c.requires.place.some

pub leads_nowhere-requires-clause-digit : goal.leads_nowhere-requires-clause-digit
leads_nowhere-requires-clause-digit g c = c.requires.place.digits

pub leads_nowhere-requires-clause-inside : goal.leads_nowhere-requires-clause-inside
leads_nowhere-requires-clause-inside g c = omega (arith, c.requires.inside)

pub pointer_cell-requires-clause-level : goal.pointer_cell-requires-clause-level
pointer_cell-requires-clause-level g c = c.requires.place.levels

pub pointer_cell-requires-clause-some : goal.pointer_cell-requires-clause-some
pointer_cell-requires-clause-some g c = c.requires.place.some

pub pointer_cell-requires-clause-digit : goal.pointer_cell-requires-clause-digit
pointer_cell-requires-clause-digit g c = c.requires.place.digits

pub pointer_cell-requires-clause-inside : goal.pointer_cell-requires-clause-inside
pointer_cell-requires-clause-inside g c = omega (arith, c.requires.inside)
