-- The path ended in a node that lies before what is free, and only the list has planned there.
use Rattle.std.proofs.Common.{rules, ◌≡◌, ◌≢◌, ◌<◌, ◌≤◌, ◌∙◌, ⊎_elim, ℕ, List, Some, None, Ok, sym, ap, subst, arith}
use Rattle.std.specs.Prelude.{IsTrue}
use Rattle.std.specs.Ordering.{nat_cmp}
use Rattle.std.specs.BTreeMap.{get}
use Rattle.std.proofs.lemmas.Option.{none-some}
use Rattle.cell_types.specs.Image.{Extends}
use Rattle.cell_types.specs.Layout.{Layout, pool_at, root_at}
use Rattle.tamper_rules.proofs.Writing.{same_or_not}
use Rattle.worm_device.specs.Overlays.{Plans}
use Rattle.worm_device.specs.Views.{ViewState}
use Rattle.worm_device.specs.declared.overlay.PlannedCells.{PlannedCells}
use Rattle.worm_device.specs.declared.owner.Owner.{Owner}
use Rattle.hash_tree.specs.Levels.{IsLevelPlaced}
use Rattle.hash_tree.specs.Steps.{IsOpenOf}
use Rattle.hash_tree.specs.declared.level.ChildCell.{ChildCell}
use Rattle.hash_tree.specs.declared.level.Level.{Level}
use Rattle.hash_tree.specs.declared.path.Open.{Open}
use Rattle.hash_tree.specs.Readiness.{IsReadyPlace, blank_of}
use Rattle.hash_tree.proofs.Readiness.{ready_after}
use Rattle.index_tests.proofs.nodes.a_node_that_is_planned_for_a_list_is_evidence.Goals as goal

owner_now : {old new : ViewState} {at : ℕ} {value : List ℕ} {owner : Owner} → ((cell : ℕ) → old.owners cell ≡ None)
    → Plans at value owner old new (Ok tt) → (cell : ℕ) (other : Owner) → new.owners cell ≡ Some other → other ≡ owner
owner_now {old} {new} {at} {value} {owner} none plans cell other is =
    ⊎_elim
    (λ same. some_owner other owner (sym is ∙ ap new.owners same ∙ plans.ends.for_whom))
    (λ differ. absurd (none-some other (sym (none cell) ∙ sym (plans.others cell differ).2 ∙ is)))
    (same_or_not cell at)
  where
    some_owner : (a b : Owner) → Some a ≡ Some b → a ≡ b
    some_owner a b e = cc

ready_beside : {g : Layout} {edge next : ℕ} {level : Level} {place : Open} {seen old new : ViewState} {value : List ℕ}
    {owner : Owner} {led : ChildCell} → IsLevelPlaced g edge seen level → IsOpenOf g level place → pool_at g ≤ edge
    → old.fresh ≡ edge → edge ≡ next → (IsTrue old.base.tells → IsTrue seen.base.tells × Extends seen.image old.lower)
    → ((cell : ℕ) → old.planned cell ≡ None) → ((cell : ℕ) → old.owners cell ≡ None)
    → Plans place.bucket value owner old new (Ok tt) → place.bucket < edge → level.led_by ≡ Some led
    → owner.head ≢ root_at g → IsReadyPlace g level place next new
ready_beside {g} {edge} {next} {level} {place} {seen} {old} {new} {value} {owner} {led} placed at from is_fresh is_next
    stands blank unowned plans low is_led another =
    ready_after placed at from (ap (λ (n : ℕ). n) plans.fresh ∙ is_fresh) (omega (arith, is_next))
    (λ tells.
    let was = stands (subst IsTrue (ap (λ b. b.tells) plans.base) tells) in
    (was.0, record { keeps = λ cell value is. ap (λ f. f cell) plans.lower ∙ was.1.keeps cell value is }))
    (λ cell past. (plans.others cell (λ same. omega (arith, same, low, is_next, past))).1 ∙ blank cell)
    (λ none. absurd (none-some led (sym none ∙ is_led)))
    (λ same. another (ap (λ (o : Owner). o.head) (sym (owner_now unowned plans (blank_of place) _ same))))

pub insert-done-requires-clause-ready : goal.insert-done-requires-clause-ready
insert-done-requires-clause-ready g c =
    let geometry : c.in_ok-geometry.geometry ≡ record { slots = 8; lists = 2; cells = 1000; version = 1 } = search rules in
    let at : IsOpenOf c.in_ok-geometry.geometry c.next_candidate-step.new.level c.in-End.place =
    (rw c.in-End.is at c.in-Ok.ensures).ends.0 in
    let from : pool_at c.in_ok-geometry.geometry ≤ 836 = rw geometry (omega arith) in
    let nothing : (cell : ℕ) → get nat_cmp c.new-overlay.result.own.now.planned cell ≡ None =
    λ cell. ap (λ (p : PlannedCells). get nat_cmp p.planned cell) c.new-overlay.ensures.same ∙ c.new-own.ensures cell in
    ready_beside c.next_candidate-step.ensures.placed at from (sym c.fresh.ensures ∙ c.if-fresh-ne836.false)
    (sym c.over-pool.ensures.next)
    (λ tells. (
      tells,
      record { keeps = λ cell value is. rw (c.new-overlay.ensures.view, c.new-4.ensures.same) (search rules) },
    ))
    nothing
    (λ cell. c.new-overlay.result.own.now.owned.unowned cell (nothing cell))
    (rw c.in_ok-plan.was at c.plan.ensures) c.if-place-ge836.false c.in-Some.is
    (λ same. let other : 292 ≡ root_at (record { slots = 8; lists = 2; cells = 1000; version = 1 }) = same ∙ ap root_at geometry in
    omega (arith, other))
