-- The root was seen; the nodes of a row lie on the device; one level more; and all of them.
use Rattle.std.proofs.Common.{◌≡◌, ◌↔◌, ℕ, List, true, sym, subst, arith}
use Rattle.std.specs.Prelude.{Contains}
use Rattle.std.specs.BTreeSet.{contains}
use Rattle.std.specs.List.Sorted.{IsStrictlyIncreasing}
use Rattle.std.specs.Ordering.{nat_cmp}
use Rattle.log_audit.specs.Kept.{image_of_kept}
use Rattle.tree_audit.specs.Nodes.{AddsRow, AreNodesInside, AreUnder, IsSomeNode}
use Rattle.tree_audit.specs.Numbers.{AreAll}
use Rattle.tree_audit.proofs.Gathering.{all_seen, both_ok, level_seen, none_seen, root_seen, row_inside}
use Rattle.tree_audit.proofs.nodes.all_nodes.Goals as goal

pub loop-level-init : goal.loop-level-init
loop-level-init c = root_seen (none_seen c.new-seen.result c.new-seen.ensures.empty) c.in_ok-root.ensures
    (subst (λ (xs : List ℕ). AddsRow xs c.new-seen.result c.unseen.new.seen c.in_ok-row.row.items) c.deref.ensures.value c.in_ok-row.ensures)

pub row_under-requires : goal.row_under-requires
row_under-requires c = subst (AreNodesInside c.args.geometry.now) (sym c.deref-in-loop-level.ensures.value)
    (row_inside c.cells-cells.ensures.exists c.loop-level.invariant)

pub loop-level-preserved : goal.loop-level-preserved
loop-level-preserved c =
    let under : AreUnder c.args.geometry.now (image_of_kept c.args.kept.now) c.loop-level.row.items c.in_ok-under.under.items =
    subst (λ (xs : List ℕ). AreUnder c.args.geometry.now (image_of_kept c.args.kept.now) xs c.in_ok-under.under.items) c.deref-in-loop-level.ensures.value
    c.in_ok-under.ensures in
    level_seen c.loop-level-test.true c.loop-level.invariant under
    (subst (λ (xs : List ℕ). AddsRow xs c.loop-level.seen c.unseen-in-loop-level.new.seen c.in_ok-row-2.row.items) c.deref-in-loop-level-2.ensures.value
    c.in_ok-row-2.ensures)

pub returns : goal.returns
returns c = both_ok (λ rows. IsStrictlyIncreasing rows.items) (λ rows. (x : ℕ) → Contains rows.items x ↔ (contains nat_cmp c.loop-level.seen x ≡ true))
    (λ rows. AreAll (IsSomeNode c.args.geometry.now (image_of_kept c.args.kept.now)) rows.items) c.numbers_of.result
    (λ rows rises same. all_seen c.loop-level.invariant (omega (arith, c.loop-level-test.false)) rises same) c.numbers_of.ensures.rises c.numbers_of.ensures.same
