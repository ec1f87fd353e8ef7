-- The node lies on the device; its child cells more; and all of them.
use Rattle.std.proofs.Common.{◌≡◌, ℕ, [], length, Some, refl, sym, subst, arith}
use Rattle.std.specs.Prelude.{slice_get}
use Rattle.std.proofs.lemmas.Option.{none-some}
use Rattle.log_audit.specs.Kept.{image_of_kept}
use Rattle.tree_audit.specs.ChildCells.{IsLeadAmong}
use Rattle.tree_audit.specs.Numbers.{AddsNumbers}
use Rattle.tree_audit.proofs.EachNode.{is_node, node_here, some_inside}
use Rattle.tree_audit.proofs.Numbering.{adds_none, are_all, last_leads, more_leads, no_leads, now_leads}
use Rattle.tree_audit.proofs.child_cells.leads_of.Goals as goal

pub loop-number-init : goal.loop-number-init
loop-number-init c =
    let g = c.args.geometry.now in let image = image_of_kept c.args.kept.now in let nodes = c.args.nodes.now in (
      subst (AddsNumbers (IsLeadAmong g image nodes 0) []) (sym c.new-leads.ensures.items)
          (adds_none (IsLeadAmong g image nodes 0) [] (no_leads g image nodes)),
      λ before x is. absurd (none-some before is),
    )

pub cell_of-node-requires : goal.cell_of-node-requires
cell_of-node-requires c =
    let here = node_here c.args.nodes.now c.args.nodes.now c.loop-number.number-index refl (omega (arith, c.loop-number-test.true)) in
    let inside = some_inside c.cells-cells.ensures.exists (is_node c.loop-number.number-index c.requires here) in
    omega (arith, inside, c.cells-cells.ensures.exists.cells)

pub push_leads-requires-clause-inside : goal.push_leads-requires-clause-inside
push_leads-requires-clause-inside c =
    let here = node_here c.args.nodes.now c.args.nodes.now c.loop-number.number-index refl (omega (arith, c.loop-number-test.true)) in
    let inside = some_inside c.cells-cells.ensures.exists (is_node c.loop-number.number-index c.requires here) in
    omega (arith, inside, c.cells-cells.ensures.exists.cells, c.cell_of-node.ensures)

pub push_leads-requires-clause-added : goal.push_leads-requires-clause-added
push_leads-requires-clause-added c = last_leads _ c.loop-number.invariant.1 c.first_place_behind-first.ensures.passed

pub loop-number-preserved : goal.loop-number-preserved
loop-number-preserved c =
    let nodes = c.args.nodes.now in let i = c.loop-number.number-index in
    let here = node_here nodes nodes i refl (omega (arith, c.loop-number-test.true)) in
    let node : slice_get nodes i ≡ Some c.cell_of-node.result = subst (λ (n : ℕ). slice_get nodes i ≡ Some n) (sym c.cell_of-node.ensures) here in
    (more_leads c.cell_of-node.result c.loop-number.invariant.0 node c.in_ok-push_leads.ensures, now_leads c.in_ok-push_leads.ensures)

pub returns : goal.returns
returns c =
    let g = c.args.geometry.now in let image = image_of_kept c.args.kept.now in let nodes = c.args.nodes.now in
    let all : c.loop-number.number-index ≡ length nodes = omega (arith, c.loop-number-test.false, c.loop-number.auto.number-index-end) in
    are_all (IsLeadAmong g image nodes (length nodes)) refl
    (subst (λ (n : ℕ). AddsNumbers (IsLeadAmong g image nodes n) [] c.loop-number.leads.items) all c.loop-number.invariant.0)
    c.sort_once.ensures.rises c.sort_once.ensures.keeps c.sort_once.ensures.adds_none
