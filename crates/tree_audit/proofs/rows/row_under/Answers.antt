-- No node yet, one more, and all of them.
use Rattle.std.proofs.Common.{arith}
use Rattle.std.proofs.lemmas.Option.{none-some}
use Rattle.log_audit.specs.Kept.{image_of_kept}
use Rattle.tree_audit.proofs.Closing.{none_under, one_node, all_under, last_added, now_last}
use Rattle.tree_audit.proofs.rows.row_under.Goals as goal

pub loop-number-init : goal.loop-number-init
loop-number-init c = (
  none_under c.args.geometry.now (image_of_kept c.args.kept.now) c.args.row.now _ c.new-under.ensures.items,
  λ before target is. absurd (none-some before is),
)

pub cell_of-node-requires : goal.cell_of-node-requires
cell_of-node-requires c = let inside = c.requires c.loop-number.number-index (omega (arith, c.loop-number-test.true)) in
    omega (arith, inside, c.cells-cells.ensures.exists.cells)

pub push_targets-requires-clause-inside : goal.push_targets-requires-clause-inside
push_targets-requires-clause-inside c = let inside = c.requires c.loop-number.number-index (omega (arith, c.loop-number-test.true)) in
    omega (arith, inside, c.cells-cells.ensures.exists.cells, c.cell_of-node.ensures)

pub push_targets-requires-clause-added : goal.push_targets-requires-clause-added
push_targets-requires-clause-added c = last_added _ c.loop-number.invariant.1 c.first_place_behind-first.ensures.passed

pub loop-number-preserved : goal.loop-number-preserved
loop-number-preserved c = (
  one_node c.loop-number.invariant.0 c.loop-number-test.true c.cell_of-node.ensures c.in_ok-push_targets.ensures,
  now_last c.in_ok-push_targets.ensures,
)

pub returns : goal.returns
returns c = all_under c.loop-number.invariant.0 (omega (arith, c.loop-number-test.false, c.loop-number.auto.number-index-end))
    c.sort_once.ensures.rises c.sort_once.ensures.keeps c.sort_once.ensures.adds_none
