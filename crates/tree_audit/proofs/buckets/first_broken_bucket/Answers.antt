-- A node lies on the device; one behind what was found; one node more; and all of them.
use Rattle.std.proofs.Common.{◌≡◌, ℕ, List, length, Some, sym, subst, ap, arith}
use Rattle.std.specs.Prelude.{slice_get}
use Rattle.log_audit.specs.KeptVolumes.{image_in}
use Rattle.tamper_rules.specs.Rules.{Buckets}
use Rattle.tree_audit.specs.Buckets.{AsksBucket}
use Rattle.tree_audit.specs.Nodes.{IsSomeNode}
use Rattle.tree_audit.proofs.EachNode.{every_node, is_node, node_behind, node_here, one_node, some_inside}
use Rattle.tree_audit.proofs.Judging.{asks_none_before}
use Rattle.tree_audit.proofs.buckets.first_broken_bucket.Goals as goal

pub cell_of-node-requires : goal.cell_of-node-requires
cell_of-node-requires c =
    let here = node_here _ _ c.loop-number.number-index c.deref-number-items.ensures.value (omega arith) in
    let inside = some_inside c.cells-cells.ensures.exists (is_node c.loop-number.number-index c.requires.nodes.nodes here) in
    omega (arith, inside, c.cells-cells.ensures.exists.cells)

pub broken_in_node-found-requires-clause-node : goal.broken_in_node-found-requires-clause-node
broken_in_node-found-requires-clause-node c = let volume = c.args.volume.now in
    let here = node_here _ _ c.loop-number.number-index c.deref-number-items.ensures.value (omega arith) in
    subst (IsSomeNode volume.geometry (image_in volume)) (sym c.cell_of-node.ensures) (is_node c.loop-number.number-index c.requires.nodes.nodes here)

pub loop-number-preserved-then-lies_behind : goal.loop-number-preserved-then-lies_behind
loop-number-preserved-then-lies_behind c = let volume = c.args.volume.now in let nodes : List ℕ = c.args.nodes.now.nodes.items in
    let here = node_here _ _ c.loop-number.number-index c.deref-number-items.ensures.value (omega arith) in
    let node : slice_get nodes c.loop-number.number-index ≡ Some c.cell_of-node.result =
    subst (λ (n : ℕ). slice_get nodes c.loop-number.number-index ≡ Some n) (sym c.cell_of-node.ensures) here in
    node_behind volume.geometry (image_in volume) Buckets nodes (AsksBucket volume.geometry (image_in volume)) c.loop-number.number-index
    c.cell_of-node.result node (asks_none_before volume.geometry (image_in volume) c.cell_of-node.result) c.loop-number.least
    c.loop-number.invariant (c.lies_behind.ensures.0 c.if-lies_behind.true)

pub loop-number-preserved : goal.loop-number-preserved
loop-number-preserved c = let volume = c.args.volume.now in let nodes : List ℕ = c.args.nodes.now.nodes.items in
    let here = node_here _ _ c.loop-number.number-index c.deref-number-items.ensures.value (omega arith) in
    let node : slice_get nodes c.loop-number.number-index ≡ Some c.cell_of-node.result =
    subst (λ (n : ℕ). slice_get nodes c.loop-number.number-index ≡ Some n) (sym c.cell_of-node.ensures) here in
    one_node volume.geometry (image_in volume) Buckets nodes (AsksBucket volume.geometry (image_in volume)) c.loop-number.number-index
    c.cell_of-node.result node _ _ _ c.loop-number.invariant c.broken_in_node-found.ensures c.lower_of-least.ensures

pub returns : goal.returns
returns c = let volume = c.args.volume.now in let nodes : List ℕ = c.args.nodes.now.nodes.items in
    every_node volume.geometry (image_in volume) Buckets nodes (AsksBucket volume.geometry (image_in volume)) c.loop-number.number-index _
    c.requires.nodes.nodes c.loop-number.invariant
    (omega (arith, c.loop-number-test.false, ap (λ (xs : List ℕ). length xs) c.deref-number-items.ensures.value))
    (λ cell each level node x is. each node (level, is) x)
    (λ cell rule node is x. rule is.0 node x is.1)
