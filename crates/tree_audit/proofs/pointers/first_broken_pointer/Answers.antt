-- A block behind what was found; one block more; and all of them.
use Rattle.std.proofs.Common.{List, length, ap, arith}
use Rattle.log_audit.specs.KeptVolumes.{image_in}
use Rattle.tamper_rules.specs.Rules.{Pointers}
use Rattle.list_audit.specs.declared.listed.ListBlock.{ListBlock}
use Rattle.list_audit.proofs.EachBlock.{block_behind, block_here, decided, each_block, one_block}
use Rattle.tree_audit.specs.Leading.{PointerAsks}
use Rattle.tree_audit.proofs.ForTwo.{pointers_decided}
use Rattle.tree_audit.proofs.Going.{block_asks, rule_asks}
use Rattle.tree_audit.proofs.pointers.first_broken_pointer.Goals as goal

pub first_in_block-requires-clause-block : goal.first_in_block-requires-clause-block
first_in_block-requires-clause-block c = c.requires.blocks.taken.each c.loop-block.block-index _
    (block_here _ _ c.loop-block.block-index c.deref-block-items.ensures.value (omega arith))

pub loop-block-preserved-then-lies_behind : goal.loop-block-preserved-then-lies_behind
loop-block-preserved-then-lies_behind c = let volume = c.args.volume.now in
    block_behind volume.geometry (image_in volume) Pointers c.args.blocks.now.blocks.items
    (PointerAsks volume.geometry (image_in volume)) c.loop-block.block-index _ _ c.loop-block.invariant
    (block_here _ _ c.loop-block.block-index c.deref-block-items.ensures.value (omega arith))
    (c.lies_behind.ensures.0 c.if-lies_behind.true)
    (λ cell less level digit levels some digits at. absurd (omega (arith, less, at)))

pub loop-block-preserved : goal.loop-block-preserved
loop-block-preserved c = let volume = c.args.volume.now in
    one_block volume.geometry (image_in volume) Pointers c.args.blocks.now.blocks.items
    (PointerAsks volume.geometry (image_in volume)) c.loop-block.block-index _ _ _ _ c.loop-block.invariant
    (block_here _ _ c.loop-block.block-index c.deref-block-items.ensures.value (omega arith))
    c.first_in_block.ensures c.lower_of-least.ensures

pub returns : goal.returns
returns c =
    let g = c.args.volume.now.geometry in let image = image_in c.args.volume.now in let rows : List ListBlock = c.args.blocks.now.blocks.items in
    decided g image Pointers rows (PointerAsks g image) c.requires.blocks.taken.each (pointers_decided c.requires.blocks) _
    (each_block g image Pointers rows (PointerAsks g image) c.loop-block.block-index _ c.loop-block.invariant
    (omega (arith, c.loop-block-test.false, ap (λ (xs : List ListBlock). length xs) c.deref-block-items.ensures.value)))
    (rule_asks g image) (block_asks g image)
