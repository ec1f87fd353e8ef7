-- A block behind what was found; one block more; and all of them.
use Rattle.std.proofs.Common.{ℕ, List, length, ap, arith}
use Rattle.log_audit.specs.Kept.{image_of_kept}
use Rattle.tamper_rules.specs.Rules.{Entries}
use Rattle.list_audit.specs.Entries.{BlockAsks}
use Rattle.list_audit.specs.declared.listed.ListBlock.{ListBlock}
use Rattle.list_audit.proofs.EachBlock.{block_behind, block_here, decided, each_block, one_block, two_decide}
use Rattle.list_audit.proofs.Ordered.{rule_asks, block_asks}
use Rattle.list_audit.proofs.entries.first_broken_entry.Goals as goal

pub first_in_block-requires : goal.first_in_block-requires
first_in_block-requires c = c.requires.taken.each c.loop-block.block-index _ (block_here _ _ c.loop-block.block-index c.deref-block-items.ensures.value (omega arith))

pub loop-block-preserved-then-lies_behind : goal.loop-block-preserved-then-lies_behind
loop-block-preserved-then-lies_behind c = block_behind c.args.geometry.now (image_of_kept c.args.kept.now) Entries c.args.blocks.now.blocks.items
    (λ (_ block : ℕ). BlockAsks (image_of_kept c.args.kept.now) block) c.loop-block.block-index _ _ c.loop-block.invariant
    (block_here _ _ c.loop-block.block-index c.deref-block-items.ensures.value (omega arith))
    (c.lies_behind.ensures.0 c.if-lies_behind.true) (λ cell less place few at. absurd (omega (arith, less, at)))

pub loop-block-preserved : goal.loop-block-preserved
loop-block-preserved c = one_block c.args.geometry.now (image_of_kept c.args.kept.now) Entries c.args.blocks.now.blocks.items
    (λ (_ block : ℕ). BlockAsks (image_of_kept c.args.kept.now) block) c.loop-block.block-index _ _ _ _ c.loop-block.invariant
    (block_here _ _ c.loop-block.block-index c.deref-block-items.ensures.value (omega arith))
    c.first_in_block.ensures c.lower_of-least.ensures

pub returns : goal.returns
returns c =
    let g = c.args.geometry.now in let image = image_of_kept c.args.kept.now in let blocks : List ListBlock = c.args.blocks.now.blocks.items in
    let Asks : ℕ → ℕ → ℕ → Type 0 = λ (_ block : ℕ). BlockAsks image block in
    decided g image Entries blocks Asks c.requires.taken.each (two_decide (BlockAsks image) c.requires) _
    (each_block g image Entries blocks Asks c.loop-block.block-index _ c.loop-block.invariant
    (omega (arith, c.loop-block-test.false, ap (λ (rows : List ListBlock). length rows) c.deref-block-items.ensures.value)))
    (rule_asks g image) (block_asks g image)
