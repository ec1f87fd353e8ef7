-- A block behind what was found; one block more; and all of them.
use Rattle.std.proofs.Common.{arith}
use Rattle.std.proofs.lemmas.Option.{slice_get-get_or}
use Rattle.log_audit.specs.KeptVolumes.{image_in}
use Rattle.tamper_rules.specs.Rules.{Postings}
use Rattle.list_audit.proofs.EachBlock.{block_behind, each_block, one_block}
use Rattle.list_audit.specs.Owing.{BlockOwes}
use Rattle.list_audit.proofs.postings.least_fake.Goals as goal

pub first_fake_in-requires-clause-block : goal.first_fake_in-requires-clause-block
first_fake_in-requires-clause-block c = c.requires.blocks c.loop-block.block-index _
    (slice_get-get_or c.args.blocks.now c.loop-block.block-index (record { list = 0; block = 0 }) (omega arith))

pub loop-block-preserved-then-lies_behind : goal.loop-block-preserved-then-lies_behind
loop-block-preserved-then-lies_behind c =
    let g = c.args.volume.now.geometry in let image = image_in c.args.volume.now in
    block_behind g image Postings c.args.blocks.now (BlockOwes g image) c.loop-block.block-index _ _ c.loop-block.invariant
    (slice_get-get_or c.args.blocks.now c.loop-block.block-index (record { list = 0; block = 0 }) (omega arith))
    (c.lies_behind.ensures.0 c.if-lies_behind.true) (λ cell less place few at. absurd (omega (arith, less, at)))

pub loop-block-preserved : goal.loop-block-preserved
loop-block-preserved c =
    let g = c.args.volume.now.geometry in let image = image_in c.args.volume.now in
    one_block g image Postings c.args.blocks.now (BlockOwes g image) c.loop-block.block-index _ _ _ _ c.loop-block.invariant
    (slice_get-get_or c.args.blocks.now c.loop-block.block-index (record { list = 0; block = 0 }) (omega arith))
    c.first_fake_in.ensures c.lower_of-least.ensures

pub returns : goal.returns
returns c = let g = c.args.volume.now.geometry in let image = image_in c.args.volume.now in
    each_block g image Postings c.args.blocks.now (BlockOwes g image) c.loop-block.block-index _ c.loop-block.invariant
    (omega (arith, c.loop-block-test.false))
