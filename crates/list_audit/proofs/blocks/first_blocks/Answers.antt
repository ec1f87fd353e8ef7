-- One list more, and all of them.
use Rattle.std.proofs.Common.{◌∙◌, arith}
use Rattle.list_audit.proofs.Closing.{one_first, all_first}
use Rattle.list_audit.proofs.Taking.{adds_by}
use Rattle.list_audit.proofs.blocks.first_blocks.Goals as goal

pub loop-list-preserved : goal.loop-list-preserved
loop-list-preserved c = (
  c.add.ensures.mode ∙ c.loop-list.invariant.0,
  one_first c.loop-list.invariant.1 (omega (arith, c.loop-list-test.true, c.list_count-list-end.ensures)) c.list_at-block.ensures.at
      (adds_by c.loop-list.invariant.0 c.in_ok-add.ensures.adds),
  c.in_ok-add.ensures.found,
)

pub returns-clause-closed : goal.returns-clause-closed
returns-clause-closed c = λ image. all_first image c.loop-list.invariant.1 (omega (arith, c.loop-list-test.false, c.list_count-list-end.ensures))
