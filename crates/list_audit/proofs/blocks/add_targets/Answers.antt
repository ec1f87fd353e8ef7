-- The block lies on the device; the places of a block that was followed; a place from which no pointer leads, one from which a pointer leads, and all of them.
use Rattle.std.proofs.Common.{◌≤◌, ◌+◌, ◌∙◌, refl, arith}
use Rattle.list_audit.proofs.Closing.{block_inside, no_target, one_more, turn_done}
use Rattle.list_audit.proofs.Following.{followed_more, passed_before, passed_behind}
use Rattle.list_audit.proofs.Taking.{adds_by}
use Rattle.list_audit.proofs.blocks.add_targets.Goals as goal

pub overflow_add-from : goal.overflow_add-from
overflow_add-from c =
    let inside : c.args.from.now.block + 256 ≤ c.args.geometry.now.cells =
    block_inside c.cells-cells.ensures.exists (c.requires.closed.reached c.args.turn c.args.from.now c.requires.here) in
    omega (arith, inside, c.cells-cells.ensures.exists.cells, c.loop-pointer-test.true, c.behind_pointers_of-behind.ensures.most)

pub behind_pointers_of-behind-requires : goal.behind_pointers_of-behind-requires
behind_pointers_of-behind-requires c =
    let inside : c.args.from.now.block + 256 ≤ c.args.geometry.now.cells =
    block_inside c.cells-cells.ensures.exists (c.requires.closed.reached c.args.turn c.args.from.now c.requires.here) in
    omega (arith, inside, c.cells-cells.ensures.exists.cells)

pub loop-pointer-init : goal.loop-pointer-init
loop-pointer-init c = (
  refl,
  passed_before c.requires.closed c.requires.here c.requires.followed c.first_pointer_of-first.ensures.passed,
  c.requires.found,
  c.requires.followed,
)

pub loop-pointer-preserved-in_default : goal.loop-pointer-preserved-in_default
loop-pointer-preserved-in_default c = (
  c.loop-pointer.invariant.0,
  no_target c.loop-pointer.invariant.1 c.in_default.ensures,
  c.loop-pointer.invariant.2,
  c.loop-pointer.invariant.3,
)

pub loop-pointer-preserved : goal.loop-pointer-preserved
loop-pointer-preserved c = let adds = adds_by c.loop-pointer.invariant.0 c.in_ok-add.ensures.adds in (
  c.add.ensures.mode ∙ c.loop-pointer.invariant.0,
  one_more c.loop-pointer.invariant.1 (omega (arith, c.loop-pointer.auto.pointer, c.first_pointer_of-first.ensures.from))
      (omega (arith, c.loop-pointer-test.true, c.behind_pointers_of-behind.ensures.most)) c.in-Some.ensures adds,
  c.in_ok-add.ensures.found,
  followed_more adds c.loop-pointer.invariant.3,
)

pub returns-clause-closed : goal.returns-clause-closed
returns-clause-closed c = turn_done (passed_behind c.loop-pointer.invariant.1 (omega (arith, c.loop-pointer-test.false)) c.loop-pointer.invariant.3
    c.behind_pointers_of-behind.ensures.passed) (omega arith)

pub returns-clause-leads : goal.returns-clause-leads
returns-clause-leads c = (passed_behind c.loop-pointer.invariant.1 (omega (arith, c.loop-pointer-test.false)) c.loop-pointer.invariant.3
    c.behind_pointers_of-behind.ensures.passed).leads
