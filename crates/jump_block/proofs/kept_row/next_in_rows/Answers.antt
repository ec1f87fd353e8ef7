-- Each row, and each ending.
use Rattle.std.proofs.Common.{◌*◌, ◌+◌, None, refl, arith}
use Rattle.cell_types.proofs.Passed.{handed}
use Rattle.worm_device.proofs.Resting.{viewed_self}
use Rattle.jump_block.proofs.KeptRowing.{next_ends, rows_failed, rows_more}
use Rattle.jump_block.proofs.kept_row.next_in_rows.Goals as goal

pub loop-turn-init : goal.loop-turn-init
loop-turn-init g c = record {
  viewed = viewed_self (g.V.View.seen c.args.view.now);
  block = refl;
  places = c.requires.places;
  reads = omega arith;
  below = c.requires.below;
  known = c.requires.known;
  kept = c.requires.kept;
}

pub pass_row-requires-clause-inside : goal.pass_row-requires-clause-inside
pass_row-requires-clause-inside g c = omega (arith, c.requires.inside, c.loop-turn.invariant.block, c.cells-cells.ensures.cells, c.cells-cells.type_inv)

pub pass_row-requires-clause-places : goal.pass_row-requires-clause-places
pass_row-requires-clause-places g c = c.loop-turn.invariant.places

pub pass_row-requires-clause-below : goal.pass_row-requires-clause-below
pass_row-requires-clause-below g c = c.loop-turn.invariant.below

pub returns-in-Some : goal.returns-in-Some
returns-in-Some g c =
    rw c.in-Some.is at (
    next_ends c.args.x (32 * c.loop-turn._turn) (g.V.View.seen c.args.view.now)
    (g.V.View.seen c.loop-turn.view) c.args.front.now c.loop-turn.front c.pass_row.new.front c.loop-turn.row
    c.loop-turn.invariant c.pass_row.ensures.passes
    (omega arith) c.pass_row.result c.pass_row.ensures.next)

pub overflow_add-at : goal.overflow_add-at
overflow_add-at g c = omega (
  arith,
  c.requires.inside,
  c.loop-turn.invariant.block,
  c.pass_row.ensures.passes.block,
  c.pass_row.ensures.passes.places,
  c.from.ensures,
  c.cells-cells.ensures.cells,
  c.cells-cells.type_inv,
)

pub returns-then-front-ge-ENTRY_PLACES : goal.returns-then-front-ge-ENTRY_PLACES
returns-then-front-ge-ENTRY_PLACES g c =
    next_ends c.args.x (32 * c.loop-turn._turn) (g.V.View.seen c.args.view.now)
    (g.V.View.seen c.loop-turn.view) c.args.front.now c.loop-turn.front c.pass_row.new.front c.loop-turn.row
    c.loop-turn.invariant c.pass_row.ensures.passes
    (omega arith) None tt

pub read-requires : goal.read-requires
read-requires g c = record {
  inside = omega (
    arith,
    c.requires.inside,
    c.loop-turn.invariant.block,
    c.pass_row.ensures.passes.block,
    c.pass_row.ensures.passes.places,
    c.from.ensures,
    c.loop-turn.invariant.viewed.cells,
  );
}

pub returns-in_err-read : goal.returns-in_err-read
returns-in_err-read g c =
    rw (handed c.from_residual.result c.in_err-read.field-0.0 c.from_residual.ensures.1)
    (rows_failed c.args.x (32 * c.loop-turn._turn) (g.V.View.seen c.args.view.now)
    (g.V.View.seen c.loop-turn.view) c.args.front.now c.loop-turn.front c.pass_row.new.front c.loop-turn.row
    c.loop-turn.invariant c.pass_row.ensures.passes
    (g.V.View.seen c.read.new.view) c.read.new.self c.in_err-read.field-0.0 c.in_err-read.ensures.viewed
    c.in_err-read.ensures.reads c.in_err-read.ensures.kept (omega arith) c.in_err-read.ensures.cause)

pub loop-turn-preserved : goal.loop-turn-preserved
loop-turn-preserved g c =
    rows_more c.args.x (32 * c.loop-turn._turn) (g.V.View.seen c.args.view.now)
    (g.V.View.seen c.loop-turn.view) c.args.front.now c.loop-turn.front c.pass_row.new.front c.loop-turn.row
    c.loop-turn.invariant c.pass_row.ensures.passes
    (g.V.View.seen c.read.new.view) c.read.new.self (32 * (c.loop-turn._turn + 1)) c.read.ensures.viewed
    c.read.ensures.reads c.read.ensures.kept (omega arith)

pub pass_row-requires-2-clause-inside : goal.pass_row-requires-2-clause-inside
pass_row-requires-2-clause-inside g c = omega (arith, c.requires.inside, c.loop-turn.invariant.block, c.cells-cells.ensures.cells, c.cells-cells.type_inv)

pub pass_row-requires-2-clause-places : goal.pass_row-requires-2-clause-places
pass_row-requires-2-clause-places g c = c.loop-turn.invariant.places

pub pass_row-requires-2-clause-below : goal.pass_row-requires-2-clause-below
pass_row-requires-2-clause-below g c = c.loop-turn.invariant.below

pub returns : goal.returns
returns g c =
    next_ends c.args.x (32 * c.loop-turn._turn) (g.V.View.seen c.args.view.now)
    (g.V.View.seen c.loop-turn.view) c.args.front.now c.loop-turn.front c.pass_row-2.new.front c.loop-turn.row
    c.loop-turn.invariant c.pass_row-2.ensures.passes
    (omega (arith, c.loop-turn.auto._turn-end)) c.pass_row-2.result c.pass_row-2.ensures.next
