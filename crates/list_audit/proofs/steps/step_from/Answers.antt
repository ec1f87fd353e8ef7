-- The block lies on the device, and its entries are its front; the place of the key is in the block, or the block is full.
use Rattle.std.proofs.Common.{◌≤◌, ◌+◌, arith}
use Rattle.log_audit.specs.Kept.{image_of_kept}
use Rattle.list_audit.proofs.Closing.{block_inside}
use Rattle.list_audit.proofs.Stepping.{all_front, by_place}
use Rattle.list_audit.proofs.steps.step_from.Goals as goal

pub place_of-place-requires-clause-room : goal.place_of-place-requires-clause-room
place_of-place-requires-clause-room c =
    let inside : c.args.listed.now.block + 256 ≤ c.args.geometry.now.cells = block_inside c.cells-cells.ensures.exists c.requires.block in
    omega (arith, inside, c.cells-cells.ensures.exists.cells)

pub place_of-place-requires-clause-front : goal.place_of-place-requires-clause-front
place_of-place-requires-clause-front c = all_front c.requires.entries c.requires.block

pub step_at-requires-clause-room : goal.step_at-requires-clause-room
step_at-requires-clause-room c =
    let inside : c.args.listed.now.block + 256 ≤ c.args.geometry.now.cells = block_inside c.cells-cells.ensures.exists c.requires.block in
    omega (arith, inside, c.cells-cells.ensures.exists.cells)

pub step_on-requires-clause-room : goal.step_on-requires-clause-room
step_on-requires-clause-room c =
    let inside : c.args.listed.now.block + 256 ≤ c.args.geometry.now.cells = block_inside c.cells-cells.ensures.exists c.requires.block in
    omega (arith, inside, c.cells-cells.ensures.exists.cells)

pub returns-then-place-from : goal.returns-then-place-from
returns-then-place-from c = by_place c.args.geometry.now (image_of_kept c.args.kept.now) c.args.listed.now.list c.args.listed.now.block c.place_of-place.result
    c.args.posting.now c.step_at.result (all_front c.requires.entries c.requires.block)
    c.place_of-place.ensures
    (omega (arith, c.if-place-from.true, c.from.ensures)) c.step_at.ensures
