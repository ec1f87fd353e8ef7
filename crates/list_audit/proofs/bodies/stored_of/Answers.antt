-- No content cell is missing; one cell more, and all of them.
use Rattle.std.proofs.Common.{◌++◌, ℕ, take, ◌∙◌, ap, arith}
use Rattle.log_audit.specs.Kept.{image_of_kept}
use Rattle.list_audit.proofs.Spelling.{none_missing, one_cell}
use Rattle.list_audit.proofs.bodies.stored_of.Goals as goal

pub unreachable-requires : goal.unreachable-requires
unreachable-requires c = none_missing c.requires.spells (omega (arith, c.loop-place-test.true, c.document_cells-place-end.ensures)) c.in_default.ensures.none

pub loop-place-preserved : goal.loop-place-preserved
loop-place-preserved c = one_cell (image_of_kept c.args.kept.now) c.args.start c.args.bytes c.loop-place.place c.loop-place.invariant
    (omega (arith, c.loop-place-test.true, c.document_cells-place-end.ensures)) c.in-Some.ensures.some
    (c.in_ok-extend_from_slice.ensures.items ∙ ap (λ (n : ℕ). c.loop-place.stored.items ++ take n c.in-Some.held.bytes) c.from.ensures)
