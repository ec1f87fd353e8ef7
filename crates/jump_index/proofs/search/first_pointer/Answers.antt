-- Each ending.
use Rattle.std.proofs.Common.{arith, inl, inr}
use Rattle.cell_types.proofs.Passed.{handed}
use Rattle.jump_index.proofs.PointerReads.{first_fault, first_outside}
use Rattle.jump_index.proofs.search.first_pointer.Goals as goal
use Rattle.jump_index.proofs.search.first_pointer.Goals.{then-target-bounds-via-then-target-bounds, then-target-bounds-via-else-target-bounds+then-from}

pub returns-in_err-to : goal.returns-in_err-to
returns-in_err-to g c =
    rw (handed c.from_residual.result c.in_err-to.field-0.0 c.from_residual.ensures.1)
    (first_fault c.args.bounds c.args.block c.args.first _ _ c.requires.level c.requires.some
    c.requires.digit c.in_err-to.field-0.0 c.in_err-to.ensures)

pub returns-then-target-bounds : goal.returns-then-target-bounds
returns-then-target-bounds g c =
    first_outside c.args.bounds c.args.block c.args.first _ _ c.requires.level c.requires.some c.requires.digit
    c.in-Some.target c.leads_nowhere.result
    (elim c.then-target-bounds.branch [
      | then-target-bounds-via-then-target-bounds w ↦ inl (omega arith)
      | then-target-bounds-via-else-target-bounds+then-from w ↦ inr (omega arith)
    ])
    (rw c.in-Some.is at c.in_ok-to.ensures) c.leads_nowhere.ensures
