-- The identifier in the head.
use Rattle.std.proofs.Common.{rules}
use Rattle.cell_types.specs.Refusals.{refusal_of_fault}
use Rattle.cell_types.proofs.Passed.{handed}
use Rattle.document_store.proofs.Checking.{holds_identifier, identifier_fails, part_head}
use Rattle.document_store.proofs.identifier.identifier_of.Goals as goal

-- the document was not read
pub returns-in_err-head-clause-ends : goal.returns-in_err-head-clause-ends
returns-in_err-head-clause-ends g c =
    let old = g.V.View.seen c.args.view.now in
    let new = g.V.View.seen c.read_part.new.view in
    rw (handed c.from_residual.result (refusal_of_fault c.in_err-head.field-0.0)
    c.from_residual.ensures.1)
    (identifier_fails c.args.geometry.now c.args.part.now.slot old new c.in_err-head.field-0.0
    c.in_err-head.ensures.ends)

-- the slot holds a document with it
pub returns-clause-ends : goal.returns-clause-ends
returns-clause-ends g c =
    let read = c.in_ok-head.ensures.ends in (
      read.0,
      λ tells. holds_identifier c.args.geometry.now c.args.part.now.slot (g.V.View.seen c.read_part.new.view).image
          c.in_ok-head.head
          (part_head c.args.geometry.now (g.V.View.seen c.args.view.now) (g.V.View.seen c.read_part.new.view)
          c.args.part.now c.read_part.ensures.viewed c.requires.part c.in_ok-head.head read.1 tells) _ (search rules),
    )
