-- The answer says whether it is that one.
use Rattle.std.proofs.Common.{rules}
use Rattle.document_store.proofs.Checking.{is_same, part_head}
use Rattle.document_store.proofs.identifier.same_identifier.Goals as goal

pub returns-clause-ends : goal.returns-clause-ends
returns-clause-ends g c =
    let read = c.in_ok-head.ensures.ends in (
      read.0,
      λ tells. is_same c.args.geometry.now c.args.part.now.slot (g.V.View.seen c.read_part.new.view).image
          c.in_ok-head.head
          (part_head c.args.geometry.now (g.V.View.seen c.args.view.now) (g.V.View.seen c.read_part.new.view)
          c.args.part.now c.read_part.ensures.viewed c.requires.part c.in_ok-head.head read.1 tells) c.args.id.now
          c.eq.result (search rules),
    )
