-- What the head tells of the document.
use Rattle.document_store.proofs.Checking.{has_stored, part_head}
use Rattle.document_store.proofs.checked.check.Goals as goal

pub returns-clause-ends : goal.returns-clause-ends
returns-clause-ends g c =
    let read = c.in_ok-head.ensures.ends in (
      read.0,
      λ tells. has_stored c.args.geometry.now c.args.part.now.slot (g.V.View.seen c.read_part.new.view).image
          c.in_ok-head.head
          (part_head c.args.geometry.now (g.V.View.seen c.args.view.now) (g.V.View.seen c.read_part.new.view)
          c.args.part.now c.read_part.ensures.viewed c.requires.part c.in_ok-head.head read.1 tells) read.1.id_length,
    )
