-- The whole document, and its body once more.
use Rattle.document_store.proofs.Bodies.{body_from}
use Rattle.document_store.proofs.Checking.{has_part_on, holds_some}
use Rattle.document_store.proofs.body.body_into.Goals as goal

-- what was read whole is the slot's document
pub put_part-requires-clause-part : goal.put_part-requires-clause-part
put_part-requires-clause-part g c =
    has_part_on c.args.geometry.now (g.V.View.seen c.args.view.now) (g.V.View.seen c.read_part.new.view)
    c.args.part.now c.read_part.ensures.viewed c.requires.part

pub put_part-requires-clause-whole : goal.put_part-requires-clause-whole
put_part-requires-clause-whole g c =
    holds_some c.args.geometry.now (g.V.View.seen c.args.view.now) (g.V.View.seen c.read_part.new.view)
    c.args.part.now c.read_part.ensures.viewed c.requires.part c.in_ok-_checked._checked c.in_ok-_checked.ensures.ends.1

pub returns-clause-ends : goal.returns-clause-ends
returns-clause-ends g c =
    body_from c.args.geometry.now c.args.part.now.slot (g.V.View.seen c.args.view.now)
    (g.V.View.seen c.read_part.new.view) (g.V.View.seen c.put_part.new.view) (g.K.Sink.state c.args.sink.now)
    (g.K.Sink.state c.put_part.new.sink) c.read_part.ensures.viewed c.put_part.ensures.viewed
    c.in_ok-_checked.ensures.ends.0 c.put_part.result c.put_part.ensures.ends
