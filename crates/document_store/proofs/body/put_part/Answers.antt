-- The document was taken, or not.
use Rattle.document_store.proofs.Bodies.{put_in_part}
use Rattle.document_store.proofs.body.put_part.Goals as goal

pub returns-in-Err-clause-ends : goal.returns-in-Err-clause-ends
returns-in-Err-clause-ends g c =
    put_in_part c.args.geometry.now c.args.part.now (g.V.View.seen c.args.view.now)
    (g.V.View.seen c.take_part.new.view) (g.K.Sink.state c.args.sink.now) (g.K.Sink.state c.take_part.new.sink)
    c.take_part.ensures.viewed c.requires.part c.requires.whole c.in-Err.fault c.in-Err.ensures.ends
