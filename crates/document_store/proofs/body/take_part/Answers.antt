-- What was read, and what went out.
use Rattle.std.proofs.Common.{subst}
use Rattle.document_store.specs.Putting.{PutFails}
use Rattle.document_store.specs.declared.putting.PutFault.{PutFault}
use Rattle.document_store.proofs.Bodies.{take_breaks, taken}
use Rattle.document_store.proofs.body.take_part.Goals as goal

-- the document was taken
pub returns-in-Ok-clause-ends : goal.returns-in-Ok-clause-ends
returns-in-Ok-clause-ends g c =
    let ends = c.in-Ok.ensures.ends in
    taken c.args.geometry.now c.args.part.now (g.V.View.seen c.args.view.now)
    (g.V.View.seen c.put_document.new.view) (g.K.Sink.state c.args.sink.now) (g.K.Sink.state c.put_document.new.sink)
    c.put_document.ensures.viewed c.requires.part c.in-Ok.head ends.0 ends.1 ends.2

-- it is broken
pub returns-in-Err-Broken-clause-ends : goal.returns-in-Err-Broken-clause-ends
returns-in-Err-Broken-clause-ends g c =
    let part = c.args.part.now in
    let old = g.V.View.seen c.args.view.now in
    let new = g.V.View.seen c.put_document.new.view in
    let from = g.K.Sink.state c.args.sink.now in
    let to = g.K.Sink.state c.put_document.new.sink in
    let fails = subst (λ (f : PutFault). PutFails part.start part.bytes old new from to f) c.in-Err-Broken.field-0-is
    c.in-Err-Broken.ensures.ends in
    rw c.from.ensures
    (rw c.name_commit.ensures
    (take_breaks c.args.geometry.now part old new from to c.put_document.ensures.viewed c.requires.part fails))
