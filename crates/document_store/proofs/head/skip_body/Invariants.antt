-- So many bytes of the body were read.
use Rattle.document_store.proofs.SoFar.{BodySoFar}
use Rattle.document_store.proofs.head.skip_body.Given as goal

abbrev pub invariant-loop : goal.invariant-loop
invariant-loop g l =
    BodySoFar (g.V.View.seen l.fn.view) (g.V.View.seen l.view) l.start l.bytes l.fn.position l.position l.head l.counter
