-- So many bytes of the identifier were read.
use Rattle.document_store.proofs.SoFar.{HeadSoFar}
use Rattle.document_store.proofs.head.read_head.Given as goal

abbrev pub invariant-loop-k : goal.invariant-loop-k
invariant-loop-k g l =
    HeadSoFar (g.V.View.seen l.fn.view) (g.V.View.seen l.view) l.start l.bytes l.position l.id_length l.k l.id
