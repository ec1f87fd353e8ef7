-- The first bytes of the piece were read.
use Rattle.std.proofs.Common.{length}
use Rattle.document_store.proofs.PutSoFar.{FillSoFar}
use Rattle.document_store.proofs.putting.fill.Given as goal

abbrev pub invariant-loop-k : goal.invariant-loop-k
invariant-loop-k g l =
    FillSoFar (g.V.View.seen l.fn.view) (g.V.View.seen l.view) l.fn.position l.position (length l.fn.into) l.k l.into
