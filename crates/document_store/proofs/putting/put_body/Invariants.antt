-- So many bytes of the body were read and put.
use Rattle.std.proofs.Common.{◌≡◌, ◌-◌, length}
use Rattle.document_store.specs.declared.putting.TheConstants.{PIECE_BYTES}
use Rattle.document_store.proofs.PutSoFar.{PutSoFar}
use Rattle.document_store.proofs.putting.put_body.Given as goal

abbrev pub invariant-loop-put : goal.invariant-loop-put
invariant-loop-put g l =
    PutSoFar (g.V.View.seen l.fn.view) (g.V.View.seen l.view) l.start l.bytes l.fn.position l.position l.head
    (g.K.Sink.state l.fn.sink) (g.K.Sink.state l.sink) l.put
    × (length l.buffer ≡ PIECE_BYTES)

abbrev pub decreases-loop-put : goal.decreases-loop-put
decreases-loop-put g l = l.head.body_length - l.put
