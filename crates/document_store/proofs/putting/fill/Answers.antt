-- A piece, byte by byte.
use Rattle.std.proofs.Common.{arith}
use Rattle.cell_types.proofs.Passed.{handed}
use Rattle.document_store.proofs.PutSoFar.{fill_fails, fill_more, fill_whole}
use Rattle.document_store.proofs.putting.fill.Goals as goal

-- a byte was not read
pub returns-in_err-byte-clause-ends : goal.returns-in_err-byte-clause-ends
returns-in_err-byte-clause-ends g c =
    rw (handed c.from_residual.result c.in_err-byte.field-0.0 c.from_residual.ensures.1)
    (fill_fails c.loop-k.invariant c.in_err-byte.ensures.viewed c.read_byte.new.position c.in_err-byte.field-0.0
    (omega (arith, c.loop-k-test.true)) c.in_err-byte.ensures.ends)

-- one more
pub loop-k-preserved : goal.loop-k-preserved
loop-k-preserved g c =
    fill_more c.loop-k.invariant c.in_ok-byte.ensures.viewed c.read_byte.new.position c.in_ok-byte.byte
    (omega (arith, c.loop-k-test.true)) c.in_ok-byte.ensures.is c.in_ok-byte.ensures.start c.in_ok-byte.ensures.bytes
    c.in_ok-byte.ensures.reads c.in_ok-byte.ensures.ends

-- all of them
pub returns-clause-ends : goal.returns-clause-ends
returns-clause-ends g c = fill_whole c.loop-k.invariant (omega (arith, c.loop-k-test.false))
