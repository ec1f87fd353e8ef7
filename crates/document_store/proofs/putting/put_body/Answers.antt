-- Piece by piece.
use Rattle.std.proofs.Common.{◌≡◌, ◌≤◌, ◌+◌, length, refl, arith}
use Rattle.cell_types.proofs.Passed.{handed}
use Rattle.document_store.specs.Putting.{put_fault_of}
use Rattle.document_store.specs.declared.putting.TheConstants.{PIECE_BYTES}
use Rattle.worm_device.proofs.Resting.{viewed_then}
use Rattle.document_store.proofs.PutSoFar.{buffer_size, piece_fails, piece_size, put_begins, put_fails, put_more, put_whole}
use Rattle.document_store.proofs.putting.put_body.Given.{Over}
use Rattle.document_store.proofs.putting.put_body.Goals.{After-fill}
use Rattle.document_store.proofs.putting.put_body.Goals as goal

-- a piece has as many bytes as were asked for, and the body has them
piece_fits : (g : Over) (c : After-fill g) → (length c.fill.new.into ≡ c.min-count.result)
    × (c.loop-put.put + c.min-count.result ≤ c.args.head.now.body_length)
piece_fits g c = (
  piece_size c.min-count.result PIECE_BYTES c.loop-put.buffer c.fill.new.into c.loop-put.invariant.1
      (omega (arith, c.min-count.ensures)) c.fill.ensures.length,
  omega (arith, c.min-count.ensures, c.loop-put.invariant.0.most),
)

-- nothing was put yet
pub loop-put-init : goal.loop-put-init
loop-put-init g c = (put_begins c.requires.head (g.K.Sink.state c.args.sink.now), refl)

-- a piece was not read
pub returns-in_err-fill-clause-ends : goal.returns-in_err-fill-clause-ends
returns-in_err-fill-clause-ends g c =
    let fits = piece_fits g (goal.at.returns-in_err-fill-clause-ends g c).After-fill in
    rw (handed c.from_residual.result (put_fault_of c.in_err-fill.field-0.0) c.from_residual.ensures.1)
    (piece_fails c.requires.head c.loop-put.invariant.0 c.fill.ensures.viewed c.fill.new.position c.fill.new.into
    c.in_err-fill.field-0.0 (omega (arith, fits.0, fits.1)) c.in_err-fill.ensures.ends)

-- it was not put
pub returns-in_default-clause-ends : goal.returns-in_default-clause-ends
returns-in_default-clause-ends g c =
    put_fails c.requires.head c.loop-put.invariant.0 c.fill.ensures.viewed c.fill.new.position c.fill.new.into
    c.fill.ensures.is c.fill.ensures.reads c.in_ok-fill.ensures.ends (g.K.Sink.state c.put_all.new.sink)
    c.in_default.ensures.part

-- it was
pub loop-put-preserved : goal.loop-put-preserved
loop-put-preserved g c =
    let fits = piece_fits g (goal.at.loop-put-preserved g c).After-fill in (
      put_more c.requires.head c.loop-put.invariant.0 c.fill.ensures.viewed c.fill.new.position c.fill.new.into
          c.fill.ensures.is c.fill.ensures.reads c.in_ok-fill.ensures.ends (g.K.Sink.state c.put_all.new.sink)
          c.min-count.result fits.0 fits.1 c.in-Ok.ensures.whole c.in-Ok.ensures.faults,
      buffer_size c.min-count.result PIECE_BYTES c.loop-put.buffer c.fill.new.into c.loop-put.invariant.1
          (omega (arith, c.min-count.ensures)) fits.0,
    )

-- all of them were
pub returns-clause-ends : goal.returns-clause-ends
returns-clause-ends g c =
    put_whole c.requires.head c.loop-put.invariant.0 (omega (arith, c.loop-put-test.false))

-- each piece changes what the view has seen in turn
pub returns-in_err-fill-clause-viewed : goal.returns-in_err-fill-clause-viewed
returns-in_err-fill-clause-viewed g c = viewed_then c.loop-put.invariant.0.read.viewed c.fill.ensures.viewed

pub returns-in_default-clause-viewed : goal.returns-in_default-clause-viewed
returns-in_default-clause-viewed g c = viewed_then c.loop-put.invariant.0.read.viewed c.fill.ensures.viewed

pub returns-clause-viewed : goal.returns-clause-viewed
returns-clause-viewed g c = c.loop-put.invariant.0.read.viewed
