-- What the source has given is the body before this turn and the piece of this turn.
use Rattle.std.proofs.Common.{arith, length-take}
use Rattle.cell_types.proofs.Passed.{handed}
use Rattle.volume_commands.proofs.Taken.{piece_failed, piece_too_long}
use Rattle.volume_commands.proofs.body.take_input.Goals as goal

pub returns-in_err-taken-clause-fails : goal.returns-in_err-taken-clause-fails
returns-in_err-taken-clause-fails g c =
    let state = g.S.Source.state in
    let invariant = c.loop-body.invariant in
    let fault = c.in_err-taken.field-0.0 in
    let piece = length-take c.min-room.result c.loop-body.piece in
    rw (handed c.from_residual.result fault c.from_residual.ensures.1)
    (piece_failed c.args.limit c.loop-body.body.items c.take_piece.new.body.items (state c.args.source.now)
    (state c.loop-body.source)
    (state c.take_piece.new.source) invariant.1 _
    (omega (arith, piece, c.min-room.ensures, c.len.ensures, invariant.0.most))
    fault c.in_err-taken.ensures invariant.0 invariant.2)

pub returns-then-len-limit-clause-fails : goal.returns-then-len-limit-clause-fails
returns-then-len-limit-clause-fails g c =
    let state = g.S.Source.state in
    let invariant = c.loop-body.invariant in
    let piece = length-take c.min-room.result c.loop-body.piece in
    piece_too_long c.args.limit c.loop-body.body.items c.take_piece.new.body.items (state c.args.source.now)
    (state c.loop-body.source)
    (state c.take_piece.new.source) invariant.1 _
    (omega (arith, piece, c.min-room.ensures, c.len.ensures, invariant.0.most))
    _ c.in_ok-taken.ensures (omega arith)
