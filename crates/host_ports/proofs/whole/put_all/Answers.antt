-- What the sink has got is what had gone before this turn, and what this call took.
use Rattle.std.proofs.Common.{take, ◌++◌, ◌∙◌}
use Rattle.std.proofs.lemmas.Result.{err_from_is_err_and}
use Rattle.host_ports.proofs.Pieces.{gets_then, one_piece_more, part_more}
use Rattle.host_ports.proofs.whole.put_all.Goals as goal

pub returns-in_err-put-clause-part : goal.returns-in_err-put-clause-part
returns-in_err-put-clause-part g c =
    let invariant = c.loop-rest.invariant in
    let state = g.K.Sink.state in
    rw (err_from_is_err_and c.from_residual.result c.from_residual.ensures.1).1
    (part_more (state c.args.sink.now) (state c.loop-rest.sink) (state c.put.new.self) c.args.piece.now invariant.0
    c.loop-rest.rest.now invariant.1 invariant.2 invariant.3 c.in_err-put.ensures)

pub loop-rest-preserved : goal.loop-rest-preserved
loop-rest-preserved g c =
    let puts = c.in_ok-put.ensures in
    let state = g.K.Sink.state in
    let invariant = c.loop-rest.invariant in
    let more = take c.in_ok-put.put c.loop-rest.rest.now in (
      invariant.0 ++ more,
      one_piece_more c.args.piece.now invariant.0 c.loop-rest.rest.now c.in_ok-put.put invariant.1 puts.most,
      gets_then (state c.args.sink.now).held (state c.loop-rest.sink).held (state c.put.new.self).held invariant.0 more
          invariant.2 puts.gets,
      puts.faults ∙ invariant.3,
    )
