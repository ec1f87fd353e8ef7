-- One more behind the last.
use Rattle.std.proofs.Common.{◌∙◌, ◌++◌, ◌∷◌, [], List, ap}
use Rattle.log_audit.specs.Chunks.{rows_over}
use Rattle.log_audit.specs.declared.written.WrittenCell.{WrittenCell}
use Rattle.log_audit.proofs.Chunking.{push_over}
use Rattle.log_audit.proofs.chunked.ChunkedRows.push.Goals as goal

pub returns-clause-adds : goal.returns-clause-adds
returns-clause-adds c =
    let mid = c.make_room.new.self in
    ap (λ (last : List WrittenCell). rows_over mid.full.items last) c.in_ok-push.ensures.items
    ∙ push_over mid.full.items mid.last.items c.args.row
    ∙ ap (λ (rows : List WrittenCell). rows ++ c.args.row ∷ []) c.in_ok-make_room.ensures.stays
