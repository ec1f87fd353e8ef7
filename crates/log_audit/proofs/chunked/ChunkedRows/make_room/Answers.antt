-- The last chunk is put to the full ones.
use Rattle.std.proofs.Common.{◌∙◌, ◌++◌, ◌∷◌, [], List, ap}
use Rattle.std.specs.Global.{Vec}
use Rattle.log_audit.specs.Chunks.{rows_over}
use Rattle.log_audit.specs.declared.written.WrittenCell.{WrittenCell}
use Rattle.log_audit.proofs.Chunking.{seal_over}
use Rattle.log_audit.proofs.chunked.ChunkedRows.make_room.Goals as goal

pub returns-clause-stays : goal.returns-clause-stays
returns-clause-stays c =
    let old = c.args.self.now in
    ap (λ (last : List WrittenCell). rows_over c.push.new.self.items last) (ap (λ (v : Vec WrittenCell). v.items) c.replace-chunk.ensures.after ∙ c.in_ok-fresh.ensures.items)
    ∙ ap (λ (full : List (Vec WrittenCell)). rows_over full []) (c.in-Ok.ensures.items ∙ ap (λ (full : List (Vec WrittenCell)). full ++ c.replace-chunk.result ∷ []) c.in_ok-reserve.ensures.items)
    ∙ seal_over old.full.items c.replace-chunk.result
    ∙ ap (λ (chunk : Vec WrittenCell). rows_over old.full.items chunk.items) c.replace-chunk.ensures.value
