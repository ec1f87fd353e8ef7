-- Cell 0 states a volume.
use Rattle.std.proofs.Common.{arith}
use Rattle.kept_documents.proofs.Opening.{of_volume}
use Rattle.kept_documents.proofs.kept.kept_document.Goals as goal

pub returns-in-Ok : goal.returns-in-Ok
returns-in-Ok g c =
    let h = c.in-Ok.ensures in
    of_volume c.in-Ok.volume c.args.slot c.args.id.now _ _ _ h.viewed (omega arith) h.ends.4 c.kept_in.result
    c.kept_in.ensures
