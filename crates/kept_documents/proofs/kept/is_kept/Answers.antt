-- The document itself was asked for.
use Rattle.kept_documents.proofs.Opening.{ask_fails, keeps_body}
use Rattle.kept_documents.proofs.kept.is_kept.Goals as goal

pub returns-in-Ok-Some : goal.returns-in-Ok-Some
returns-in-Ok-Some g c =
    keeps_body c.args.slot c.args.id.now _ _ c.in-Ok-Some.document (rw c.in-Ok-Some.field-0-is at c.in-Ok-Some.ensures)

pub returns-in-Err : goal.returns-in-Err
returns-in-Err g c = ask_fails c.args.slot c.args.id.now _ _ c.in-Err.why c.in-Err.ensures
