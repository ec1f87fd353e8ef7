-- The document was asked for, and then its cells were listed.
use Rattle.receipt_cells.proofs.Founding.{ask_fails, found_fails, kept_listed, not_kept, of_part}
use Rattle.receipt_cells.proofs.whole.list_kept.Goals as goal

-- it could not be asked for
pub returns-in-Err : goal.returns-in-Err
returns-in-Err g c = ask_fails c.args.slot c.args.id.now _ _ _ c.in-Err.why c.in-Err.ensures

-- it is not kept
pub returns-in_default : goal.returns-in_default
returns-in_default g c = not_kept c.args.slot c.args.id.now _ _ _ (rw c.in_default.is at c.in-Ok.ensures)

pub list_document-requires-clause-kept : goal.list_document-requires-clause-kept
list_document-requires-clause-kept g c =
    of_part c.args.slot c.args.id.now _ _ c.args.listed.now c.in-Some.document (rw c.in-Some.is at c.in-Ok.ensures)

-- its cells could not be listed
pub returns-in-Err-list_document : goal.returns-in-Err-list_document
returns-in-Err-list_document g c =
    found_fails c.args.slot c.args.id.now _ _ _ c.in-Some.document (rw c.in-Some.is at c.in-Ok.ensures) _ _
    c.in-Err-list_document.why (rw c.in-Err-list_document.is at c.list_document.ensures)

-- they were
pub returns : goal.returns
returns g c =
    kept_listed c.args.slot c.args.id.now _ _ _ c.in-Some.document (rw c.in-Some.is at c.in-Ok.ensures) _ _
    (rw c.in_default-list_document.is at c.list_document.ensures)
