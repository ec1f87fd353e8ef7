-- Each part in turn.
use Rattle.std.proofs.Common.{ℕ, List, sym, subst}
use Rattle.worm_device.proofs.Resting.{viewed_self, viewed_then}
use Rattle.document_store.specs.Looks.{HoldsBody}
use Rattle.document_store.proofs.Checking.{has_part_on}
use Rattle.receipt_cells.proofs.Bodying.{with_body}
use Rattle.receipt_cells.proofs.Founding.{holds_later}
use Rattle.receipt_cells.proofs.Wholing.{body_fails, cell_fails, path_ends, slot_fails}
use Rattle.receipt_cells.proofs.whole.list_document.Goals as goal

-- cell 0 could not be listed
pub returns-in-Err : goal.returns-in-Err
returns-in-Err g c =
    let d = c.args.document.now in
    cell_fails d.volume.geometry d.part.slot c.args.id.now _ _ _ _ c.in-Err.why (rw c.in-Err.is at c.list_cell.ensures)

-- the part goes on being one
pub list_part-requires-clause-part : goal.list_part-requires-clause-part
list_part-requires-clause-part g c =
    has_part_on c.args.document.now.volume.geometry (g.V.View.seen c.args.view.now) (g.V.View.seen c.list_cell.new.view)
    c.args.document.now.part c.list_cell.ensures.viewed c.requires.kept.part

-- nor the cells of the slot
pub returns-in-Err-list_part : goal.returns-in-Err-list_part
returns-in-Err-list_part g c =
    let d = c.args.document.now in
    slot_fails d.volume.geometry d.part.slot c.args.id.now _ _ _ _
    (rw c.in_default.is at c.list_cell.ensures) _ _ c.in-Err-list_part.why
    (rw c.in-Err-list_part.is at c.list_part.ensures)

-- nor those of the postings
pub returns-in-Err-list_body : goal.returns-in-Err-list_body
returns-in-Err-list_body g c =
    let d = c.args.document.now in
    let s2 = g.V.View.seen c.list_part.new.view in
    let viewed = viewed_then c.list_cell.ensures.viewed c.list_part.ensures.viewed in
    let listed = with_body d.volume.geometry d.part.slot s2 s2 c.list_part.new.listed (viewed_self s2) c.bytes.result.now
    (g.V.View.seen c.list_body.new.view) c.list_body.new.listed c.list_body.result
    (λ tells. subst (λ (b : List ℕ). HoldsBody d.volume.geometry s2.image d.part.slot b) (sym c.bytes.ensures)
    (holds_later d.part.slot c.args.id.now (g.V.View.seen c.args.view.now) s2 d c.requires.kept viewed tells))
    c.list_body.ensures in
    body_fails d.volume.geometry d.part.slot c.args.id.now _ _ _ _
    (rw c.in_default.is at c.list_cell.ensures) _ _ (rw c.in_default-list_part.is at c.list_part.ensures) _ _
    c.in-Err-list_body.why (rw c.in-Err-list_body.is at listed)

-- and at last those of the path
pub returns : goal.returns
returns g c =
    let d = c.args.document.now in
    let s2 = g.V.View.seen c.list_part.new.view in
    let viewed = viewed_then c.list_cell.ensures.viewed c.list_part.ensures.viewed in
    let listed = with_body d.volume.geometry d.part.slot s2 s2 c.list_part.new.listed (viewed_self s2) c.bytes.result.now
    (g.V.View.seen c.list_body.new.view) c.list_body.new.listed c.list_body.result
    (λ tells. subst (λ (b : List ℕ). HoldsBody d.volume.geometry s2.image d.part.slot b) (sym c.bytes.ensures)
    (holds_later d.part.slot c.args.id.now (g.V.View.seen c.args.view.now) s2 d c.requires.kept viewed tells))
    c.list_body.ensures in
    path_ends d.volume.geometry d.part.slot c.args.id.now _ _ _ _
    (rw c.in_default.is at c.list_cell.ensures) _ _ (rw c.in_default-list_part.is at c.list_part.ensures) _ _
    (rw c.in_default-list_body.is at listed) _ _ c.list_path.result c.list_path.ensures
