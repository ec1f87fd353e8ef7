-- The cell is blank; or it is written, and listed.
use Rattle.std.proofs.Common.{sym}
use Rattle.receipt_cells.proofs.Listing.{none_listed, one_listed}
use Rattle.receipt_cells.proofs.cells.list_cell.Goals as goal

-- it is blank
pub returns-in_default-found : goal.returns-in_default-found
returns-in_default-found g c =
    let h = rw c.in_default-found.is at c.in-Ok.ensures in
    record {
      viewed = h.viewed;
      ends = λ tells. none_listed c.args.at _ _ _ h.viewed.image (sym (h.answer tells));
    }

-- it is listed
pub returns : goal.returns
returns g c =
    let h = rw c.in-Some.is at c.in-Ok.ensures in
    record {
      viewed = h.viewed;
      ends = λ tells. one_listed c.args.at c.in-Some.value _ _ c.in_ok-add.ensures.image _ _ (sym (h.answer tells));
    }
