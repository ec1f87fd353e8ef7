-- A cell that is shown is one of the list.
use Rattle.receipt_text.proofs.Listing.{shown_is_listed}
use Rattle.receipt_text.proofs.laws.listed_are_cells.Goals as goal

pub returns : goal.returns
returns c = λ size cells are at value shown. shown_is_listed size 0 cells are at value shown
