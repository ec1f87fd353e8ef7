-- The trail of one posting.
use Rattle.std.proofs.Common.{ℕ, ap, ◌∙◌}
use Rattle.cell_types.specs.Layout.{list_at}
use Rattle.receipt_cells.proofs.Rowing.{row_listed}
use Rattle.receipt_cells.proofs.postings.list_row.Goals as goal

pub returns : goal.returns
returns g c =
    row_listed c.args.geometry.now c.args.row.now _ _ _ _ _ _ _ c.list_trail.result c.pool_at.ensures.at
    (c.list_at.ensures.at ∙ ap (λ (l : ℕ). list_at c.args.geometry.now l) c.list.ensures)
    c.posting.ensures c.list_trail.ensures
