-- The row there is the one.
use Rattle.std.proofs.Common.{sym, ◌∙◌, ap, Some}
use Rattle.list_audit.proofs.table.is_row_at.Goals as goal

pub returns : goal.returns
returns c = λ yes. sym c.row_at.ensures ∙ c.in-Some.is ∙ ap Some (c.is_same_row.ensures yes)
